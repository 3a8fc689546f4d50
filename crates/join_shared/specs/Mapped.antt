-- Links that are those of a map.
--   Mapped s n o    == of the darts that have a next by the table n: next and other by the table o are such darts again, others
--                      come in pairs, and next keeps the side by the table s
--   Bare n o        == a dart that has no next by the table n has no other by the table o
use Rattle.std.specs.Prelude.{◌≡◌, true, false, List, ℕ}
use Rattle.point_darts.specs.Dart.{mark}
use Rattle.paper.specs.Joining.{at, on}

pub record Mapped (s n o : List ℕ) : Type 0 where
  pub stays : (d : ℕ) → on n d ≡ true → on n (at n d) ≡ true
  pub across : (d : ℕ) → on n d ≡ true → on n (at o d) ≡ true
  pub pairs : (d : ℕ) → on n d ≡ true → at o (at o d) ≡ d
  pub keeps : (d : ℕ) → on n d ≡ true → at s (at n d) ≡ at s d

pub record Bare (n o : List ℕ) : Type 0 where
  pub none : (d : ℕ) → on n d ≡ false → at o d ≡ mark
