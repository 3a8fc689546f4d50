-- Pieces by the region round them.
--   round_at s t p   == by the sides s and the tops t, the region round the piece of which p is the least point: the side of the
--                      dart that leads back to p from the east; the mark where p is the least of none
--   pieces s t r    == how many pieces the region r lies round
--   Sized s t       == there are four sides for each of the tops
use Rattle.std.specs.Prelude.{◌≡◌, cond, List, ℕ, ◌+◌, ◌*◌, ◌<◌, eqb, length, get_or}
use Rattle.laws.specs.Table.{count}
use Rattle.point_darts.specs.Dart.{mark, dart}
use Rattle.paper.specs.Joining.{at}

unfoldable pub round_at : List ℕ → List ℕ → ℕ → ℕ
round_at s t p = cond (eqb (get_or t p 0) p) (at s (dart (p + 1) 2)) mark

unfoldable pub pieces : List ℕ → List ℕ → ℕ → ℕ
pieces s t r = count (length t) (λ p. eqb (round_at s t p) r)

pub record Sized (s t : List ℕ) : Type 0 where
  pub four : length s ≡ 4 * length t
  pub some : 0 < length t
  pub fits : length s < mark
