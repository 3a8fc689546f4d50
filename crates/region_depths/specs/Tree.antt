-- A table of parents, by name.
--   known t r       == r is the outside or a name in use
--   Falls t         == the parent of each name in use is a smaller name, and is the outside or in use too
use Rattle.std.specs.Prelude.{◌≡◌, Bool, true, ◌||◌, List, ℕ, ◌<◌, eqb}
use Rattle.paper.specs.Joining.{at, on}

unfoldable pub known : List ℕ → ℕ → Bool
known t r = eqb r 0 || on t r

pub record Falls (t : List ℕ) : Type 0 where
  pub down : (r : ℕ) → on t r ≡ true → at t r < r
  pub held : (r : ℕ) → on t r ≡ true → known t (at t r) ≡ true
