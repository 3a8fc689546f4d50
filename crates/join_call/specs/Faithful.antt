-- What a join promises of its tables (the paper, the third demand).
--   Faithful w h t u a b == from the drawing t the joining of a and b led to the tables u: they are the drawing afresh,
--                      and a curve neither of whose ends touches a removed curve keeps its links
use Rattle.std.specs.Prelude.{◌≡◌, true, List, ℕ}
use Rattle.paper.specs.Drawing.{Tables, drawing}
use Rattle.paper.specs.Joining.{on}
use Rattle.paper.specs.Sitting.{Untouched, Keeps}

pub record Faithful (w h : ℕ) (t u : Tables) (a b : ℕ) : Type 0 where
  pub fresh : (s : List ℕ) → drawing w h s ≡ t → u ≡ Rattle.paper.specs.Drawing.fresh w h s a b
  pub untouched : (d : ℕ) → on t.next3 d ≡ true → Untouched t a b d → Keeps t u d
