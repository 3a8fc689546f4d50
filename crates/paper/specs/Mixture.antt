-- The calls of two editors in any mixture (request T-06): what one of them is replied and has left is what it would be without the other.
--   after_all w h o t l == the tables after the calls l, one after another, by the owners o
--   replies_to e ..  == the replies to the calls of the editor e among them
--   own e l         == the calls of the editor e among the calls l
--   region w h t i  == the name of the region that cell i is of, in the drawing t
--   SameRegion w h r t u == in the drawings t and u the name r is in use or not, has its cells and its two totals alike
use Rattle.std.specs.Prelude.{◌≡◌, cond, List, [], ◌∷◌, ℕ, ◌*◌, ◌<◌, eqb}
use Rattle.paper.specs.Name.{label}
use Rattle.paper.specs.Drawing.{Tables, recovered}
use Rattle.paper.specs.Joining.{at}
use Rattle.paper.specs.Refusal.{used}
use Rattle.paper.specs.Editor.{Call, reply, after}

unfoldable pub after_all : ℕ → ℕ → List ℕ → Tables → List Call → Tables
after_all w h o t [] = t
after_all w h o t (c ∷ l) = after_all w h o (after w h o t c) l

unfoldable pub replies_to : ℕ → ℕ → ℕ → List ℕ → Tables → List Call → List ℕ
replies_to e w h o t [] = []
replies_to e w h o t (c ∷ l) =
    let later = replies_to e w h o (after w h o t c) l in
    cond (eqb c.editor e) (reply w h o t c ∷ later) later

unfoldable pub own : ℕ → List Call → List Call
own e [] = []
own e (c ∷ l) = cond (eqb c.editor e) (c ∷ own e l) (own e l)

-- by the names that the sides of the drawing tell
unfoldable pub region : ℕ → ℕ → Tables → ℕ → ℕ
region w h t i = label (recovered w h t.side1) i

pub record SameRegion (w h r : ℕ) (t u : Tables) : Type 0 where
  pub present : used t.parent r ≡ used u.parent r
  pub cells : (i : ℕ) → i < w * h → eqb (region w h t i) r ≡ eqb (region w h u i) r
  pub cell_total : at t.cells r ≡ at u.cells r
  pub border_total : at t.borders r ≡ at u.borders r
