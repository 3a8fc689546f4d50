-- Lists of joins (request T-10): names two by two, joined one after another up to the first refusal; and the grouping of cells
-- that tells what any such list leaves, in whatever order it joins.
--   pairs l         == the entries of a list of names, two by two
--   whole w n       == a list of n names may be lent for a sheet of width w: it is even, and not too long
--   Stop            == where a list stops: the number of the refusal, 0 for none; its place, from 0, which is how many entries were
--                      joined; the tables after these joins
--   stop k i t      == a stop with the number k at the place i, with the tables t
--   unless k i t s  == such a stop; the stop s where the number is 0
--   joins w h i l t == where the entries l stop, the first of them at the place i, joined in the tables t
--   list_tests ..    == the tests of the call, in order, before the entries; n is the length of the list
--   list_stop ..     == where the call stops
--   merged_list ..   == the outcome of joining by a list
--   grouping s      == of the cells that have the labels s: two are together where their labels are equal
--   grouped w h t   == of the cells of a drawing: two are together where they are of one region
--   Alike w h f g   == two groupings of the cells of a sheet are the same
use Rattle.std.specs.Prelude.{◌≡◌, Bool, cond, ◌&&◌, List, [], ◌∷◌, ◌++◌, ℕ, zero, suc, ◌*◌, ◌%◌, ◌<◌, eqb, leb, length}
use Rattle.laws.specs.First.{first_failed}
use Rattle.paper.specs.Name.{label}
use Rattle.paper.specs.Drawing.{Tables, recovered, is_drawing}
use Rattle.paper.specs.Joining.{joined}
use Rattle.paper.specs.Refusal.{Outcome, ended, work_left, stated, seven, size_tests, pair_tests}

unfoldable pub pairs : List ℕ → List (ℕ × ℕ)
pairs [] = []
pairs (a ∷ []) = []
pairs (a ∷ b ∷ l) = (a, b) ∷ pairs l

-- at most 5,183 pairs, 7,919 for wide sheets
unfoldable pub whole : ℕ → ℕ → Bool
whole w n = eqb (n % 2) 0 && leb n (2 * cond (leb w 72) 5183 7919)

pub record Stop : Type 0 where
  pub number : ℕ
  pub place : ℕ
  pub tables : Tables

abbrev pub stop : ℕ → ℕ → Tables → Stop
stop k i t = record { number = k; place = i; tables = t }

unfoldable pub unless : ℕ → ℕ → Tables → Stop → Stop
unless zero i t s = s
unless (suc k) i t s = stop (suc k) i t

unfoldable pub joins : ℕ → ℕ → ℕ → List (ℕ × ℕ) → Tables → Stop
joins w h i [] t = stop 0 i t
joins w h i (e ∷ l) t =
    unless (first_failed (pair_tests w h t.side1 t.parent e.0 e.1)) i t
    (joins w h (suc i) l (joined w h t e.0 e.1))

unfoldable pub list_tests : ℕ → ℕ → Tables → ℕ → List (List ℕ) → List (Bool × ℕ)
list_tests w h t n ws = size_tests w h (stated w h t ws) ++ (whole w n, 12) ∷ (is_drawing w h t, 5) ∷ []

unfoldable pub list_stop : ℕ → ℕ → Tables → List ℕ → List (List ℕ) → Stop
list_stop w h t l ws = unless (first_failed (list_tests w h t (length l) ws)) 0 t (joins w h 0 (pairs l) t)

-- a refusal tells its place
unfoldable pub placed : ℕ → ℕ → List ℕ
placed zero i = []
placed (suc k) i = i ∷ []

unfoldable pub merged_list : ℕ → ℕ → Tables → List ℕ → List (List ℕ) → Outcome
merged_list w h t l ws =
    let s = list_stop w h t l ws in
    ended s.number (placed s.number s.place) (seven s.tables) (work_left s.number ws)

unfoldable pub grouping : List ℕ → ℕ → ℕ → Bool
grouping s i j = eqb (label s i) (label s j)

-- by the names that the sides of the drawing tell
unfoldable pub grouped : ℕ → ℕ → Tables → ℕ → ℕ → Bool
grouped w h t = grouping (recovered w h t.side1)

abbrev pub Alike : ℕ → ℕ → (ℕ → ℕ → Bool) → (ℕ → ℕ → Bool) → Type 0
Alike w h f g = (i j : ℕ) → i < w * h → j < w * h → f i j ≡ g i j
