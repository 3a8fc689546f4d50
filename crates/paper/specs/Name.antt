-- Regions and their names (the paper, "Sheet, names, points and darts").
-- A sheet is a width w, a height h and the list s of its labels, row by row.
--   west w s i      == the cell west of cell i where both have one label, else i; north likewise
--   names w h s     == the names of the cells: 1 plus the first cell of the region
--   cells w h n p   == the four cells round point p, named by the table n, the outside named 0
use Rattle.std.specs.Prelude.{cond, ◌&&◌, List, [], ◌∷◌, map, ℕ, zero, suc, ◌+◌, ◌*◌, ◌-◌, ◌/◌, ◌%◌, eqb, ltb, leb, get_or}
use Rattle.laws.specs.Least.{least}

unfoldable pub label : List ℕ → ℕ → ℕ
label s i = get_or s i 0

unfoldable pub west : ℕ → List ℕ → ℕ → ℕ
west w s i = cond (ltb 0 (i % w) && eqb (label s i) (label s (i - 1))) (i - 1) i

unfoldable pub north : ℕ → List ℕ → ℕ → ℕ
north w s i = cond (leb w i && eqb (label s i) (label s (i - w))) (i - w) i

unfoldable pub names : ℕ → ℕ → List ℕ → List ℕ
names w h s = map suc (least (w * h) (west w s) (north w s))

-- the name of the cell in column x - 1 and row y - 1 of the sheet
unfoldable pub named : ℕ → ℕ → List ℕ → ℕ → ℕ → ℕ
named w h n zero y = 0
named w h n (suc x) zero = 0
named w h n (suc x) (suc y) = cond (ltb x w && ltb y h) (get_or n (y * w + x) 0) 0

unfoldable pub cells : ℕ → ℕ → List ℕ → ℕ → List (List ℕ)
cells w h n p =
    let x = p % (w + 1) in
    let y = p / (w + 1) in
    (named w h n x y ∷ named w h n (suc x) y ∷ []) ∷ (named w h n x (suc y) ∷ named w h n (suc x) (suc y) ∷ []) ∷ []
