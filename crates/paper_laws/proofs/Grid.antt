-- Level 0, all the lines of the sheet, is level 1 of the sheet whose cells all differ; level 1 is level 0 without the
-- lines between cells of one name.
--   own w h         == the table of names that gives every cell its own
--   grid w h        == the map of level 0
--   called n        == the name by the table n of a cell's own name, 0 of the outside
use mathlib.Core.Path.{◌≡◌, refl, sym, ap, ◌∙◌, subst, fun_ext}
use mathlib.Core.Bool.{Bool, true, false, cond, ◌&&◌}
use mathlib.Core.List.{List, map}
use Prim.Native.Nat.{ℕ, zero, suc, ◌+◌, ◌*◌, ◌<◌, ◌≤◌}
use native.Mathlib.Nat.{suc-mul}
use native.Mathlib.Decide.{dec_lt}
use native.Mathlib.Omega.{arith}
use lib.Dec.{ltb}
use lib.ListN.{get_or}
use borrow.Author.Tests.{lt-ltb, ltb-true}
use Rattle.laws.specs.Table.{table}
use Rattle.laws.proofs.Test.{same_test}
use Rattle.laws.proofs.Table.{get_or_table}
use Rattle.laws.proofs.Chart.{Map, Chart, less}
use Rattle.point_darts.specs.Dart.{dart, point, direction, line}
use Rattle.point_darts.specs.Point.{right, parts}
use Rattle.paper.specs.Name.{named, cells}
use Rattle.point_darts.proofs.Darts.{place, every_line, reversal_east, reversal_south}
use Rattle.paper_laws.proofs.Name.{cell_below}
use Rattle.paper_laws.proofs.Cells.{named_west, named_north, named_east, named_south, named_map}
use Rattle.paper.specs.Level.{side, border, next}
use Rattle.paper_laws.proofs.Sheet.{side_east, side_south, across_east, across_south, differs_border, border_line}
use Rattle.paper_laws.proofs.Sheet.{border_back, lines_map, sheet, sheet_chart}
use Rattle.paper_laws.proofs.Fewer.{fewer_side, fewer_border, fewer_next}

abbrev pub own : ℕ → ℕ → List ℕ
own w h = table (w * h) suc

module _ (w h : ℕ) where
  pub named_own : (x y : ℕ) → x < w → y < h → named w h (own w h) (suc x) (suc y) ≡ suc (y * w + x)
  unfolding named
  named_own x y a b = rw (lt-ltb x w a, lt-ltb y h b) (get_or_table (w * h) suc (y * w + x) 0 (cell_below w h x y a b))

  -- cells above one another differ, and the outermost differ from the outside
  rows_differ : 1 ≤ h → (x y : ℕ) → x < w → y ≤ h
      → named w h (own w h) (suc x) (suc y) ≡ named w h (own w h) (suc x) y → ⊥
  rows_differ z x zero a b e = omega (arith, sym (named_own x 0 a z) ∙ e ∙ named_north w h (own w h) (suc x))
  rows_differ z x (suc y) a b e = go (dec_lt (suc y) h)
    where
      low : named w h (own w h) (suc x) (suc y) ≡ suc (y * w + x)
      low = named_own x y a b

      go : Dec (suc y < h) → ⊥
      go (yes l) = omega (arith, sym (named_own x (suc y) a l) ∙ e ∙ low, suc-mul y w)
      go (no l) =
          let k : h < suc (suc y) = omega arith in
          omega (arith, sym (named_south w h (own w h) (suc x) (suc (suc y)) k) ∙ e ∙ low)

  -- cells beside one another differ, and the outermost differ from the outside
  columns_differ : 1 ≤ w → (x y : ℕ) → x ≤ w → y < h
      → named w h (own w h) x (suc y) ≡ named w h (own w h) (suc x) (suc y) → ⊥
  columns_differ z zero y a b e = omega (arith, sym (named_own 0 y z b) ∙ sym e ∙ named_west w h (own w h) (suc y))
  columns_differ z (suc x) y a b e = go (dec_lt (suc x) w)
    where
      low : named w h (own w h) (suc x) (suc y) ≡ suc (y * w + x)
      low = named_own x y a b

      go : Dec (suc x < w) → ⊥
      go (yes l) = omega (arith, sym (named_own (suc x) y l b) ∙ sym e ∙ low)
      go (no l) =
          let k : w < suc (suc x) = omega arith in
          omega (arith, sym (named_east w h (own w h) (suc (suc x)) (suc y) k) ∙ sym e ∙ low)

-- a sheet with a cell
module _ (w h : ℕ) (v : 1 ≤ w) (u : 1 ≤ h) where
  border_east : (x y : ℕ) → x < w → y ≤ h → border w h (own w h) (dart (place w x y) 0) ≡ true
  border_east x y a b =
      let l : x ≤ w = omega arith in
      differs_border w h (own w h) (dart (place w x y) 0)
      (λ e. rows_differ w h u x y a b (sym (side_east w h (own w h) x y l) ∙ e ∙ across_east w h (own w h) x y l))

  border_south : (x y : ℕ) → x ≤ w → y < h → border w h (own w h) (dart (place w x y) 1) ≡ true
  border_south x y a b =
      differs_border w h (own w h) (dart (place w x y) 1)
      (λ e. columns_differ w h v x y a b (sym (side_south w h (own w h) x y a) ∙ e ∙ across_south w h (own w h) x y a))

  line_border : (d : ℕ) → line w h d ≡ true → border w h (own w h) d ≡ true
  line_border = every_line w h (λ d. border w h (own w h) d ≡ true) border_east border_south
      (λ x y a b. rw (reversal_east w x y) at (border_back w h (own w h) (dart (place w x y) 0) (border_east x y a b)))
      (λ x y a b. rw (reversal_south w x y) at (border_back w h (own w h) (dart (place w x y) 1) (border_south x y a b)))

  -- where all cells differ, every line is a border
  pub own_border : (d : ℕ) → border w h (own w h) d ≡ line w h d
  own_border d = same_test (border w h (own w h) d) (line w h d) (border_line w h (own w h) d) (line_border d)

unfoldable pub grid : ℕ → ℕ → Map
unfolding lines_map
grid w h = lines_map w h (line w h) (side w h (own w h))

module _ (w h : ℕ) (v : 1 ≤ w) (u : 1 ≤ h) where
  pub own_grid : sheet w h (own w h) ≡ grid w h
  unfolding sheet grid
  own_grid = ap (λ on. lines_map w h on (side w h (own w h))) (fun_ext (own_border w h v u))

  pub grid_chart : Chart (grid w h)
  grid_chart = subst Chart own_grid (sheet_chart w h (own w h))

-- the name by the table n of a cell's own name
unfoldable pub called : List ℕ → ℕ → ℕ
called n zero = 0
called n (suc i) = get_or n i 0

outside : (n : List ℕ) → called n 0 ≡ 0
unfolding called
outside n = refl

module _ (w h : ℕ) (n : List ℕ) where
  called_cond : (x y : ℕ) (a b : Bool) → ltb x w ≡ a → ltb y h ≡ b
      → called n (cond (a && b) (get_or (own w h) (y * w + x) 0) 0) ≡ cond (a && b) (get_or n (y * w + x) 0) 0
  unfolding called
  called_cond x y true true p q =
      rw (get_or_table (w * h) suc (y * w + x) 0 (cell_below w h x y (ltb-true x w p) (ltb-true y h q)))
  called_cond x y true false p q = refl
  called_cond x y false b p q = refl

  called_named : (x y : ℕ) → called n (named w h (own w h) x y) ≡ named w h n x y
  unfolding called named
  called_named zero y = refl
  called_named (suc x) zero = refl
  called_named (suc x) (suc y) = called_cond x y (ltb x w) (ltb y h) refl refl

  called_map : (x y : ℕ) → named w h (map (called n) (own w h)) x y ≡ named w h n x y
  called_map x y = named_map w h (own w h) (called n) (outside n) x y ∙ called_named x y

  called_cells : (p : ℕ) → cells w h (map (called n) (own w h)) p ≡ cells w h n p
  unfolding cells
  called_cells p = simp called_map

  called_side : (d : ℕ) → side w h (map (called n) (own w h)) d ≡ side w h n d
  unfolding side
  called_side d = ap (λ c. right c (direction d)) (called_cells (point d))

  called_border : border w h (map (called n) (own w h)) ≡ border w h n
  unfolding border
  called_border = fun_ext (λ d. ap (λ c. parts c (direction d)) (called_cells (point d)))

  pub grid_side : (d : ℕ) → side w h n d ≡ (less (grid w h) (called n)).side d
  unfolding less grid
  grid_side d = sym (called_side d) ∙ fewer_side w h (own w h) (called n) (outside n) d

-- level 1 is level 0 without the lines between cells of one name
module _ (w h : ℕ) (v : 1 ≤ w) (u : 1 ≤ h) (n : List ℕ) where
  pub grid_border : (d : ℕ) → border w h n d ≡ (less (grid w h) (called n)).on d
  grid_border d =
      ap (λ on. on d) (sym (called_border w h n)) ∙ fewer_border w h (own w h) (called n) (outside n) d
      ∙ ap (λ m. (less m (called n)).on d) (own_grid w h v u)

  pub grid_next : (d : ℕ) → border w h n d ≡ true → next w (border w h n) d ≡ (less (grid w h) (called n)).nx d
  grid_next d e =
      ap (λ on. next w on d) (sym (called_border w h n))
      ∙ fewer_next w h (own w h) (called n) (outside n) d (ap (λ on. on d) (called_border w h n) ∙ e)
      ∙ ap (λ m. (less m (called n)).nx d) (own_grid w h v u)
