-- The parent of a region lies on all four sides of every cell of the region.
--   every_beside    == a law of the cells beside each other in rows and in columns is a law of all side-by-side cells
--   round w h n i   == the region round the piece at the north-west corner of cell i
--   top_side w i     == the dart that runs east along the top side of cell i
--   nook w h n t    == the name of the cell north-west of the point t
--   inner w h n t x y == the cell in column x and row y lies inside the piece with the least point t
--   Amid w h P x y  == in the row of the cell, and in its column, cells before and after it have P
--   Used w h n r    == the name r is borne by its own cell
--   parentage w h n == the table of parents, by name
use mathlib.Core.Path.{◌≡◌, refl, sym, ap, ◌∙◌}
use mathlib.Core.Bool.{true}
use mathlib.Core.List.{List}
use mathlib.Core.Logic.{◌≢◌}
use Prim.Native.Nat.{ℕ, zero, suc, ◌+◌, ◌*◌, ◌/◌, ◌%◌, ◌<◌, ◌≤◌}
use native.Mathlib.Nat.{zero-mul, suc-mul, add-zero}
use native.Mathlib.Nat.{mul-add-mod_self_right, mod-eq_of_lt, mul-add-div_right, div-eq_of_lt}
use native.Mathlib.Omega.{arith}
use lib.Dec.{lit<}
use lib.ListN.{get_or}
use borrow.Author.Tests.{ne_eqb, eqb-true}
use Rattle.laws.proofs.Least.{step, linked_same}
use Rattle.laws.proofs.Parity.{Amid, amid_map, inside_amid}
use Rattle.point_darts.specs.Dart.{mark, dart, point}
use Rattle.point_darts.specs.Point.{corner}
use Rattle.point_darts.proofs.Darts.{place, point_dart}
use Rattle.paper.specs.Name.{names, named, cells}
use Rattle.paper.specs.Level.{border}
use Rattle.paper.specs.Enclosure.{top_side}
use Rattle.paper_laws.proofs.Name.{Beside, cell_below, chain_name, name_chain}
use Rattle.paper_laws.proofs.First.{every_cell, top_side_cell, named_cell, named_cases, top_side_on}
use Rattle.paper_laws.proofs.Kept.{top}
use Rattle.paper_laws.proofs.Enclosure.{Head, line_head, head_side, round, round_below}
use Rattle.paper_laws.proofs.Enclosure.{Used, parentage, parents_own}
use Rattle.paper_laws.proofs.Parity.{sheet_edged, nook, inner, inner_east, inner_south, top_inner}

-- Side-by-side cells by column and row.
module _ (w h : ℕ) where
  pub cell_column : (x y : ℕ) → x < w → (y * w + x) % w ≡ x
  cell_column x y l = mul-add-mod_self_right y w x ∙ mod-eq_of_lt l

  pub cell_row : (x y : ℕ) → x < w → (y * w + x) / w ≡ y
  cell_row x y l =
      let z : 0 < w = omega arith in
      mul-add-div_right z y x ∙ ap (λ i. y + i) (div-eq_of_lt l) ∙ add-zero y

  module _ (P : ℕ → ℕ → Type 0)
      (east : (x y : ℕ) → suc x < w → y < h → P (y * w + x) (y * w + suc x))
      (south : (x y : ℕ) → x < w → suc y < h → P (y * w + x) (suc y * w + x)) where
    beside_east : (x y : ℕ) → x < w → y < h → (i : ℕ) → 0 < x → y * w + x ≡ i + 1 → P i (y * w + x)
    beside_east zero y a b i p e = absurd (omega arith)
    beside_east (suc x) y a b i p e =
        let q : i ≡ y * w + x = omega arith in
        rw q (east x y a b)

    beside_south : (x y : ℕ) → x < w → y < h → (i : ℕ) → y * w + x ≡ i + w → P i (y * w + x)
    beside_south x zero a b i e = absurd (omega (arith, zero-mul w))
    beside_south x (suc y) a b i e =
        let q : i ≡ y * w + x = omega (arith, suc-mul y w) in
        rw q (south x y a b)

    pub every_beside : (i j : ℕ) → Beside w h i j → P i j
    every_beside i j (Beside.row b p e) =
        every_cell w h (λ j. 0 < j % w → j ≡ i + 1 → P i j)
        (λ x y l m p. beside_east x y l m i (rw (cell_column x y l) at p)) j b p e
    every_beside i j (Beside.column b e) =
        every_cell w h (λ j. j ≡ i + w → P i j) (λ x y l m. beside_south x y l m i) j b e

-- The regions of a sheet of labels s.
module _ (w h : ℕ) (s : List ℕ) where
  abbrev n : List ℕ
  n = names w h s

  -- what is the same at cells of one name beside each other is the same at all cells of the name
  module _ {A : Type 0} (g : ℕ → ℕ → A)
      (east : (x y : ℕ) → x ≤ w → named w h n x y ≡ named w h n (suc x) y → g (suc x) y ≡ g x y)
      (south : (x y : ℕ) → x ≤ w → named w h n x y ≡ named w h n x (suc y) → g x (suc y) ≡ g x y) where
    at : ℕ → A
    at i = g (suc (i % w)) (suc (i / w))

    at_cell : (x y : ℕ) → x < w → at (y * w + x) ≡ g (suc x) (suc y)
    unfolding at
    at_cell x y l = rw (cell_column w h x y l, cell_row w h x y l)

    at_east : (x y : ℕ) → suc x < w → y < h → get_or n (y * w + x) 0 ≡ get_or n (y * w + suc x) 0
        → at (y * w + x) ≡ at (y * w + suc x)
    at_east x y l m q =
        let k : x < w = omega arith in
        let e = named_cell w h n x y k m ∙ q ∙ sym (named_cell w h n (suc x) y l m) in
        at_cell x y k ∙ sym (at_cell (suc x) y l ∙ east (suc x) (suc y) (omega arith) e)

    at_south : (x y : ℕ) → x < w → suc y < h → get_or n (y * w + x) 0 ≡ get_or n (suc y * w + x) 0
        → at (y * w + x) ≡ at (suc y * w + x)
    at_south x y l m q =
        let k : y < h = omega arith in
        let e = named_cell w h n x y l k ∙ q ∙ sym (named_cell w h n x (suc y) l m) in
        at_cell x y l ∙ sym (at_cell x (suc y) l ∙ south (suc x) (suc y) l e)

    at_same : (i j : ℕ) → i < w * h → j < w * h → get_or n i 0 ≡ get_or n j 0 → at i ≡ at j
    at_same i j b d e =
        linked_same at
        (λ i j k. every_beside w h (λ i j. get_or n i 0 ≡ get_or n j 0 → at i ≡ at j) at_east at_south
        i j k.beside (chain_name w h s (step k)))
        (name_chain w h s i j b d e)

    pub region_same : (x y u v : ℕ) → x < w → y < h → u < w → v < h
        → get_or n (y * w + x) 0 ≡ get_or n (v * w + u) 0 → g (suc x) (suc y) ≡ g (suc u) (suc v)
    region_same x y u v a b c d e =
        sym (at_cell x y a) ∙ at_same (y * w + x) (v * w + u) (cell_below w h x y a b) (cell_below w h u v c d) e
        ∙ at_cell u v c

-- the cells of a name all lie inside a piece, or none does
pub region_inside : (w h : ℕ) (s : List ℕ) (t x y u v : ℕ) → x < w → y < h → u < w → v < h
    → get_or (names w h s) (y * w + x) 0 ≡ get_or (names w h s) (v * w + u) 0
    → inner w h (names w h s) t (suc x) (suc y) ≡ inner w h (names w h s) t (suc u) (suc v)
region_inside w h s t x y u v a b c d e =
    let l = names w h s in
    region_same w h s (inner w h l t) (λ j k _. inner_east w h l t j k) (λ j k _. inner_south w h l t j k)
    x y u v a b c d e

pub region_named : (w h : ℕ) (s : List ℕ) (t i x y u v : ℕ)
    → named w h (names w h s) x y ≡ suc i → named w h (names w h s) u v ≡ suc i
    → inner w h (names w h s) t x y ≡ inner w h (names w h s) t u v
region_named w h s t i x y u v e f =
    let l = names w h s in
    named_cases w h l (λ r. r ≡ suc i → inner w h l t x y ≡ inner w h l t u v) x y (λ e. absurd (omega arith))
    (λ a b p q j k e.
    named_cases w h l (λ r. r ≡ suc i → inner w h l t x y ≡ inner w h l t u v) u v (λ f. absurd (omega arith))
    (λ c d p' q' j' k' f. rw (p, q, p', q') (region_inside w h s t a b c d j k j' k' (e ∙ sym f))) f)
    e

-- The region whose first cell is in column x and row y, and the region round its outer piece.
module _ (w h : ℕ) (s : List ℕ) (x y : ℕ) (a : x < w) (b : y < h)
    (own : get_or (names w h s) (y * w + x) 0 ≡ suc (y * w + x)) where
  abbrev i : ℕ
  i = y * w + x

  abbrev l : List ℕ
  l = names w h s

  abbrev t : ℕ
  t = top w h (border w h l) (place w x y)

  first_line : border w h l (dart (place w x y) 0) ≡ true
  first_line = rw (top_side_cell w x y a) at (top_side_on w h s i (cell_below w h x y a b) own)

  first_head : Head w h (border w h l) t
  first_head = rw (point_dart (place w x y) 0 (lit< tt)) at (line_head w h l (dart (place w x y) 0) first_line)

  round_nook : round w h l i ≡ nook w h l t
  unfolding round corner cells
  round_nook = rw (top_side_cell w x y a, point_dart (place w x y) 0 (lit< tt)) (head_side w h l first_head)

  other : suc i ≢ nook w h l t
  other e = omega (arith, round_below w h s i (cell_below w h x y a b) own, round_nook)

  -- the first cell lies inside
  first_inner : inner w h l t (suc x) (suc y) ≡ true
  first_inner =
      top_inner w h l t x y (omega arith) first_line refl
      (λ e. other (sym (named_cell w h l x y a b ∙ own) ∙ e))

  -- and with it all of the region
  region_inner : (u v : ℕ) → named w h l u v ≡ suc i → inner w h l t u v ≡ true
  region_inner u v e =
      region_named w h s t i u v (suc x) (suc y) e (named_cell w h l x y a b ∙ own) ∙ first_inner

  region_amid : (u v : ℕ) → named w h l u v ≡ suc i → Amid w h (λ j k. named w h l j k ≡ round w h l i) u v
  region_amid u v e =
      rw round_nook
      (amid_map (λ j k. eqb-true (named w h l j k) (nook w h l t))
      (inside_amid (sheet_edged w h l (nook w h l t) t) u v (region_inner u v e)
      (ne_eqb (named w h l u v) (nook w h l t) (λ q. other (sym e ∙ q)))))

-- the cells of a region lie inside its outer piece
pub outer_inner : (w h : ℕ) (s : List ℕ) (i : ℕ) → i < w * h → get_or (names w h s) i 0 ≡ suc i → (u v : ℕ)
    → named w h (names w h s) u v ≡ suc i
    → inner w h (names w h s) (top w h (border w h (names w h s)) (point (top_side w i))) u v ≡ true
outer_inner w h s i b own u v =
    let l = names w h s in
    every_cell w h
    (λ i. get_or l i 0 ≡ suc i → named w h l u v ≡ suc i
    → inner w h l (top w h (border w h l) (point (top_side w i))) u v ≡ true)
    (λ x y p q own. rw (top_side_cell w x y p, point_dart (place w x y) 0 (lit< tt)) (region_inner w h s x y p q own u v))
    i b own

-- in the row of each cell of a region, and in its column, cells before and after it are of the region's parent
pub parent_amid : (w h : ℕ) (s : List ℕ) (r : ℕ) → Used w h (names w h s) r → (x y : ℕ)
    → named w h (names w h s) x y ≡ r
    → Amid w h (λ j k. named w h (names w h s) j k ≡ get_or (parentage w h (names w h s)) r mark) x y
parent_amid w h s r u x y e =
    rw (u.bears, parents_own w h s u.cell u.below u.own)
    (every_cell w h
    (λ i. get_or (names w h s) i 0 ≡ suc i → named w h (names w h s) x y ≡ suc i
    → Amid w h (λ j k. named w h (names w h s) j k ≡ round w h (names w h s) i) x y)
    (λ c d a b own. region_amid w h s c d a b own x y) u.cell u.below u.own (e ∙ u.bears))
