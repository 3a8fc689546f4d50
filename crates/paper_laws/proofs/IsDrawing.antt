-- The test of refusal 5: seven tables are the drawing of some sheet exactly where they are the drawing of the labels
-- that their sides of level 1 tell. Those labels are the names of the sheet.
--   sides w h n     == the sides of level 1 of the sheet whose cells have the names n
--   hung w i        == the north dart of the left line of cell i
--   told w t v i    == the label of cell i by the table t of sides, where v is the label to its left
--   Carried n v i   == v is the name of the cell before cell i, by the table n, where there is one
use mathlib.Core.Path.{◌≡◌, refl, sym, ap, ap₂, ◌∙◌}
use mathlib.Core.Bool.{Bool, true, false, cond, ◌&&◌}
use mathlib.Core.List.{List, ◌∷◌}
use mathlib.Core.Logic.{◌↔◌}
use Prim.Native.Nat.{ℕ, zero, suc, ◌+◌, ◌*◌, ◌/◌, ◌≤◌, ◌<◌}
use native.Mathlib.Nat.{mul-add-div_right, div-eq_of_lt}
use native.Mathlib.Nat.{add-zero, zero-add, suc-mul, mul-add}
use native.Mathlib.Omega.{arith}
use lib.Dec.{eqb}
use lib.ListN.{length, get_or}
use borrow.Author.Tests.{eq-eqb, ne_eqb}
use Rattle.laws.specs.Equal.{equal}
use Rattle.laws.specs.Table.{listed, table}
use Rattle.laws.proofs.Equal.{equal_own, equal_iff}
use Rattle.laws.proofs.Table.{table_entries}
use Rattle.laws.proofs.Test.{and_true, and_left, and_right}
use Rattle.point_darts.specs.Dart.{mark, slots, dart}
use Rattle.point_darts.proofs.Darts.{place}
use Rattle.paper.specs.Name.{names, named}
use Rattle.paper.specs.Level.{side, border, plain, level, marked}
use Rattle.paper.specs.Drawing.{Tables, Drawn, drawn, drawing, recover, recovered, same, is_drawing}
use Rattle.paper.specs.Joining.{at}
use Rattle.paper_laws.proofs.Cells.{named_west}
use Rattle.paper_laws.proofs.Name.{cell_below, length_names, name_range, names_names}
use Rattle.paper_laws.proofs.First.{every_cell, named_cell}
use Rattle.paper_laws.proofs.Sheet.{across, side_north, across_north, border_below, border_agrees}
use Rattle.paper_laws.proofs.Marks.{at_held, at_free, names_side_small}

hung : ℕ → ℕ → ℕ
hung w i = dart (i + i / w + (w + 1)) 3

hung_place : (w x y : ℕ) → x < w → hung w (y * w + x) ≡ dart (place w x (suc y)) 3
unfolding hung place
hung_place w x y a =
    let z : 0 < w = omega arith in
    let e : (y * w + x) / w ≡ y = mul-add-div_right z y x ∙ rw (div-eq_of_lt a) (add-zero y) in
    ap (λ p. dart p 3) (rw (e, suc-mul y (w + 1), mul-add y w 1) (omega arith))

told : ℕ → List ℕ → ℕ → ℕ → ℕ
told w t v i = let d = at t (hung w i) in cond (eqb d mark) v d

-- what recovering takes from the left
Carried : List ℕ → ℕ → ℕ → Type 0
Carried n v i = (j : ℕ) → i ≡ suc j → v ≡ get_or n j 0

carried_first : (n : List ℕ) (v : ℕ) → Carried n v 0
unfolding Carried
carried_first n v j e = absurd (omega arith)

carried_next : (n : List ℕ) (v i : ℕ) → v ≡ get_or n i 0 → Carried n v (suc i)
unfolding Carried
carried_next n v i p j e = let q : i ≡ j = omega arith in rw (← q) p

abbrev sides : ℕ → ℕ → List ℕ → List ℕ
sides w h n = marked w h (border w h n) (side w h n)

-- A sheet whose cells have the names n, none of them 0, the name of the outside.
module _ (w h : ℕ) (n : List ℕ) (positive : (i : ℕ) → i < w * h → 1 ≤ get_or n i 0) where
  -- the side of the dart is the cell
  hung_side : (i : ℕ) → i < w * h → side w h n (hung w i) ≡ get_or n i 0
  hung_side = every_cell w h (λ i. side w h n (hung w i) ≡ get_or n i 0)
      (λ x y a b.
      let l : x ≤ w = omega arith in
      rw (hung_place w x y a) (side_north w h n x (suc y) l ∙ named_cell w h n x y a b))

  -- and left of it is the cell before, or the outside
  hung_across : (x y : ℕ) → x < w → across w h n (hung w (y * w + x)) ≡ named w h n x (suc y)
  hung_across x y a = let l : x ≤ w = omega arith in rw (hung_place w x y a) (across_north w h n x (suc y) l)

  carried_name : (v x y : ℕ) → x < w → y < h → Carried n v (y * w + x)
      → get_or n (y * w + x) 0 ≡ named w h n x (suc y) → v ≡ get_or n (y * w + x) 0
  unfolding Carried
  carried_name v zero y a b c e =
      absurd (omega (arith, positive (y * w + 0) (cell_below w h 0 y a b), e, named_west w h n (suc y)))
  carried_name v (suc x) y a b c e =
      let l : x < w = omega arith in
      c (y * w + x) (omega arith) ∙ sym (named_cell w h n x y l b) ∙ sym e

  -- where the line is no border, the cell has the name of the cell before
  hung_carried : (v i : ℕ) → i < w * h → Carried n v i
      → side w h n (hung w i) ≡ across w h n (hung w i) → v ≡ get_or n i 0
  hung_carried v = every_cell w h
      (λ i. Carried n v i → side w h n (hung w i) ≡ across w h n (hung w i) → v ≡ get_or n i 0)
      (λ x y a b c e.
      carried_name v x y a b c (sym (hung_side (y * w + x) (cell_below w h x y a b)) ∙ e ∙ hung_across x y a))

  module _ (small : (d : ℕ) → side w h n d < mark) where
    told_name : (v i : ℕ) → i < w * h → Carried n v i → told w (sides w h n) v i ≡ get_or n i 0
    unfolding told
    told_name v i l c = go (border w h n (hung w i)) refl
      where
        go : (t : Bool) → border w h n (hung w i) ≡ t → told w (sides w h n) v i ≡ get_or n i 0
        go true e =
            rw (
              at_held w h (border w h n) (side w h n) (border_below w h n) (hung w i) e,
              ne_eqb (side w h n (hung w i)) mark (λ q. omega (arith, small (hung w i))),
            )
            (hung_side i l)
        go false e =
            rw (at_free w h (border w h n) (side w h n) (border_below w h n) (hung w i) e, eq-eqb mark mark refl)
            (hung_carried v i l c (border_agrees w h n (hung w i) e))

    recover_names : (k i v : ℕ) → i + k ≡ w * h → Carried n v i
        → recover w (sides w h n) v i k ≡ listed (λ j. get_or n j 0) i k
    unfolding recover listed told at hung
    recover_names zero i v e c = refl
    recover_names (suc k) i v e c =
        let u = told w (sides w h n) v i in
        let p = told_name v i (omega arith) c in
        ap₂ ◌∷◌ p (recover_names k (suc i) u (omega arith) (carried_next n u i p))

    -- the labels that are recovered are the names
    pub recovered_sides : length n ≡ w * h → recovered w h (sides w h n) ≡ n
    unfolding recovered table
    recovered_sides e =
        recover_names (w * h) 0 mark (zero-add (w * h)) (carried_first n mark) ∙ table_entries (w * h) n 0 e

-- The names of a sheet are such names.
module _ (w h : ℕ) (s : List ℕ) where
  pub recovered_names : slots w h ≤ mark → recovered w h (drawing w h s).side1 ≡ names w h s
  unfolding drawing drawn level plain
  recovered_names fits =
      recovered_sides w h (names w h s) (λ i b. (name_range w h s i b).0) (names_side_small w h s fits)
      (length_names w h s)

  -- the names as labels make the same drawing
  pub same_drawing : drawing w h (names w h s) ≡ drawing w h s
  unfolding drawing
  same_drawing = ap (drawn w h) (names_names w h s)

-- So a drawing tells the names of its sheet.
pub recovered_drawn : (w h : ℕ) → slots w h ≤ mark → (t : Tables) (d : Drawn w h t) → recovered w h t.side1 ≡ names w h d.labels
recovered_drawn w h fits t d =
    ap (λ (u : Tables). recovered w h u.side1) (sym d.same) ∙ recovered_names w h d.labels fits

-- Tables are the same where they are equal: each of the seven is equal.
all_seven : (a b c d e f g : Bool) → (a && b && c && d && e && f && g) ≡ true
    → (a ≡ true) × (b ≡ true) × (c ≡ true) × (d ≡ true) × (e ≡ true) × (f ≡ true) × (g ≡ true)
all_seven a b c d e f g p =
    let u = and_left (a && b && c && d && e && f) g p in
    let v = and_left (a && b && c && d && e) f u in
    let q = and_left (a && b && c && d) e v in
    let r = and_left (a && b && c) d q in
    let s = and_left (a && b) c r in (
      and_left a b s,
      and_right a b s,
      and_right (a && b) c r,
      and_right (a && b && c) d q,
      and_right (a && b && c && d) e v,
      and_right (a && b && c && d && e) f u,
      and_right (a && b && c && d && e && f) g p,
    )

same_equal : (t u : Tables) → same t u ≡ true → t ≡ u
unfolding same
same_equal t u e =
    let p = all_seven (equal t.next1 u.next1) (equal t.side1 u.side1) (equal t.next3 u.next3)
    (equal t.other3 u.other3) (equal t.parent u.parent) (equal t.cells u.cells) (equal t.borders u.borders) e in
    λ i. record {
      next1 = (equal_iff t.next1 u.next1).0 p.0 i;
      side1 = (equal_iff t.side1 u.side1).0 p.1 i;
      next3 = (equal_iff t.next3 u.next3).0 p.2 i;
      other3 = (equal_iff t.other3 u.other3).0 p.3 i;
      parent = (equal_iff t.parent u.parent).0 p.4 i;
      cells = (equal_iff t.cells u.cells).0 p.5 i;
      borders = (equal_iff t.borders u.borders).0 p.6 i;
    }

same_own : (t : Tables) → same t t ≡ true
unfolding same
same_own t =
    let plain = and_true (equal_own t.next1) (equal_own t.side1) in
    let links = and_true (and_true plain (equal_own t.next3)) (equal_own t.other3) in
    and_true (and_true (and_true links (equal_own t.parent)) (equal_own t.cells)) (equal_own t.borders)

pub same_iff : (t u : Tables) → (same t u ≡ true) ↔ (t ≡ u)
same_iff t u = (same_equal t u, λ e. rw (← e) (same_own t))

-- The labels that are recovered are as many as the cells.
length_recover : (w : ℕ) (t : List ℕ) (k i v : ℕ) → length (recover w t v i k) ≡ k
unfolding recover
length_recover w t zero i v = refl
length_recover w t (suc k) i v = ap suc (length_recover w t k (suc i) _)

pub length_recovered : (w h : ℕ) (t : List ℕ) → length (recovered w h t) ≡ w * h
unfolding recovered
length_recovered w h t = length_recover w t (w * h) 0 mark

-- What passes the test is a drawing, and every drawing passes it.
module _ (w h : ℕ) (t : Tables) where
  pub is_drawing_drawn : is_drawing w h t ≡ true → Drawn w h t
  unfolding is_drawing
  is_drawing_drawn e =
      record {
        labels = recovered w h t.side1;
        sized = length_recovered w h t.side1;
        same = sym ((same_iff t (drawing w h (recovered w h t.side1))).0 e);
      }

  pub drawn_is_drawing : slots w h ≤ mark → Drawn w h t → is_drawing w h t ≡ true
  unfolding is_drawing
  drawn_is_drawing fits d =
      rw (← d.same, recovered_names w h d.labels fits, same_drawing w h d.labels)
      (same_own (drawing w h d.labels))

  pub is_drawing_right : slots w h ≤ mark → (is_drawing w h t ≡ true) ↔ Drawn w h t
  is_drawing_right fits = (is_drawing_drawn, drawn_is_drawing fits)
