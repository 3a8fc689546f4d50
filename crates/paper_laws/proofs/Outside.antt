-- The totals of the outside: no cell, and the 2 (w + h) lines of the sheet's rim.
--   inside m i      == the column i, counted from 1, is one of the sheet's m columns; a row likewise
--   rim d           == dart d is a border line of the outside: outside on the right hand, a cell on the left
-- A sheet without a cell has no border, so the lines are counted for a width and a height above 0.
use mathlib.Core.Path.{◌≡◌, refl, sym, ap₂, ◌∙◌}
use mathlib.Core.Bool.{Bool, true, false, not, ◌&&◌, and-true, and-false}
use mathlib.Core.List.{List}
use Prim.Native.Nat.{ℕ, zero, suc, ◌+◌, ◌*◌, ◌<◌, ◌≤◌, zero-le}
use native.Mathlib.Nat.{le_refl, one-mul, mul-one, mul_comm}
use native.Mathlib.Numerals.{add-one}
use native.Mathlib.Omega.{arith}
use lib.Dec.{eqb, ltb}
use lib.ListN.{get_or}
use borrow.Author.Tests.{lt-ltb, le-ltb, ltb-true, ltb-false, ne_eqb, not-true}
use Rattle.laws.specs.Table.{count}
use Rattle.laws.proofs.Test.{and_right}
use Rattle.laws.proofs.Table.{count_agree}
use Rattle.laws.proofs.Count.{count_nothing, count_single, count_product}
use Rattle.point_darts.specs.Dart.{points, slots, dart}
use Rattle.point_darts.proofs.Darts.{place}
use Rattle.point_darts.proofs.Count.{count_darts, count_before, count_after}
use Rattle.paper.specs.Name.{label, names, named}
use Rattle.paper.specs.Level.{side, border}
use Rattle.paper.specs.Total.{cells_of, borders_of, total, totals}
use Rattle.paper.specs.Drawing.{Tables, drawn, drawing, Drawn}
use Rattle.paper.specs.Joining.{at}
use Rattle.paper_laws.proofs.Added.{at_totals}
use Rattle.paper_laws.proofs.Name.{cell_below, name_range}
use Rattle.paper_laws.proofs.Sheet.{across, border_sides}
use Rattle.paper_laws.proofs.Sheet.{side_east, side_south, side_west, side_north}
use Rattle.paper_laws.proofs.Sheet.{across_east, across_south, across_west, across_north}

unfoldable inside : ℕ → ℕ → Bool
inside m zero = false
inside m (suc i) = ltb i m

-- Of the columns from 0 to m.
module _ (m : ℕ) where
  -- how many are inside, and how many have the next inside
  count_inside : count (suc m) (λ i. inside m i) ≡ m
  unfolding inside
  count_inside = count_agree (λ i. inside m i) (λ i. ltb 0 i) (suc m) same ∙ count_after m
    where
      same : (i : ℕ) → i < suc m → inside m i ≡ ltb 0 i
      same zero l = refl
      same (suc i) l = lt-ltb i m (omega arith) ∙ sym (lt-ltb 0 (suc i) (omega arith))

  count_next : count (suc m) (λ i. inside m (suc i)) ≡ m
  unfolding inside
  count_next = count_before m

  -- one outside has the next inside, and one inside has the next outside
  module _ (z : 0 < m) where
    count_enter : count (suc m) (λ i. inside m (suc i) && not (inside m i)) ≡ 1
    unfolding inside
    count_enter =
        count_single (λ i. inside m (suc i) && not (inside m i)) 0 (rw (lt-ltb 0 m z)) (suc m) (omega arith) only
      where
        only : (i : ℕ) → i < suc m → (inside m (suc i) && not (inside m i)) ≡ true → i ≡ 0
        only zero l e = refl
        only (suc i) l e =
            let f = ltb-false i m (not-true _ (and_right (inside m (suc (suc i))) (not (inside m (suc i))) e)) in
            absurd (omega arith)

    count_leave : count (suc m) (λ i. inside m i && not (inside m (suc i))) ≡ 1
    unfolding inside
    count_leave =
        count_single (λ i. inside m i && not (inside m (suc i))) m (own m z) (suc m) (omega arith)
        (λ i l e. omega (arith, ltb-false i m (not-true _ (and_right (inside m i) (not (inside m (suc i))) e))))
      where
        own : (m : ℕ) → 0 < m → (inside m m && not (inside m (suc m))) ≡ true
        own zero l = absurd (omega arith)
        own (suc m) l = rw (lt-ltb m (suc m) (le_refl (suc m)), le-ltb (suc m) (suc m) (le_refl (suc m)))

-- a border with the outside on the right has a cell on the left
outer_hands : (s a : ℕ) → (not (eqb s a) && eqb s 0) ≡ (not (eqb a 0) && not (not (eqb s 0)))
outer_hands zero zero = refl
outer_hands zero (suc a) = rw (ne_eqb 0 (suc a) (omega arith), ne_eqb (suc a) 0 (omega arith))
outer_hands (suc s) a = rw (ne_eqb (suc s) 0 (omega arith)) (and-false (not (eqb (suc s) a)) ∙ sym (and-false (not (eqb a 0))))

-- the two hands in one column, or in one row
one_column : (c r q : Bool) → ((c && r) && not (c && q)) ≡ ((r && not q) && c)
one_column true r q = sym (and-true (r && not q))
one_column false r q = sym (and-false (r && not q))

one_row : (c d r : Bool) → ((c && r) && not (d && r)) ≡ (r && (c && not d))
one_row c d true = rw (and-true c, and-true d)
one_row c d false = rw (and-false c)

-- The names of a sheet of labels s.
module _ (w h : ℕ) (s : List ℕ) where
  abbrev n : List ℕ
  n = names w h s

  -- every cell has a name that is not the outside's
  name_inner : (i : ℕ) → i < w * h → eqb (label n i) 0 ≡ false
  unfolding label
  name_inner i b = let r = name_range w h s i b in ne_eqb (get_or n i 0) 0 (omega arith)

  pub outside_cells : cells_of w h (names w h s) 0 ≡ 0
  unfolding cells_of
  outside_cells = count_nothing (λ i. eqb (label n i) 0) (w * h) name_inner

  -- a name by column and row is a cell's exactly inside the sheet
  named_inside : (x y : ℕ) → not (eqb (named w h n x y) 0) ≡ (inside w x && inside h y)
  unfolding named inside label
  named_inside zero y = refl
  named_inside (suc x) zero = sym (and-false (ltb x w))
  named_inside (suc x) (suc y) = go (ltb x w) (ltb y h) refl refl
    where
      go : (a b : Bool) → ltb x w ≡ a → ltb y h ≡ b
          → not (eqb (named w h n (suc x) (suc y)) 0) ≡ (a && b)
      go true true p q = rw (p, q, name_inner (y * w + x) (cell_below w h x y (ltb-true x w p) (ltb-true y h q)))
      go true false p q = rw (p, q)
      go false b p q = rw p

  -- the border lines of the outside
  abbrev rim : ℕ → Bool
  rim d = border w h n d && eqb (side w h n d) 0

  -- by the place of the cell on either hand
  rim_hands : (d u v x y : ℕ) → side w h n d ≡ named w h n u v → across w h n d ≡ named w h n x y
      → rim d ≡ ((inside w x && inside h y) && not (inside w u && inside h v))
  rim_hands d u v x y p q =
      rw (border_sides w h n d, p, q, outer_hands (named w h n u v) (named w h n x y), named_inside u v, named_inside x y)

  -- the darts of direction k: as many rows as r passes times as many columns as c passes
  count_rim : (k : ℕ) (r c : ℕ → Bool) → ((x y : ℕ) → x ≤ w → rim (dart (place w x y) k) ≡ (r y && c x))
      → count (suc h * suc w) (λ p. rim (dart p k)) ≡ count (suc h) r * count (suc w) c
  unfolding place
  count_rim k r c e =
      count_product (suc w) (suc h) (λ p. rim (dart p k)) r c
      (λ x y l m. rw (add-one w) at (e x y (omega arith)))

  -- each direction has the lines of one edge of the sheet
  module _ (wide : 0 < w) (high : 0 < h) where
    rim_east : count (suc h * suc w) (λ p. rim (dart p 0)) ≡ w
    rim_east =
        count_rim 0 (λ y. inside h y && not (inside h (suc y))) (λ x. inside w (suc x))
        (λ x y l. rim_hands (dart (place w x y) 0) (suc x) (suc y) (suc x) y (side_east w h n x y l) (across_east w h n x y l)
        ∙ one_column (inside w (suc x)) (inside h y) (inside h (suc y)))
        ∙ ap₂ ◌*◌ (count_leave h high) (count_next w)
        ∙ one-mul w

    rim_south : count (suc h * suc w) (λ p. rim (dart p 1)) ≡ h
    rim_south =
        count_rim 1 (λ y. inside h (suc y)) (λ x. inside w (suc x) && not (inside w x))
        (λ x y l. rim_hands (dart (place w x y) 1) x (suc y) (suc x) (suc y) (side_south w h n x y l) (across_south w h n x y l)
        ∙ one_row (inside w (suc x)) (inside w x) (inside h (suc y)))
        ∙ ap₂ ◌*◌ (count_next h) (count_enter w wide)
        ∙ mul-one h

    rim_west : count (suc h * suc w) (λ p. rim (dart p 2)) ≡ w
    rim_west =
        count_rim 2 (λ y. inside h (suc y) && not (inside h y)) (λ x. inside w x)
        (λ x y l. rim_hands (dart (place w x y) 2) x y x (suc y) (side_west w h n x y l) (across_west w h n x y l)
        ∙ one_column (inside w x) (inside h (suc y)) (inside h y))
        ∙ ap₂ ◌*◌ (count_enter h high) (count_inside w)
        ∙ one-mul w

    rim_north : count (suc h * suc w) (λ p. rim (dart p 3)) ≡ h
    rim_north =
        count_rim 3 (λ y. inside h y) (λ x. inside w x && not (inside w (suc x)))
        (λ x y l. rim_hands (dart (place w x y) 3) (suc x) y x y (side_north w h n x y l) (across_north w h n x y l)
        ∙ one_row (inside w x) (inside w (suc x)) (inside h y))
        ∙ ap₂ ◌*◌ (count_inside h) (count_leave w wide)
        ∙ mul-one h

    pub outside_borders : borders_of w h (names w h s) 0 ≡ 2 * (w + h)
    unfolding borders_of slots points
    outside_borders = rw (
      add-one w,
      add-one h,
      mul_comm (suc w) (suc h),
      count_darts (suc h * suc w) rim,
      rim_east,
      rim_south,
      rim_west,
      rim_north,
    ) (omega arith)

-- In a drawing the outside has no cell and 2 (w + h) border lines.
pub outside_totals : (w h : ℕ) → 0 < w → 0 < h → (t : Tables) → Drawn w h t
    → (at t.cells 0 ≡ 0) × (at t.borders 0 ≡ 2 * (w + h))
unfolding drawing drawn total
outside_totals w h wide high t d =
    let s = d.labels in
    let n = names w h s in (
      rw (← d.same) (at_totals w h (cells_of w h n) (cells_of w h n) 0 zero-le ∙ outside_cells w h s),
      rw (← d.same) (at_totals w h (cells_of w h n) (borders_of w h n) 0 zero-le ∙ outside_borders w h s wide high),
    )
