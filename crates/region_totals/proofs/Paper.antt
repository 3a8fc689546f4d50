-- The totals are those of the paper: what is tallied over the points, by the names with the outside round them, is how many cells and
-- how many border lines each region has.
--   g i             == the name at place i, with the outside round the names
--   tallied_borders == the totals of border lines, from a tally of all points; tallied_cells likewise
--   totals_all      == so the tables are the totals of the drawing
use mathlib.Core.Path.{◌≡◌, refl, sym, ap, ap₂, ◌∙◌}
use mathlib.Core.Bool.{Bool, true, false, not, cond, ◌&&◌, and-true, and-false}
use mathlib.Core.List.{List}
use mathlib.Core.Logic.{◌≢◌}
use Prim.Native.Nat.{ℕ, zero, suc, ◌+◌, ◌*◌, ◌%◌, ◌/◌, ◌≤◌, ◌<◌}
use native.Mathlib.Nat.{zero-add, suc-mul, zero-mul, mul_comm, le_refl}
use native.Mathlib.Decide.{ℕ_discrete, dec_lt}
use native.Mathlib.Numerals.{add-one}
use native.Mathlib.Omega.{arith}
use lib.Dec.{eqb, lit<}
use lib.ListN.{length, get_or, set, length-set}
use lib.Seq.{get_or-set_same, get_or-set_other}
use borrow.Author.Tests.{eq-eqb, ne_eqb}
use Rattle.laws.specs.Table.{table, number, count}
use Rattle.laws.proofs.Table.{length_table, get_or_table, get_or_table_past, table_agree, count_agree}
use Rattle.laws.proofs.Count.{count_add, count_some, count_nothing}
use Rattle.laws.proofs.Cross.{enters, leaves, four_ways}
use Rattle.point_darts.specs.Dart.{mark, points, slots, dart}
use Rattle.point_darts.specs.Point.{corner, right, left, parts}
use Rattle.point_darts.proofs.Count.{count_darts}
use Rattle.point_darts.proofs.Fit.{row_fit}
use Rattle.point_darts.proofs.Darts.{place, column, row, point_dart, direction_dart, place_below}
use Rattle.paper.specs.Name.{label, names, named, cells}
use Rattle.paper.specs.Level.{side, border}
use Rattle.paper.specs.Drawing.{drawn}
use Rattle.paper.specs.Joining.{at}
use Rattle.paper.specs.Total.{cells_of, borders_of, total, totals}
use Rattle.paper_laws.proofs.Name.{name_le}
use Rattle.paper_laws.proofs.Marks.{named_le, same_at}
use Rattle.paper_laws.proofs.Cells.{named_east, named_south}
use Rattle.paper_laws.proofs.First.{named_cell}
use Rattle.paper_laws.proofs.Added.{length_totals, at_totals}
use Rattle.paper_laws.proofs.Outside.{outside_cells}
use Rattle.region_names.specs.Frame.{surround, framed}
use Rattle.region_names.proofs.Surround.{named_at, framed_at, cells_framed, outside_north, outside_west, outside_south}
use Rattle.region_totals.specs.Tally.{name_at, lines_at, weighed, borne_in, cell_total, line_total, Named, Tallied}
use Rattle.region_totals.specs.Total.{Totalled}

-- Sums by name as counts.
weighed_ones : (v : ℕ → ℕ) (r n : ℕ) → weighed v (λ _. 1) r n ≡ count n (λ p. eqb (v p) r)
unfolding weighed count
weighed_ones v r zero = refl
weighed_ones v r (suc n) = ap (λ k. cond (eqb (v n) r) 1 0 + k) (weighed_ones v r n)

twice : (t a b : Bool) → cond t (2 * number a + 2 * number b) 0 ≡ 2 * number (a && t) + 2 * number (b && t)
twice true a b = rw (and-true a, and-true b)
twice false a b = rw (and-false a, and-false b)

weighed_twice : (v : ℕ → ℕ) (a b : ℕ → Bool) (r n : ℕ)
    → weighed v (λ p. 2 * number (a p) + 2 * number (b p)) r n
    ≡ 2 * (count n (λ p. b p && eqb (v p) r) + count n (λ p. a p && eqb (v p) r))
unfolding weighed count
weighed_twice v a b r zero = refl
weighed_twice v a b r (suc n) = rw (twice (eqb (v n) r) (a n) (b n), weighed_twice v a b r n) (omega arith)

-- rows of w + 1 whose last fails, and rows of w
count_rows : (w h : ℕ) (f g : ℕ → Bool) → ((x y : ℕ) → x < w → y < h → f (y * (w + 1) + x) ≡ g (y * w + x))
    → ((y : ℕ) → y < h → f (y * (w + 1) + w) ≡ false) → count (h * (w + 1)) f ≡ count (h * w) g
unfolding count
count_rows w zero f g e z = rw (zero-mul (w + 1), zero-mul w)
count_rows w (suc h) f g e z =
    rw (
      suc-mul h (w + 1),
      suc-mul h w,
      count_add f (h * (w + 1)) (w + 1),
      count_add g (h * w) w,
      count_rows w h f g (λ x y k l. e x y k (omega arith)) (λ y l. z y (omega arith)),
      add-one w,
      rw (add-one w) at (z h (omega arith)),
      count_agree (λ x. f (h * suc w + x)) (λ x. g (h * w + x)) w (λ x k. rw (add-one w) at (e x h k (omega arith))),
    ) (omega arith)

-- The second row of points begins at place w + 1.
second_row : (w : ℕ) → w + 1 ≡ place w 0 1
unfolding place
second_row w = omega arith

south_east : (w h : ℕ) (n : List ℕ) (p : ℕ) → corner (cells w h n p) 1 1 ≡ named w h n (suc (p % (w + 1))) (suc (p / (w + 1)))
unfolding corner cells
south_east w h n p = refl

-- The names n of a sheet, none of them the outside's.
module _ (w h : ℕ) (s : List ℕ) where
  abbrev n : List ℕ
  n = names w h s

  abbrev f : List ℕ
  f = framed w h (names w h s)

  abbrev g : ℕ → ℕ
  g i = get_or f i 0

  past : (i : ℕ) → surround w h ≤ i → g i ≡ 0
  unfolding framed
  past i l = get_or_table_past (surround w h) (named_at w h n) i 0 l

  pub framed_below : Named (w * h + 1) (framed w h (names w h s))
  framed_below i = go (dec_lt i (surround w h))
    where
      go : Dec (i < surround w h) → g i < w * h + 1
      go (yes l) = rw (framed_at w h n i l) (omega (arith, named_le w h n (name_le w h s) (i % (w + 1)) (i / (w + 1))))
      go (no l) = rw (past i (omega arith)) (omega arith)

  front : (i : ℕ) → i ≤ w + 1 → g i ≡ 0
  front i l = go (ℕ_discrete i (w + 1))
    where
      inside : i < surround w h
      inside = omega (arith, place_below w h 0 0 (omega arith) (omega arith))

      go : Dec (i ≡ w + 1) → g i ≡ 0
      go (yes e) = framed_at w h n i inside ∙ sym (outside_west w h n i 1 (e ∙ second_row w))
      go (no e) = framed_at w h n i inside ∙ sym (outside_north w h n i (omega arith))

  back : (i : ℕ) → points w h ≤ i → g i ≡ 0
  back i l = go (dec_lt i (surround w h))
    where
      go : Dec (i < surround w h) → g i ≡ 0
      go (yes b) = framed_at w h n i b ∙ sym (outside_south w h n i l)
      go (no b) = past i (omega arith)

  -- Border lines.
  module _ (r : ℕ) where
    abbrev test : ℕ → Bool
    test d = border w h n d && eqb (side w h n d) r

    abbrev seen : ℕ → ℕ → Bool
    seen p k = parts (cells w h n p) k && eqb (right (cells w h n p) k) r

    test_seen : (p k : ℕ) → k < 4 → test (dart p k) ≡ seen p k
    unfolding border side
    test_seen p k l = rw (point_dart p k l, direction_dart p k l)

    east : (p : ℕ) → p < points w h → test (dart p 0) ≡ enters g r (w + 1) (p + 1)
    unfolding parts right left corner
    east p l =
        let e : p + (w + 2) ≡ p + 1 + (w + 1) = omega arith in
        test_seen p 0 (lit< tt) ∙ rw (cells_framed w h n p l) (rw e)

    south : (p : ℕ) → p < points w h → test (dart p 1) ≡ leaves g r 1 (p + (w + 1))
    unfolding parts right left corner
    south p l =
        let e : p + (w + 2) ≡ p + (w + 1) + 1 = omega arith in
        test_seen p 1 (lit< tt) ∙ rw (cells_framed w h n p l) (rw e)

    west : (p : ℕ) → p < points w h → test (dart p 2) ≡ leaves g r (w + 1) p
    unfolding parts right left corner
    west p l = test_seen p 2 (lit< tt) ∙ rw (cells_framed w h n p l)

    north : (p : ℕ) → p < points w h → test (dart p 3) ≡ enters g r 1 p
    unfolding parts right left corner
    north p l = test_seen p 3 (lit< tt) ∙ rw (cells_framed w h n p l)

    borders_ways : borders_of w h n r
        ≡ 2 * (count (points w h) (λ p. enters g r (w + 1) (p + 1)) + count (points w h) (λ p. enters g r 1 (p + (w + 1))))
    unfolding borders_of slots
    borders_ways =
        count_darts (points w h) test
        ∙ rw (
          count_agree (λ p. test (dart p 0)) (λ p. enters g r (w + 1) (p + 1)) (points w h) east,
          count_agree (λ p. test (dart p 1)) (λ p. leaves g r 1 (p + (w + 1))) (points w h) south,
          count_agree (λ p. test (dart p 2)) (leaves g r (w + 1)) (points w h) west,
          count_agree (λ p. test (dart p 3)) (enters g r 1) (points w h) north,
        )
        (four_ways g r (w + 1) (points w h) front back)

    pub weighed_borders : weighed (name_at w f) (lines_at w f) r (points w h) ≡ borders_of w h (names w h s) r
    unfolding lines_at name_at
    weighed_borders =
        weighed_twice (name_at w f) (λ p. not (eqb (name_at w f p) (g (p + (w + 1))))) (λ p. not (eqb (name_at w f p) (g (p + 1)))) r
        (points w h)
        ∙ ap (λ k. 2 * k)
        (ap₂ ◌+◌
        (count_agree (λ p. not (eqb (name_at w f p) (g (p + 1))) && eqb (name_at w f p) r) (λ p. enters g r (w + 1) (p + 1)) (points w h)
        (λ p l. let e : p + (w + 2) ≡ p + 1 + (w + 1) = omega arith in rw e))
        (count_agree (λ p. not (eqb (name_at w f p) (g (p + (w + 1)))) && eqb (name_at w f p) r) (λ p. enters g r 1 (p + (w + 1)))
        (points w h) (λ p l. let e : p + (w + 2) ≡ p + (w + 1) + 1 = omega arith in rw e)))
        ∙ sym borders_ways

  -- Cells.
  name_here : (x y : ℕ) → x ≤ w → y ≤ h → name_at w f (y * (w + 1) + x) ≡ named w h n (suc x) (suc y)
  unfolding name_at corner place
  name_here x y a b =
      sym (ap (λ c. corner c 1 1) (cells_framed w h n (place w x y) (place_below w h x y a b)))
      ∙ south_east w h n (place w x y)
      ∙ rw (column w x y a, row w x y a)

  module _ (i : ℕ) where
    abbrev borne : ℕ → Bool
    borne p = eqb (name_at w f p) (suc i)

    weighed_cells : weighed (name_at w f) (λ _. 1) (suc i) (points w h) ≡ cells_of w h (names w h s) (suc i)
    unfolding points cells_of label
    weighed_cells =
        weighed_ones (name_at w f) (suc i) (points w h)
        ∙ rw (mul_comm (w + 1) (h + 1), add-one h, suc-mul h (w + 1), count_add borne (h * (w + 1)) (w + 1))
        (rw (
          count_nothing (λ x. borne (h * (w + 1) + x)) (w + 1)
              (λ x l. rw (
                name_here x h (omega arith) (le_refl h),
                named_south w h n (suc x) (suc h) (le_refl (suc h)),
                ne_eqb 0 (suc i) (λ e. omega arith),
              )),
          count_rows w h borne (λ k. eqb (label n k) (suc i))
              (λ x y a b. rw (name_here x y (omega arith) (omega arith), named_cell w h n x y a b))
              (λ y b. rw (
                name_here w y (le_refl w) (omega arith),
                named_east w h n (suc w) (suc y) (le_refl (suc w)),
                ne_eqb 0 (suc i) (λ e. omega arith),
              )),
          mul_comm h w,
        ) (omega arith))

  -- The totals, from a tally of all points.
  module _ (c b o : List ℕ) (t : Tallied w (w * h + 1) (points w h) (framed w h (names w h s)) (points w h) c b o) where
    outside_some : borne_in c o 0 ≢ 0
    outside_some e =
        count_some (λ p. eqb (name_at w f p) 0) (points w h) w (let l = row_fit w h in omega arith) here
        (sym (weighed_ones (name_at w f) 0 (points w h)) ∙ sym (t.cells 0 (omega arith)) ∙ e)
      where
        here : eqb (name_at w f w) 0 ≡ true
        here =
            let p : name_at w f w ≡ named w h n (suc w) 1 =
            rw (zero-mul (w + 1), zero-add w) at (name_here w 0 (le_refl w) (omega arith)) in
            eq-eqb (name_at w f w) 0 (p ∙ named_east w h n (suc w) 1 (le_refl (suc w)))

    abbrev lines : ℕ → ℕ
    lines = line_total (w * h + 1) c b o

    entry : (r : ℕ) → r < w * h + 1 → lines r ≡ total (cells_of w h n) (borders_of w h n) r
    unfolding total
    entry zero l = rw (ne_eqb (borne_in c o 0) 0 outside_some) (t.borders 0 l ∙ weighed_borders 0)
    entry (suc i) l = rw (t.cells (suc i) l, weighed_cells i, t.borders (suc i) l, weighed_borders (suc i))

    tallied_borders : table (w * h + 1) lines ≡ (drawn w h n).borders
    unfolding drawn totals
    tallied_borders = table_agree (w * h + 1) lines (total (cells_of w h n) (borders_of w h n)) entry

    abbrev counted : List ℕ
    counted = table (w * h + 1) (cell_total c o)

    cell_entry : (r : ℕ) → r < w * h + 1 → at (set counted 0 0) r ≡ total (cells_of w h n) (cells_of w h n) r
    unfolding total at
    cell_entry zero l = get_or-set_same counted 0 0 mark (rw (length_table (w * h + 1) _) l) ∙ sym (outside_cells w h s)
    cell_entry (suc i) l =
        get_or-set_other counted 0 (suc i) 0 mark (λ e. omega arith)
        ∙ get_or_table (w * h + 1) (cell_total c o) (suc i) mark l
        ∙ rw (t.cells (suc i) l, weighed_cells i)

    tallied_cells : set counted 0 0 ≡ (drawn w h n).cells
    unfolding drawn
    tallied_cells =
        same_at (w * h + 1) (set counted 0 0) (totals w h (cells_of w h n) (cells_of w h n))
        (length-set counted 0 0 ∙ length_table (w * h + 1) _)
        (length_totals w h (cells_of w h n) (cells_of w h n))
        (λ r l. cell_entry r l ∙ sym (at_totals w h (cells_of w h n) (cells_of w h n) r (omega arith)))

-- The tables, from a tally of all points by any names f.
module _ (w h m n : ℕ) (f c b o c₁ b₁ : List ℕ) (t : Tallied w m n f n c b o) (p : n ≡ points w h) (z : m ≡ w * h + 1)
    (k : length c ≡ m) (u : c₁ ≡ table (length c) (cell_total c o)) (v : b₁ ≡ table (length c) (line_total (length c) c b o)) where
  module _ (l : List ℕ) (e : f ≡ framed w h (names w h l)) where
    told : Tallied w (w * h + 1) (points w h) (framed w h (names w h l)) (points w h) c b o
    told = rw (← p, ← z, ← e) t

    long : length c ≡ w * h + 1
    long = k ∙ z

    cells_all : set c₁ 0 0 ≡ (drawn w h (names w h l)).cells
    cells_all = rw (u, long) (tallied_cells w h l c b o told)

    borders_all : b₁ ≡ (drawn w h (names w h l)).borders
    borders_all =
        v ∙ ap (λ j. table j (line_total j c b o)) long ∙ tallied_borders w h l c b o told

  pub totals_all : Totalled w h f (set c₁ 0 0) b₁
  totals_all = record { cells = cells_all; borders = borders_all }
