-- A test of darts that next keeps, as that of one contour: it is told by the piece and the side of a dart.
--   odd a b         == exactly one of a and b
--   Steady w h n t  == next keeps the test t
--   split w h n t d == d is on, and of d and its reversal exactly one passes the test t
--   northward, westward  == the line that runs north, or west, from a place is split
--   Even v l        == of the four lines at each place an even number are of the set, and none runs west from column 0
--   crossed v x y   == west of the cell in column x and row y, in its row, is an odd number of lines of the set
--   colour r        == the lines that are split and west of the first cell of the region r are odd in number
--   key d           == either the side of d has that colour, or d passes the test, and not both
--   around m j      == the first line of m met when turning back from line j, at the latest j itself
use mathlib.Core.Path.{◌≡◌, refl, sym, ap, ap₂, ◌∙◌}
use mathlib.Core.Bool.{Bool, true, false, not, ◌&&◌}
use mathlib.Core.List.{List}
use Prim.Native.Nat.{ℕ, zero, suc, ◌+◌, ◌*◌, ◌-◌, ◌/◌, ◌%◌, ◌<◌, ◌≤◌, zero-le}
use native.Mathlib.Nat.{le_refl}
use native.Mathlib.Decide.{dec_lt}
use native.Mathlib.Omega.{arith}
use lib.Dec.{eqb, lit<}
use lib.ListN.{get_or}
use borrow.Author.Tests.{eq-eqb, not-true}
use Rattle.laws.specs.Run.{run}
use Rattle.laws.proofs.Test.{and_under, same_test}
use Rattle.laws.proofs.Parity.{joined_same}
use Rattle.laws.proofs.Even.{odd, odd_false, odd_comm, odd_twice, odd_once, odd_cross, Even}
use Rattle.laws.proofs.Even.{crossed, crossed_west, crossed_east, crossed_start, crossed_down}
use Rattle.laws.proofs.Walk.{run_stays}
use Rattle.point_darts.specs.Dart.{dart, point, direction, reversal, line}
use Rattle.point_darts.specs.Point.{has}
use Rattle.point_darts.proofs.Darts.{place, point_dart, direction_dart, dart_own, direction_below, every_line}
use Rattle.point_darts.proofs.Darts.{reversal_east, reversal_south, reversal_west, reversal_north}
use Rattle.point_rules.specs.Turn.{turn}
use Rattle.point_rules.proofs.Turns.{turn_below, turn_has, even, around, around_below, around_has, around_leads, around_even}
use Rattle.paper.specs.Name.{names, named}
use Rattle.paper.specs.Level.{side, border, mask, next}
use Rattle.paper_laws.proofs.Name.{name_range, name_own, cell_below}
use Rattle.paper_laws.proofs.Cells.{named_west, named_north, named_east, named_south}
use Rattle.paper_laws.proofs.First.{every_cell, named_cell}
use Rattle.paper_laws.proofs.Next.{mask_below, has_mask, next_around}
use Rattle.paper_laws.proofs.Sheet.{across, side_east, side_south, side_west, side_north}
use Rattle.paper_laws.proofs.Sheet.{across_east, across_west, across_north}
use Rattle.paper_laws.proofs.Sheet.{border_sides, border_line, border_back, border_lines, next_side, sheet}
use Rattle.paper_laws.proofs.Kept.{top, mask_some, sheet_tops}
use Rattle.paper_laws.proofs.Round.{cell_column, cell_row, region_same}

split : ℕ → ℕ → List ℕ → (ℕ → Bool) → ℕ → Bool
split w h n t d = border w h n d && odd (t d) (t (reversal w d))

pub record Steady (w h : ℕ) (n : List ℕ) (t : ℕ → Bool) : Type 0 where
  pub keeps : (d : ℕ) → border w h n d ≡ true → t (next w (border w h n) d) ≡ t d

module _ (w h : ℕ) (n : List ℕ) (t : ℕ → Bool) where
  abbrev on : ℕ → Bool
  on = border w h n

  -- a line is split for both its darts or for none
  split_back : (d e : ℕ) → reversal w d ≡ e → reversal w e ≡ d → split w h n t d ≡ split w h n t e
  unfolding split
  split_back d e p q =
      rw (p, q)
      (ap₂ ◌&&◌ (same_test (on d) (on e) (λ o. rw p at (border_back w h n d o)) (λ o. rw q at (border_back w h n e o)))
      (odd_comm (t d) (t e)))

  split_on : (d : ℕ) → on d ≡ true → split w h n t d ≡ odd (t d) (t (reversal w d))
  unfolding split
  split_on d o = rw o

  -- none is between cells of one name
  split_none : (d : ℕ) → side w h n d ≡ across w h n d → split w h n t d ≡ false
  unfolding split
  split_none d e =
      rw (border_sides w h n d ∙ ap not (eq-eqb (side w h n d) (across w h n d) e))

  abbrev northward : ℕ → ℕ → Bool
  northward x y = split w h n t (dart (place w x y) 3)

  abbrev westward : ℕ → ℕ → Bool
  westward x y = split w h n t (dart (place w x y) 2)

  northward_south : (x y : ℕ) → northward x (suc y) ≡ split w h n t (dart (place w x y) 1)
  northward_south x y =
      split_back (dart (place w x (suc y)) 3) (dart (place w x y) 1) (reversal_north w x y) (reversal_south w x y)

  westward_east : (x y : ℕ) → westward (suc x) y ≡ split w h n t (dart (place w x y) 0)
  westward_east x y =
      split_back (dart (place w (suc x) y) 2) (dart (place w x y) 0) (reversal_west w x y) (reversal_east w x y)

-- A test that next keeps.
module _ (w h : ℕ) (n : List ℕ) (t : ℕ → Bool) (k : Steady w h n t) where
  abbrev m : ℕ → ℕ
  m = mask (border w h n)

  -- next of the reversal, by directions
  turned_next : (p j : ℕ) → j < 4 → border w h n (dart p j) ≡ true
      → next w (border w h n) (reversal w (dart p j)) ≡ dart p (around (m p) j)
  turned_next p j b o =
      next_around w h (border w h n) (border_lines w h n) (dart p j) o
      ∙ ap₂ (λ q i. dart q (around (m q) i)) (point_dart p j b) (direction_dart p j b)

  split_turn : (p j : ℕ) → j < 4
      → split w h n t (dart p j) ≡ (has (m p) j && odd (t (dart p j)) (t (dart p (around (m p) j))))
  unfolding split
  split_turn p j b =
      rw (has_mask (border w h n) p j b)
      (and_under (border w h n (dart p j)) _ _
      (λ o. ap (odd (t (dart p j)))
      (sym (k.keeps (reversal w (dart p j)) (border_back w h n (dart p j) o)) ∙ ap t (turned_next p j b o))))

  -- at each point an even number of lines are split
  split_even : (p : ℕ) → even (λ j. split w h n t (dart p j)) ≡ true
  split_even p =
      rw (split_turn p 0 (lit< tt), split_turn p 1 (lit< tt), split_turn p 2 (lit< tt), split_turn p 3 (lit< tt))
      (around_even (m p) (mask_below (border w h n) p) (λ j. t (dart p j)))

  lines_even : Even (northward w h n t) (westward w h n t)
  lines_even =
      record {
        west = λ y. split_none w h n t (dart (place w 0 y) 2)
            (side_west w h n 0 y zero-le ∙ named_west w h n y ∙ sym (across_west w h n 0 y zero-le ∙ named_west w h n (suc y)));
        even = λ x y. rw (northward_south w h n t x y, westward_east w h n t x y) (not-true _ (split_even (place w x y)));
      }

  abbrev c : ℕ → ℕ → Bool
  c = crossed (northward w h n t)

  -- cells of one name beside each other
  same_east : (x y : ℕ) → x ≤ w → named w h n x y ≡ named w h n (suc x) y → c (suc x) y ≡ c x y
  same_east x y l e =
      crossed_east (northward w h n t) x y
      ∙ rw (split_none w h n t (dart (place w x y) 3) (side_north w h n x y l ∙ sym e ∙ sym (across_north w h n x y l)))
      (odd_false (c x y))

  same_south : (x y : ℕ) → x ≤ w → named w h n x y ≡ named w h n x (suc y) → c x (suc y) ≡ c x y
  same_south x y l e =
      crossed_down lines_even x y
      ∙ rw (split_none w h n t (dart (place w x y) 2) (side_west w h n x y l ∙ e ∙ sym (across_west w h n x y l)))
      (odd_false (c x y))

  -- off the sheet
  off_row : (x y : ℕ) → x ≤ suc w → ((j : ℕ) → named w h n j y ≡ 0) → c x y ≡ false
  off_row x y l f =
      crossed_start (northward w h n t) x y
      (λ j b.
      let a : j ≤ w = omega arith in
      split_none w h n t (dart (place w j y) 3)
      (side_north w h n j y a ∙ f (suc j) ∙ sym (across_north w h n j y a ∙ f j)))

  off_north : (x : ℕ) → x ≤ suc w → c x 0 ≡ false
  off_north x l = off_row x 0 l (named_north w h n)

  off_south : (x y : ℕ) → x ≤ suc w → h < y → c x y ≡ false
  off_south x y l b = off_row x y l (λ j. named_south w h n j y b)

  off_east : (y : ℕ) → c (suc w) y ≡ false
  off_east zero = off_north (suc w) (le_refl (suc w))
  off_east (suc y) =
      let a : w < suc w = le_refl (suc w) in
      crossed_down lines_even (suc w) y
      ∙ rw (
        off_east y,
        westward_east w h n t w y,
        split_none w h n t (dart (place w w y) 0)
            (side_east w h n w y (le_refl w) ∙ named_east w h n (suc w) (suc y) a
            ∙ sym (across_east w h n w y (le_refl w) ∙ named_east w h n (suc w) y a)),
      )

-- The regions of a sheet of labels s have each one colour.
module _ (w h : ℕ) (s : List ℕ) (t : ℕ → Bool) (k : Steady w h (names w h s) t) where
  abbrev n : List ℕ
  n = names w h s

  abbrev west : ℕ → ℕ → Bool
  west = crossed (northward w h (names w h s) t)

  colour : ℕ → Bool
  colour zero = false
  colour (suc i) = west (suc (i % w)) (suc (i / w))

  colour_cell : (x y : ℕ) → x < w → y < h → colour (get_or n (y * w + x) 0) ≡ west (suc x) (suc y)
  unfolding colour
  colour_cell x y a b =
      let j : ℕ = y * w + x in
      let l : j < w * h = cell_below w h x y a b in
      let r = name_range w h s j l in
      let e : get_or n j 0 ≡ suc (get_or n j 0 - 1) = omega arith in
      rw e
      (every_cell w h (λ i. get_or n i 0 ≡ get_or n j 0 → west (suc (i % w)) (suc (i / w)) ≡ west (suc x) (suc y))
      (λ u v f g q. rw (cell_column w h u v f, cell_row w h u v f)
      (region_same w h s west (same_east w h n t k) (same_south w h n t k) u v x y f g a b q))
      (get_or n j 0 - 1) (omega arith) (name_own w h s j l))

  colour_named : (x y : ℕ) → x ≤ suc w → colour (named w h n x y) ≡ west x y
  unfolding colour
  colour_named zero y l = rw (named_west w h n y) (sym (crossed_west (northward w h n t) y))
  colour_named (suc x) zero l = rw (named_north w h n (suc x)) (sym (off_north w h n t k (suc x) l))
  colour_named (suc x) (suc y) l = go (dec_lt x w) (dec_lt y h)
    where
      go : Dec (x < w) → Dec (y < h) → colour (named w h n (suc x) (suc y)) ≡ west (suc x) (suc y)
      go (yes a) (yes b) = rw (named_cell w h n x y a b) (colour_cell x y a b)
      go (yes a) (no b) =
          let f : h < suc y = omega arith in
          rw (named_south w h n (suc x) (suc y) f) (sym (off_south w h n t k (suc x) (suc y) l f))
      go (no a) b =
          let f : w < suc x = omega arith in
          let e : x ≡ w = omega arith in
          rw (named_east w h n (suc x) (suc y) f, e) (sym (off_east w h n t k (suc y)))

  -- across a line the colour changes where the line is split
  abbrev Changes : ℕ → Type 0
  Changes d = odd (colour (side w h n d)) (colour (side w h n (reversal w d))) ≡ split w h n t d

  changes : (d e x y u v : ℕ) → reversal w d ≡ e → x ≤ suc w → u ≤ suc w → side w h n d ≡ named w h n x y
      → side w h n e ≡ named w h n u v → odd (west x y) (west u v) ≡ split w h n t d → Changes d
  changes d e x y u v r a b p q f = rw (r, p, q, colour_named x y a, colour_named u v b) f

  row_changes : (x y : ℕ) → odd (west x y) (west (suc x) y) ≡ northward w h n t x y
  row_changes x y = rw (crossed_east (northward w h n t) x y) (odd_twice (west x y) (northward w h n t x y))

  column_changes : (x y : ℕ) → odd (west x y) (west x (suc y)) ≡ westward w h n t x y
  column_changes x y = rw (crossed_down (lines_even w h n t k) x y) (odd_twice (west x y) (westward w h n t x y))

  colour_line : (d : ℕ) → line w h d ≡ true → Changes d
  colour_line =
      every_line w h Changes
      (λ x y a b. changes (dart (place w x y) 0) (dart (place w (suc x) y) 2) (suc x) (suc y) (suc x) y
      (reversal_east w x y) (omega arith) (omega arith) (side_east w h n x y (omega arith)) (side_west w h n (suc x) y a)
      (odd_comm (west (suc x) (suc y)) (west (suc x) y) ∙ column_changes (suc x) y ∙ westward_east w h n t x y))
      (λ x y a b. changes (dart (place w x y) 1) (dart (place w x (suc y)) 3) x (suc y) (suc x) (suc y)
      (reversal_south w x y) (omega arith) (omega arith) (side_south w h n x y a) (side_north w h n x (suc y) a)
      (row_changes x (suc y) ∙ northward_south w h n t x y))
      (λ x y a b. changes (dart (place w (suc x) y) 2) (dart (place w x y) 0) (suc x) y (suc x) (suc y)
      (reversal_west w x y) (omega arith) (omega arith) (side_west w h n (suc x) y a) (side_east w h n x y (omega arith))
      (column_changes (suc x) y))
      (λ x y a b. changes (dart (place w x (suc y)) 3) (dart (place w x y) 1) (suc x) (suc y) x (suc y)
      (reversal_north w x y) (omega arith) (omega arith) (side_north w h n x (suc y) a) (side_south w h n x y a)
      (odd_comm (west (suc x) (suc y)) (west x (suc y)) ∙ row_changes x (suc y)))

  -- the key of a dart is that of its next, and that of its reversal
  key : ℕ → Bool
  key d = odd (colour (side w h n d)) (t d)

  key_next : (d : ℕ) → border w h n d ≡ true → key (next w (border w h n) d) ≡ key d
  unfolding key
  key_next d o = rw (next_side w h n d o, k.keeps d o)

  key_back : (d : ℕ) → border w h n d ≡ true → key (reversal w d) ≡ key d
  unfolding key
  key_back d o =
      odd_cross (colour (side w h n d)) (colour (side w h n (reversal w d))) (t d) (t (reversal w d))
      (colour_line d (border_line w h n d o) ∙ split_on w h n t d o)

  -- so it is the same at all lines of a point
  record At (p i j : ℕ) : Type 0 where
    below : j < 4
    present : has (mask (border w h n) p) j ≡ true
    same : key (dart p j) ≡ key (dart p i)

  at_around : (p i j : ℕ) → At p i j → At p i (around (mask (border w h n) p) j)
  at_around p i j a =
      let b = mask_below (border w h n) p in
      let o : border w h n (dart p j) ≡ true = sym (has_mask (border w h n) p j a.below) ∙ a.present in
      let r = reversal w (dart p j) in
      record {
        below = around_below (mask (border w h n) p) b j a.below a.present;
        present = around_has (mask (border w h n) p) b j a.below a.present;
        same = ap key (sym (turned_next w h n t k p j a.below o)) ∙ key_next r (border_back w h n (dart p j) o)
            ∙ key_back (dart p j) o
            ∙ a.same;
      }

  key_point : (p i j : ℕ) → i < 4 → j < 4 → has (mask (border w h n) p) i ≡ true → has (mask (border w h n) p) j ≡ true
      → key (dart p j) ≡ key (dart p i)
  key_point p i j b c u v =
      let q = mask (border w h n) p in
      let a : At p i (run (around q) (λ l. eqb l j) 4 i) =
      run_stays (around q) (λ l. eqb l j) (At p i) (at_around p i) 4 i (record { below = b; present = u; same = refl }) in
      ap (λ l. key (dart p l)) (sym (around_leads q (mask_below (border w h n) p) i j b c u v)) ∙ a.same

  -- and at all lines of a piece
  point_key : ℕ → Bool
  point_key p = key (dart p (turn (mask (border w h n) p) 0))

  key_own : (d : ℕ) → border w h n d ≡ true → key d ≡ point_key (point d)
  unfolding point_key
  key_own d o =
      let p : ℕ = point d in
      let m : ℕ = mask (border w h n) p in
      let z = mask_some (border w h n) d p o refl in
      let b = mask_below (border w h n) p in
      let l = direction_below d in
      ap key (sym (dart_own d))
      ∙ key_point p (turn m 0) (direction d) (turn_below m b 0 (lit< tt) z) l (turn_has m b 0 (lit< tt) z)
      (has_mask (border w h n) p (direction d) l ∙ rw (dart_own d) o)

  key_piece : (d : ℕ) → border w h n d ≡ true → key d ≡ point_key (top w h (border w h n) (point d))
  unfolding sheet
  key_piece d o =
      key_own d o
      ∙ joined_same point_key
      (λ e q. sym (key_own e q) ∙ sym (key_back e q) ∙ key_own (reversal w e) (border_back w h n e q))
      ((sheet_tops w h n).joined d o)

  -- two darts of one piece with one side on their right hand both pass the test, or none does
  pub piece_side : (d e : ℕ) → border w h (names w h s) d ≡ true → border w h (names w h s) e ≡ true
      → top w h (border w h (names w h s)) (point d) ≡ top w h (border w h (names w h s)) (point e)
      → side w h (names w h s) d ≡ side w h (names w h s) e → t d ≡ t e
  unfolding key
  piece_side d e o q f g =
      odd_once (colour (side w h n d)) (t d) (t e) (key_piece d o ∙ ap point_key f ∙ sym (rw g (key_piece e q)))
