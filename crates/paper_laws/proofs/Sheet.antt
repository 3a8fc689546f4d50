-- The sheet as a chart: the lines between regions, level 1.
--   across w h n d  == the region on the left hand of dart d
--   lines_map w h on side == the map of the lines that are on, with these sides
--   sheet w h n     == the map of level 1 of the sheet with the names n
use mathlib.Core.Path.{◌≡◌, refl, sym, ap, ap₂, ◌∙◌}
use mathlib.Core.Bool.{Bool, true, false, not, ◌&&◌}
use mathlib.Core.List.{List}
use Prim.Native.Nat.{ℕ, zero, suc, ◌<◌, ◌≤◌}
use native.Mathlib.Omega.{arith}
use lib.Dec.{eqb, leb, lit<}
use borrow.Author.Tests.{ltb-false, leb-false, eqb-true, eqb-false, ne_eqb, not-true, not-false}
use Rattle.laws.proofs.Chart.{Map, Chart, Few, Colours}
use Rattle.point_darts.specs.Dart.{slots, dart, point, direction, far, turned, reversal, stays, line}
use Rattle.point_darts.specs.Point.{corner, right, left, parts, present, degree}
use Rattle.paper.specs.Name.{named, cells}
use Rattle.point_rules.specs.Turn.{turn}
use Rattle.point_darts.proofs.Darts.{four, place, point_dart, direction_dart, dart_own, direction_below, every_dart}
use Rattle.point_darts.proofs.Darts.{every_line, line_dart, turned_below, turned_back, point_reversal, direction_reversal}
use Rattle.point_darts.proofs.Darts.{reversal_east, reversal_south, reversal_west, reversal_north, line_reversal}
use Rattle.point_darts.proofs.Darts.{reversal_twice, line_below}
use Rattle.point_darts.proofs.Points.{bits_same, left_right, present_alone}
use Rattle.point_rules.proofs.Turns.{turn_keeps}
use Rattle.paper_laws.proofs.Cells.{block, named_west, named_north, named_east, named_south, cells_place}
use Rattle.paper.specs.Level.{side, border, mask, next, big}
use Rattle.paper_laws.proofs.Next.{Lines, lines_turns, lines_few, point_next, direction_next}

unfoldable pub across : ℕ → ℕ → List ℕ → ℕ → ℕ
across w h n d = left (cells w h n (point d)) (direction d)

unfoldable pub lines_map : ℕ → ℕ → (ℕ → Bool) → (ℕ → ℕ) → Map
lines_map w h on side =
    record { n = slots w h; on = on; rev = reversal w; nx = next w on; pt = point; side = side }

module _ (w h : ℕ) (n : List ℕ) where
  abbrev at : ℕ → ℕ → ℕ
  at x y = named w h n x y

  around_place : ℕ → ℕ → List (List ℕ)
  around_place x y = block (at x y) (at (suc x) y) (at x (suc y)) (at (suc x) (suc y))

  side_dart : (x y k : ℕ) → x ≤ w → k < 4 → side w h n (dart (place w x y) k) ≡ right (around_place x y) k
  unfolding side around_place
  side_dart x y k l b = rw (point_dart (place w x y) k b, direction_dart (place w x y) k b, cells_place w h n x y l)

  across_dart : (x y k : ℕ) → x ≤ w → k < 4 → across w h n (dart (place w x y) k) ≡ left (around_place x y) k
  unfolding across around_place
  across_dart x y k l b = rw (point_dart (place w x y) k b, direction_dart (place w x y) k b, cells_place w h n x y l)

  module _ (x y : ℕ) (l : x ≤ w) where
    pub side_east : side w h n (dart (place w x y) 0) ≡ named w h n (suc x) (suc y)
    unfolding around_place right corner
    side_east = side_dart x y 0 l (lit< tt)

    pub side_south : side w h n (dart (place w x y) 1) ≡ named w h n x (suc y)
    unfolding around_place right corner
    side_south = side_dart x y 1 l (lit< tt)

    pub side_west : side w h n (dart (place w x y) 2) ≡ named w h n x y
    unfolding around_place right corner
    side_west = side_dart x y 2 l (lit< tt)

    pub side_north : side w h n (dart (place w x y) 3) ≡ named w h n (suc x) y
    unfolding around_place right corner
    side_north = side_dart x y 3 l (lit< tt)

    pub across_east : across w h n (dart (place w x y) 0) ≡ named w h n (suc x) y
    unfolding around_place left corner
    across_east = across_dart x y 0 l (lit< tt)

    pub across_south : across w h n (dart (place w x y) 1) ≡ named w h n (suc x) (suc y)
    unfolding around_place left corner
    across_south = across_dart x y 1 l (lit< tt)

    pub across_west : across w h n (dart (place w x y) 2) ≡ named w h n x (suc y)
    unfolding around_place left corner
    across_west = across_dart x y 2 l (lit< tt)

    pub across_north : across w h n (dart (place w x y) 3) ≡ named w h n x y
    unfolding around_place left corner
    across_north = across_dart x y 3 l (lit< tt)

  -- the hands exchange under reversal
  pub side_reversal : (d : ℕ) → line w h d ≡ true → side w h n (reversal w d) ≡ across w h n d
  side_reversal = every_line w h (λ d. side w h n (reversal w d) ≡ across w h n d)
      (λ x y a b. rw (reversal_east w x y) (side_west (suc x) y a ∙ sym (across_east x y (omega arith))))
      (λ x y a b. rw (reversal_south w x y) (side_north x (suc y) a ∙ sym (across_south x y a)))
      (λ x y a b. rw (reversal_west w x y) (side_east x y (omega arith) ∙ sym (across_west (suc x) y a)))
      (λ x y a b. rw (reversal_north w x y) (side_south x y a ∙ sym (across_north x (suc y) a)))

  pub across_reversal : (d : ℕ) → line w h d ≡ true → across w h n (reversal w d) ≡ side w h n d
  across_reversal d e =
      sym (side_reversal (reversal w d) (line_reversal w h d e)) ∙ ap (side w h n) (reversal_twice w h d e)

  -- a dart is on the border where its hands differ
  pub border_sides : (d : ℕ) → border w h n d ≡ not (eqb (side w h n d) (across w h n d))
  unfolding border parts side across
  border_sides d = refl

  pub border_differs : (d : ℕ) → border w h n d ≡ true → side w h n d ≡ across w h n d → ⊥
  border_differs d e = eqb-false (side w h n d) (across w h n d) (not-true _ (sym (border_sides d) ∙ e))

  pub border_agrees : (d : ℕ) → border w h n d ≡ false → side w h n d ≡ across w h n d
  border_agrees d e = eqb-true (side w h n d) (across w h n d) (not-false _ (sym (border_sides d) ∙ e))

  pub differs_border : (d : ℕ) → (side w h n d ≡ across w h n d → ⊥) → border w h n d ≡ true
  differs_border d e = border_sides d ∙ ap not (ne_eqb (side w h n d) (across w h n d) e)

  -- a line off the sheet has the outside on both hands
  below_sheet : (x y k : ℕ) → x ≤ w → k < 4 → h < y → side w h n (dart (place w x y) k) ≡ across w h n (dart (place w x y) k)
  below_sheet x y k l b u =
      let v : h < suc y = omega arith in
      let s = named_south w h n in
      four (λ k. side w h n (dart (place w x y) k) ≡ across w h n (dart (place w x y) k))
      (side_east x y l ∙ s (suc x) (suc y) v ∙ sym (across_east x y l ∙ s (suc x) y u))
      (side_south x y l ∙ s x (suc y) v ∙ sym (across_south x y l ∙ s (suc x) (suc y) v))
      (side_west x y l ∙ s x y u ∙ sym (across_west x y l ∙ s x (suc y) v))
      (side_north x y l ∙ s (suc x) y u ∙ sym (across_north x y l ∙ s x y u)) k b

  beside_sheet : (x y k : ℕ) → x ≤ w → k < 4 → stays w h x y k ≡ false
      → side w h n (dart (place w x y) k) ≡ across w h n (dart (place w x y) k)
  unfolding stays
  beside_sheet x y zero l b e =
      let v : w < suc x = omega (arith, ltb-false x w e) in
      side_east x y l ∙ named_east w h n (suc x) (suc y) v ∙ sym (across_east x y l ∙ named_east w h n (suc x) y v)
  beside_sheet x y (suc zero) l b e =
      let v : h < suc y = omega (arith, ltb-false y h e) in
      side_south x y l ∙ named_south w h n x (suc y) v ∙ sym (across_south x y l ∙ named_south w h n (suc x) (suc y) v)
  beside_sheet zero y (suc (suc zero)) l b e =
      side_west 0 y l ∙ named_west w h n y ∙ sym (across_west 0 y l ∙ named_west w h n (suc y))
  beside_sheet (suc x) y (suc (suc zero)) l b e = absurd (omega (arith, ltb-false 0 (suc x) e))
  beside_sheet x zero (suc (suc (suc zero))) l b e =
      side_north x 0 l ∙ named_north w h n (suc x) ∙ sym (across_north x 0 l ∙ named_north w h n x)
  beside_sheet x (suc y) (suc (suc (suc zero))) l b e = absurd (omega (arith, ltb-false 0 (suc y) e))
  beside_sheet x y (suc (suc (suc (suc k)))) l b e = absurd (omega arith)

  pub off_sheet : (d : ℕ) → line w h d ≡ false → side w h n d ≡ across w h n d
  off_sheet = every_dart w (λ d. line w h d ≡ false → side w h n d ≡ across w h n d)
      (λ x y k l b e. go x y k l b (leb y h) refl (sym (line_dart w h x y k l b) ∙ e))
    where
      go : (x y k : ℕ) → x ≤ w → k < 4 → (t : Bool) → leb y h ≡ t → (t && stays w h x y k) ≡ false
          → side w h n (dart (place w x y) k) ≡ across w h n (dart (place w x y) k)
      go x y k l b true t e = beside_sheet x y k l b e
      go x y k l b false t e = below_sheet x y k l b (leb-false y h t)

  border_line_at : (d : ℕ) (t : Bool) → line w h d ≡ t → border w h n d ≡ true → t ≡ true
  border_line_at d true t e = refl
  border_line_at d false t e = absurd (border_differs d e (off_sheet d t))

  pub border_line : (d : ℕ) → border w h n d ≡ true → line w h d ≡ true
  border_line d = border_line_at d (line w h d) refl

  pub border_below : (d : ℕ) → border w h n d ≡ true → d < slots w h
  border_below d e = line_below w h d (border_line d e)

  pub border_back : (d : ℕ) → border w h n d ≡ true → border w h n (reversal w d) ≡ true
  border_back d e =
      let l = border_line d e in
      differs_border (reversal w d) (λ q. border_differs d e (sym (across_reversal d l) ∙ sym q ∙ side_reversal d l))

  pub border_lines : Lines w h (border w h n)
  border_lines = record { lined = border_line; back = border_back }

  pub mask_present : (p : ℕ) → mask (border w h n) p ≡ present (cells w h n p)
  unfolding mask present border
  mask_present p =
      bits_same (λ k. border w h n (dart p k)) (parts (cells w h n p))
      (λ k b. ap₂ (λ q j. parts (cells w h n q) j) (point_dart p k b) (direction_dart p k b))

  -- no line ends where no other goes on
  pub border_alone : (p : ℕ) → degree (mask (border w h n) p) ≡ 1 → ⊥
  border_alone p e = present_alone (cells w h n p) (rw (mask_present p) at e)

  -- next keeps the right hand
  pub next_side : (d : ℕ) → border w h n d ≡ true → side w h n (next w (border w h n) d) ≡ side w h n d
  unfolding side across border
  next_side d e =
      let q = far w d in
      let k = direction d in
      let c = cells w h n q in
      let u = border_back d e in
      let i : parts c (turned k 2) ≡ true = rw (point_reversal w d, direction_reversal w d) at u in
      ap₂ (λ p j. right (cells w h n p) j) (point_next w (border w h n) d u) (direction_next w (border w h n) d u)
      ∙ ap (λ m. right c (turn m k)) (mask_present q)
      ∙ turn_keeps c k i
      ∙ ap (right c) (sym (turned_back k 1))
      ∙ sym (left_right c (turned k 2) (turned_below k 2))
      ∙ sym (ap₂ (λ p j. left (cells w h n p) j) (point_reversal w d) (direction_reversal w d))
      ∙ across_reversal d (border_line d e)

  unfoldable pub sheet : Map
  unfolding lines_map
  sheet = lines_map w h (border w h n) (side w h n)

  pub sheet_chart : Chart sheet
  unfolding sheet
  sheet_chart =
      record {
        turns = lines_turns w h (border w h n) border_lines;
        rev_on = border_back;
        rev_rev = λ d e. reversal_twice w h d (border_line d e);
        leaves = λ d e. point_next w (border w h n) d (border_back d e) ∙ sym (point_reversal w d);
        keeps = next_side;
        parts = λ d e q. border_differs d e (sym q ∙ side_reversal d (border_line d e));
      }

  pub sheet_colours : Colours sheet direction
  unfolding sheet
  sheet_colours =
      record {
        four = direction_below;
        apart = λ d e p q r s. sym (dart_own d) ∙ ap₂ dart r s ∙ dart_own e;
      }

  pub sheet_few : Few sheet (big (border w h n))
  unfolding sheet
  sheet_few = record { two = lines_few w h (border w h n) border_lines }
