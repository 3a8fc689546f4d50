-- The holes of a region: the pieces of lines that it lies round.
--   top w h on p    == the least point of the piece of p
--   Head w h on t   == t is the least point of a piece that has a line
--   top_side w i     == the dart that runs east along the top side of cell i
--   inner w h n t x y == the cell in column x and row y lies inside the piece with the least point t
--   nook w h n t    == the name of the cell north-west of the point t
--   head_first      == south-east of the least point of a piece is the first cell of a region
--   parentage w h n == the table of parents, by name
--   piece_in w h n r p == p is the least point of a piece that the region r lies round
--   hole .. r p     == the piece p is the outer piece of some region whose parent is r
--   holes .. r      == how many different pieces are
use mathlib.Core.Path.{◌≡◌, refl, sym, ap, ◌∙◌}
use mathlib.Core.Bool.{Bool, true, false, ◌&&◌}
use mathlib.Core.List.{List}
use mathlib.Core.Logic.{◌≢◌}
use Prim.Native.Nat.{ℕ, zero, suc, ◌+◌, ◌*◌, ◌-◌, ◌/◌, ◌%◌, ◌<◌, ◌≤◌, zero-le}
use native.Mathlib.Nat.{suc-mul, mul-le-mul_right}
use native.Mathlib.Decide.{ℕ_discrete, dec_le, dec_lt}
use native.Mathlib.Omega.{arith}
use lib.Dec.{eqb, lit<}
use lib.ListN.{get_or}
use borrow.Author.Tests.{eqb-true, eq-eqb, ne_eqb}
use Rattle.laws.specs.Table.{some, count}
use Rattle.laws.proofs.Test.{clash, and_true, and_left, and_right, same_test}
use Rattle.laws.proofs.Table.{some_found, found_some, count_agree}
use Rattle.laws.proofs.Count.{count_single}
use Rattle.laws.proofs.Parity.{inside_begin}
use Rattle.sheet_size.specs.Size.{within}
use Rattle.sheet_size.proofs.Limit.{within_limits}
use Rattle.point_darts.specs.Dart.{mark, points, slots, dart, point, reversal}
use Rattle.point_darts.specs.Point.{corner}
use Rattle.point_darts.proofs.Darts.{place, point_dart, column, place_own, column_below, place_below}
use Rattle.paper.specs.Name.{names, named, cells}
use Rattle.paper.specs.Level.{border, side, tops}
use Rattle.paper.specs.Enclosure.{top_side, hole, holes}
use Rattle.paper_laws.proofs.Name.{cell_below, name_range, name_own}
use Rattle.paper_laws.proofs.Cells.{named_west, named_north, named_east, named_south}
use Rattle.paper_laws.proofs.First.{every_cell, top_side_cell, named_cell, top_side_on}
use Rattle.paper_laws.proofs.Sheet.{across, side_east, across_east, border_differs, differs_border}
use Rattle.paper_laws.proofs.Piece.{tops_le}
use Rattle.paper_laws.proofs.Kept.{top, mask_some}
use Rattle.paper_laws.proofs.Marks.{within_fits}
use Rattle.paper_laws.proofs.Enclosure.{Head, line_head, head_east, head_north_cells, head_west_cells, head_side}
use Rattle.paper_laws.proofs.Enclosure.{round, parentage, parents_own, parents_used}
use Rattle.paper_laws.proofs.Parity.{sheet_edged, nook, inner, top_inner}
use Rattle.paper_laws.proofs.Round.{region_inside}

-- The least point t of a piece, in column x and row y.
module _ (w h : ℕ) (n : List ℕ) (t : ℕ) (s : Head w h (border w h n) t) where
  abbrev x : ℕ
  x = t % (w + 1)

  abbrev y : ℕ
  y = t / (w + 1)

  -- its north-west, north-east and south-west cells are one
  head_north_named : named w h n x y ≡ named w h n (suc x) y
  unfolding corner cells
  head_north_named = head_north_cells w h n s

  head_west_named : named w h n x y ≡ named w h n x (suc y)
  unfolding corner cells
  head_west_named = head_west_cells w h n s

  -- and its south-east cell is another
  head_apart : named w h n (suc x) (suc y) ≢ named w h n x y
  head_apart e =
      let l : x ≤ w = column_below w t in
      let a : side w h n (dart t 0) ≡ named w h n (suc x) (suc y) = rw place_own at (side_east w h n x y l) in
      let b : across w h n (dart t 0) ≡ named w h n (suc x) y = rw place_own at (across_east w h n x y l) in
      border_differs w h n (dart t 0) (head_east w h n s) (a ∙ e ∙ head_north_named ∙ sym b)

  -- the region of the three lies round the piece
  head_nook : side w h n (reversal w (dart t 0)) ≡ nook w h n t
  unfolding corner cells
  head_nook = head_side w h n s

  -- so that cell is on the sheet
  head_column : x < w
  head_column = go (dec_lt x w)
    where
      go : Dec (x < w) → x < w
      go (yes l) = l
      go (no l) =
          let k : w < suc x = omega arith in
          absurd (head_apart (named_east w h n (suc x) (suc y) k ∙ sym (head_north_named ∙ named_east w h n (suc x) y k)))

  head_row : y < h
  head_row = go (dec_lt y h)
    where
      go : Dec (y < h) → y < h
      go (yes l) = l
      go (no l) =
          let k : h < suc y = omega arith in
          absurd (head_apart (named_south w h n (suc x) (suc y) k ∙ sym (head_west_named ∙ named_south w h n x (suc y) k)))

  -- and lies inside the piece
  head_inner : inner w h n t (suc x) (suc y) ≡ true
  head_inner =
      top_inner w h n t x y (column_below w t) (rw place_own (head_east w h n s)) (rw place_own s.own) head_apart

  -- no cell before it does
  before_inner : (u v : ℕ) → v * w + u < y * w + x → v ≤ y → inner w h n t (suc u) (suc v) ≡ false
  unfolding place
  before_inner u v b l =
      inside_begin (sheet_edged w h n (nook w h n t) t) u v
      (λ k i. ne_eqb (top w h (border w h n) (place w k v)) t
      (λ q. omega (arith, tops_le w h (border w h n) (place w k v), place_own w t)))

-- cells in their order come row by row
rows_order : (w x y u v : ℕ) → x < w → v * w + u < y * w + x → v ≤ y
rows_order w x y u v a l = go (dec_le v y)
  where
    go : Dec (v ≤ y) → v ≤ y
    go (yes k) = k
    go (no k) = let m : suc y ≤ v = omega arith in absurd (omega (arith, suc-mul y w, mul-le-mul_right w m))

-- South-east of it is the first cell of a region.
module _ (w h : ℕ) (s : List ℕ) (t : ℕ) (d : Head w h (border w h (names w h s)) t) where
  abbrev n : List ℕ
  n = names w h s

  abbrev i : ℕ
  i = t % (w + 1)

  abbrev j : ℕ
  j = t / (w + 1)

  abbrev c : ℕ
  c = j * w + i

  -- no cell before it has its name
  none_before : (k : ℕ) → k < w * h → k < c → get_or (names w h s) k 0 ≢ get_or (names w h s) c 0
  none_before =
      let a : i < w = head_column w h n t d in
      every_cell w h (λ k. k < c → get_or n k 0 ≢ get_or n c 0)
      (λ u v p q l e.
      clash (region_inside w h s t u v i j p q a (head_row w h n t d) e ∙ head_inner w h n t d)
      (before_inner w h n t d u v l (rows_order w i j u v a l)))

  pub head_first : (c : ℕ) × (c < w * h) × (t ≡ point (top_side w c)) × (get_or (names w h s) c 0 ≡ suc c)
  head_first =
      let a : i < w = head_column w h n t d in
      let b : c < w * h = cell_below w h i j a (head_row w h n t d) in
      let p : point (top_side w c) ≡ t =
      ap point (top_side_cell w i j a) ∙ point_dart (place w i j) 0 (lit< tt) ∙ place_own w t in
      (c, b, sym p, own b (ℕ_discrete (get_or n c 0) (suc c)))
    where
      own : c < w * h → Dec (get_or n c 0 ≡ suc c) → get_or n c 0 ≡ suc c
      own b (yes e) = e
      own b (no e) =
          let r = name_range w h s c b in
          absurd (none_before (get_or n c 0 - 1) (omega arith) (omega arith) (name_own w h s c b))

-- p is the least point of a piece that the region r lies round
abbrev pub piece_in : ℕ → ℕ → List ℕ → ℕ → ℕ → Bool
piece_in w h n r p =
    (eqb (top w h (border w h n) p) p && border w h n (dart p 0)) && eqb (side w h n (reversal w (dart p 0))) r

module _ (w h : ℕ) (n : List ℕ) (r p : ℕ) where
  abbrev itself : Bool
  itself = eqb (top w h (border w h n) p) p

  abbrev lined : Bool
  lined = border w h n (dart p 0)

  abbrev rounded : Bool
  rounded = eqb (side w h n (reversal w (dart p 0))) r

  pub piece_head : piece_in w h n r p ≡ true → Head w h (border w h n) p
  piece_head e =
      let a = and_left (itself && lined) rounded e in
      record {
        own = eqb-true (top w h (border w h n) p) p (and_left itself lined a);
        lined = mask_some (border w h n) (dart p 0) p (and_right itself lined a) (point_dart p 0 (lit< tt));
      }

  pub piece_round : piece_in w h n r p ≡ true → side w h n (reversal w (dart p 0)) ≡ r
  piece_round e = eqb-true (side w h n (reversal w (dart p 0))) r (and_right (itself && lined) rounded e)

  pub head_piece : Head w h (border w h n) p → side w h n (reversal w (dart p 0)) ≡ r → piece_in w h n r p ≡ true
  head_piece d e =
      and_true (and_true (eq-eqb (top w h (border w h n) p) p d.own) (head_east w h n d))
      (eq-eqb (side w h n (reversal w (dart p 0))) r e)

-- The outer piece of some region whose parent is r is a piece that r lies round, and there are no others.
module _ (w h : ℕ) (s : List ℕ) (small : slots w h ≤ mark) (r p : ℕ) (other : r ≢ mark) where
  abbrev l : List ℕ
  l = names w h s

  abbrev below : ℕ → Bool
  below i = eqb (get_or (parentage w h l) (suc i) mark) r

  abbrev outer : ℕ → Bool
  outer i = eqb (top w h (border w h l) (point (top_side w i))) p

  outer_head : (i : ℕ) → i < w * h → get_or (names w h s) i 0 ≡ suc i
      → top w h (border w h (names w h s)) (point (top_side w i)) ≡ p → Head w h (border w h (names w h s)) p
  outer_head i b e q = rw q at (line_head w h l (top_side w i) (top_side_on w h s i b e))

  parent_round : (i : ℕ) → i < w * h → get_or (names w h s) i 0 ≡ suc i
      → top w h (border w h (names w h s)) (point (top_side w i)) ≡ p
      → get_or (parentage w h (names w h s)) (suc i) mark ≡ side w h (names w h s) (reversal w (dart p 0))
  unfolding round
  parent_round i b e q = parents_own w h s i b e ∙ rw q

  to_piece : (i : ℕ) → i < w * h → (below i && outer i) ≡ true → piece_in w h (names w h s) r p ≡ true
  to_piece i b e =
      let a : get_or (parentage w h l) (suc i) mark ≡ r = eqb-true _ r (and_left (below i) (outer i) e) in
      let q : top w h (border w h l) (point (top_side w i)) ≡ p = eqb-true _ p (and_right (below i) (outer i) e) in
      let o : get_or l i 0 ≡ suc i = (parents_used w h s i b small).0 (λ m. other (sym a ∙ m)) in
      head_piece w h l r p (outer_head i b o q) (sym (parent_round i b o q) ∙ a)

  from_piece : piece_in w h (names w h s) r p ≡ true → some (w * h) (λ i. below i && outer i) ≡ true
  from_piece e =
      let d = piece_head w h l r p e in
      let (c, b, t, o) = head_first w h s p d in
      let q : top w h (border w h l) (point (top_side w c)) ≡ p = ap (top w h (border w h l)) (sym t) ∙ d.own in
      found_some (λ i. below i && outer i) (w * h) c b
      (and_true (eq-eqb _ r (parent_round c b o q ∙ piece_round w h l r p e)) (eq-eqb _ p q))

  hole_piece : hole w h (tops w h (border w h (names w h s))) (parentage w h (names w h s)) r p
      ≡ piece_in w h (names w h s) r p
  unfolding hole
  hole_piece =
      same_test (some (w * h) (λ i. below i && outer i)) (piece_in w h l r p)
      (λ e. let (i, b, q) = some_found (λ i. below i && outer i) (w * h) e in to_piece i b q) from_piece

-- So the holes of r are the pieces that it lies round.
pub holes_pieces : (w h : ℕ) (s : List ℕ) → slots w h ≤ mark → (r : ℕ) → r ≢ mark
    → holes w h (border w h (names w h s)) (parentage w h (names w h s)) r
    ≡ count (points w h) (piece_in w h (names w h s) r)
unfolding holes
holes_pieces w h s small r other =
    count_agree (hole w h (tops w h (border w h (names w h s))) (parentage w h (names w h s)) r)
    (piece_in w h (names w h s) r) (points w h) (λ p b. hole_piece w h s small r p other)

-- The outside lies round one piece, whose least point is the first point of the sheet.
module _ (w h : ℕ) (s : List ℕ) where
  -- a cell of the sheet is not of the outside
  pub on_sheet : (x y : ℕ) → x < w → y < h → named w h (names w h s) (suc x) (suc y) ≢ 0
  on_sheet x y a b e =
      omega (arith, name_range w h s (y * w + x) (cell_below w h x y a b), named_cell w h (names w h s) x y a b)

  outside_row : (x y : ℕ) → x < w → y ≤ h → named w h (names w h s) (suc x) y ≡ 0 → y ≡ 0
  outside_row x zero a b e = refl
  outside_row x (suc y) a b e = absurd (on_sheet x y a b e)

  outside_column : (x y : ℕ) → x ≤ w → y < h → named w h (names w h s) x (suc y) ≡ 0 → x ≡ 0
  outside_column zero y a b e = refl
  outside_column (suc x) y a b e = absurd (on_sheet x y a b e)

  outside_only : (p : ℕ) → piece_in w h (names w h s) 0 p ≡ true → p ≡ place w 0 0
  outside_only p e =
      let n = names w h s in
      let d = piece_head w h n 0 p e in
      let o : nook w h n p ≡ 0 = sym (head_nook w h n p d) ∙ piece_round w h n 0 p e in
      let a : p % (w + 1) < w = head_column w h n p d in
      let b : p / (w + 1) < h = head_row w h n p d in
      let x : p % (w + 1) ≡ 0 = outside_column (p % (w + 1)) (p / (w + 1)) (omega arith) b
      (sym (head_west_named w h n p d) ∙ o) in
      let y : p / (w + 1) ≡ 0 = outside_row (p % (w + 1)) (p / (w + 1)) a (omega arith)
      (sym (head_north_named w h n p d) ∙ o) in
      sym (place_own w p) ∙ rw (x, y)

  module _ (a : 1 ≤ w) (b : 1 ≤ h) where
    first_line : border w h (names w h s) (dart (place w 0 0) 0) ≡ true
    first_line =
        let n = names w h s in
        differs_border w h n (dart (place w 0 0) 0)
        (λ q. on_sheet 0 0 a b
        (sym (side_east w h n 0 0 zero-le) ∙ q ∙ across_east w h n 0 0 zero-le ∙ named_north w h n 1))

    first_head : Head w h (border w h (names w h s)) (place w 0 0)
    unfolding place
    first_head =
        let on = border w h (names w h s) in
        record {
          own = omega (arith, tops_le w h on (place w 0 0));
          lined = mask_some on (dart (place w 0 0) 0) (place w 0 0) first_line (point_dart (place w 0 0) 0 (lit< tt));
        }

    first_piece : piece_in w h (names w h s) 0 (place w 0 0) ≡ true
    first_piece =
        let n = names w h s in
        head_piece w h n 0 (place w 0 0) first_head
        (head_nook w h n (place w 0 0) first_head ∙ rw (column w 0 0 zero-le) (named_west w h n _))

    outside_piece : count (points w h) (piece_in w h (names w h s) 0) ≡ 1
    outside_piece =
        count_single (piece_in w h (names w h s) 0) (place w 0 0) first_piece (points w h)
        (place_below w h 0 0 zero-le zero-le) (λ p _. outside_only p)

-- The outside has one hole in every sheet.
pub outside_hole : (w h : ℕ) (s : List ℕ) → within w h ≡ true
    → holes w h (border w h (names w h s)) (parentage w h (names w h s)) 0 ≡ 1
unfolding mark
outside_hole w h s e =
    let l = within_limits w h e in
    holes_pieces w h s (within_fits w h e) 0 (λ q. omega (arith, q)) ∙ outside_piece w h s l.width_some l.height_some
