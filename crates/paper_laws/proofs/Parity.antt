-- The cells inside a piece of lines: those from which the way west to the edge crosses an odd number of the piece's
-- lines that have the region round the piece on one side.
--   top w h on p    == the least point of the piece of p
--   of_region w h n q x y == the cell north-west of the place in column x and row y has the name q
--   of_piece w h n t x y  == that place is of the piece whose least point is t
--   Edged w h e t   == where exactly one of two cells is of the region e, the ends of the line between them are both of
--                      the piece t or both not; and off the sheet there are no such cells
--   nook w h n t    == the name of the cell north-west of the point t: if t is the least of a piece, the region round it
--   inner w h n t x y == west of the cell is an odd number of the lines of the piece t between its nook and others
--   Touch x y u v   == the cell in column u and row v is one of the four round the place in column x and row y
--   parted .. x y   == the cell lies inside or is of the region round the piece, and not both
use mathlib.Core.Path.{◌≡◌, refl, sym, ap, ◌∙◌}
use mathlib.Core.Bool.{Bool, true, false, not, ◌&&◌}
use mathlib.Core.List.{List}
use mathlib.Core.Logic.{◌≢◌}
use Prim.Native.Nat.{ℕ, suc, ◌+◌, ◌/◌, ◌%◌, ◌<◌, ◌≤◌}
use native.Mathlib.Nat.{le_refl}
use native.Mathlib.Decide.{dec_le}
use native.Mathlib.Omega.{arith}
use lib.Dec.{eqb, lit<}
use borrow.Author.Tests.{eq-eqb, ne_eqb, not-true}
use Rattle.laws.proofs.Test.{clash}
use Rattle.laws.proofs.Even.{odd, odd_false}
use Rattle.laws.proofs.Parity.{joined_same, Edged, inside, inside_start, inside_east, inside_south}
use Rattle.laws.proofs.Parity.{Touch, north_east, south_west, south_east, still_touch, round_touch}
use Rattle.point_darts.specs.Dart.{dart, point, reversal, line}
use Rattle.point_darts.proofs.Darts.{place, point_dart, column, row, place_own, every_line}
use Rattle.point_darts.proofs.Darts.{reversal_east, reversal_south, reversal_west, reversal_north}
use Rattle.paper.specs.Name.{named}
use Rattle.paper.specs.Level.{border}
use Rattle.paper_laws.proofs.Cells.{named_west, named_north, named_east, named_south}
use Rattle.paper_laws.proofs.Sheet.{side_east, side_south, across_east, across_south, differs_border}
use Rattle.paper_laws.proofs.Sheet.{border_line, border_lines, sheet}
use Rattle.paper_laws.proofs.Piece.{tops_le, tops_tops}
use Rattle.paper_laws.proofs.Kept.{top, dart_point, sheet_tops}

-- The two ends of a line are of one piece.
module _ (w h : ℕ) (n : List ℕ) where
  abbrev least : ℕ → ℕ
  least = top w h (border w h n)

  along_east : (x y : ℕ) → border w h n (dart (place w x y) 0) ≡ true → least (place w x y) ≡ least (place w (suc x) y)
  unfolding sheet
  along_east x y o =
      rw (reversal_east w x y, point_dart (place w x y) 0 (lit< tt), point_dart (place w (suc x) y) 2 (lit< tt))
      at ((sheet_tops w h n).along (dart (place w x y) 0) o)

  along_south : (x y : ℕ) → border w h n (dart (place w x y) 1) ≡ true → least (place w x y) ≡ least (place w x (suc y))
  unfolding sheet
  along_south x y o =
      rw (reversal_south w x y, point_dart (place w x y) 1 (lit< tt), point_dart (place w x (suc y)) 3 (lit< tt))
      at ((sheet_tops w h n).along (dart (place w x y) 1) o)

  -- and between two cells that differ there is a line
  row_differs : (x y : ℕ) → named w h n (suc x) y ≢ named w h n (suc x) (suc y)
      → least (place w x y) ≡ least (place w (suc x) y)
  row_differs x y f = go (dec_le x w)
    where
      go : Dec (x ≤ w) → least (place w x y) ≡ least (place w (suc x) y)
      go (yes l) =
          along_east x y
          (differs_border w h n (dart (place w x y) 0)
          (λ q. f (sym (sym (side_east w h n x y l) ∙ q ∙ across_east w h n x y l))))
      go (no l) =
          let k : w < suc x = omega arith in
          absurd (f (named_east w h n (suc x) y k ∙ sym (named_east w h n (suc x) (suc y) k)))

  column_differs : (x y : ℕ) → named w h n x (suc y) ≢ named w h n (suc x) (suc y)
      → least (place w x y) ≡ least (place w x (suc y))
  column_differs x y f = go (dec_le x w)
    where
      go : Dec (x ≤ w) → least (place w x y) ≡ least (place w x (suc y))
      go (yes l) =
          along_south x y
          (differs_border w h n (dart (place w x y) 1)
          (λ q. f (sym (side_south w h n x y l) ∙ q ∙ across_south w h n x y l)))
      go (no l) =
          let k : w < x = omega arith in
          absurd (f (named_east w h n x (suc y) k ∙ sym (named_east w h n (suc x) (suc y) (omega arith))))

abbrev pub of_region : ℕ → ℕ → List ℕ → ℕ → ℕ → ℕ → Bool
of_region w h n q x y = eqb (named w h n x y) q

abbrev pub of_piece : ℕ → ℕ → List ℕ → ℕ → ℕ → ℕ → Bool
of_piece w h n t x y = eqb (top w h (border w h n) (place w x y)) t

eqb_same : (q : ℕ) {u v : ℕ} → u ≡ v → eqb u q ≡ eqb v q
eqb_same q e = ap (λ u. eqb u q) e

pub sheet_edged : (w h : ℕ) (n : List ℕ) (q t : ℕ) → Edged w h (of_region w h n q) (of_piece w h n t)
sheet_edged w h n q t =
    record {
      west = λ y. eqb_same q (named_west w h n y ∙ sym (named_west w h n (suc y)));
      north = λ x. eqb_same q (named_north w h n x ∙ sym (named_north w h n (suc x)));
      east = λ x y l. eqb_same q (named_east w h n x y l ∙ sym (named_east w h n x (suc y) l));
      south = λ x y l. eqb_same q (named_south w h n x y l ∙ sym (named_south w h n (suc x) y l));
      upright = λ x y f. eqb_same t (column_differs w h n x y (λ p. f (eqb_same q p)));
      level = λ x y f. eqb_same t (row_differs w h n x y (λ p. f (eqb_same q p)));
    }

abbrev pub nook : ℕ → ℕ → List ℕ → ℕ → ℕ
nook w h n t = named w h n (t % (w + 1)) (t / (w + 1))

abbrev pub inner : ℕ → ℕ → List ℕ → ℕ → ℕ → ℕ → Bool
inner w h n t = inside (of_region w h n (nook w h n t)) (of_piece w h n t)

-- cells of one name beside each other both lie inside, or none does
module _ (w h : ℕ) (n : List ℕ) (t x y : ℕ) where
  pub inner_east : named w h n x y ≡ named w h n (suc x) y → inner w h n t (suc x) y ≡ inner w h n t x y
  inner_east e =
      let q = nook w h n t in
      inside_east (of_region w h n q) (of_piece w h n t) x y (eqb_same q e)

  pub inner_south : named w h n x y ≡ named w h n x (suc y) → inner w h n t x (suc y) ≡ inner w h n t x y
  inner_south e =
      let q = nook w h n t in
      inside_south (sheet_edged w h n q t) x y (eqb_same q e)

and_same : (a b c d : Bool) → a ≡ b → (a ≡ true → b ≡ true → c ≡ d) → (a && c) ≡ (b && d)
and_same true true c d e f = f refl refl
and_same true false c d e f = clash refl e
and_same false true c d e f = clash refl (sym e)
and_same false false c d e f = refl

-- What is one at the four cells round each point of some pieces is one north-west of all points of each of these.
module _ (w h : ℕ) (n : List ℕ) (f : ℕ → Bool) (g : ℕ → ℕ → Bool)
    (keeps : (x y u v : ℕ) → f (top w h (border w h n) (place w x y)) ≡ true → Touch x y u v → g u v ≡ g x y) where
  -- a point is of one of the pieces
  abbrev here : ℕ → Bool
  here p = f (top w h (border w h n) p)

  abbrev at : ℕ → Bool
  at p = g (p % (w + 1)) (p / (w + 1))

  at_place : (x y : ℕ) → x ≤ w → at (place w x y) ≡ g x y
  at_place x y l = rw (column w x y l, row w x y l)

  -- along a line
  at_east : (x y : ℕ) → x < w → here (place w x y) ≡ true → at (place w x y) ≡ at (place w (suc x) y)
  at_east x y l u = at_place x y (omega arith) ∙ sym (keeps x y (suc x) y u north_east) ∙ sym (at_place (suc x) y l)

  at_south : (x y : ℕ) → x ≤ w → here (place w x y) ≡ true → at (place w x y) ≡ at (place w x (suc y))
  at_south x y l u = at_place x y l ∙ sym (keeps x y x (suc y) u south_west) ∙ sym (at_place x (suc y) l)

  abbrev Keeps : ℕ → ℕ → Type 0
  Keeps p r = here p ≡ true → here r ≡ true → at p ≡ at r

  keeps_dart : (p j r k : ℕ) → j < 4 → k < 4 → reversal w (dart p j) ≡ dart r k → Keeps p r
      → Keeps (point (dart p j)) (point (reversal w (dart p j)))
  keeps_dart p j r k a b q = rw (q, point_dart p j a, point_dart r k b) (λ f. f)

  keeps_line : (d : ℕ) → line w h d ≡ true → Keeps (point d) (point (reversal w d))
  keeps_line =
      every_line w h (λ d. Keeps (point d) (point (reversal w d)))
      (λ x y a b. keeps_dart (place w x y) 0 (place w (suc x) y) 2 (lit< tt) (lit< tt) (reversal_east w x y)
      (λ u v. at_east x y a u))
      (λ x y a b. keeps_dart (place w x y) 1 (place w x (suc y)) 3 (lit< tt) (lit< tt) (reversal_south w x y)
      (λ u v. at_south x y a u))
      (λ x y a b. keeps_dart (place w (suc x) y) 2 (place w x y) 0 (lit< tt) (lit< tt) (reversal_west w x y)
      (λ u v. sym (at_east x y a v)))
      (λ x y a b. keeps_dart (place w x (suc y)) 3 (place w x y) 1 (lit< tt) (lit< tt) (reversal_north w x y)
      (λ u v. sym (at_south x y a v)))

  -- and so along a chain of lines, here to the least point
  abbrev both : ℕ → Bool
  both p = here p && at p

  chain_both : (d : ℕ) → border w h n d ≡ true → both (point d) ≡ both (top w h (border w h n) (point d))
  unfolding sheet
  chain_both d o =
      joined_same both
      (λ c i. let r = reversal w c in
      and_same (here (point c)) (here (point r)) (at (point c)) (at (point r))
      (ap f ((sheet_tops w h n).along c i)) (keeps_line c (border_line w h n c i)))
      ((sheet_tops w h n).joined d o)

  chain_keeps : (d : ℕ) → border w h n d ≡ true → here (point d) ≡ true
      → at (point d) ≡ at (top w h (border w h n) (point d))
  chain_keeps d o u =
      let t = tops_tops w h (border w h n) (point d) (dart_point w h (border w h n) (border_lines w h n) d o) in
      rw (t, u) at (chain_both d o)

-- A cell north-west of a point does not lie inside a piece whose least point is that point or a later one: no place of
-- the piece is west of the point in its row.
outer_before : (w h : ℕ) (n : List ℕ) (t p : ℕ) → p ≤ t → inner w h n t (p % (w + 1)) (p / (w + 1)) ≡ false
unfolding place
outer_before w h n t p b =
    let y = p / (w + 1) in
    inside_start (of_region w h n (nook w h n t)) (of_piece w h n t) (p % (w + 1)) y
    (λ k l. ne_eqb (top w h (border w h n) (place w k y)) t
    (λ q. omega (arith, tops_le w h (border w h n) (place w k y), place_own w p)))

-- No cell round a point of a piece lies inside a piece whose least point is later.
pub outer_later : (w h : ℕ) (n : List ℕ) (t d : ℕ) → border w h n d ≡ true → top w h (border w h n) (point d) < t
    → {u v : ℕ} → Touch (point d % (w + 1)) (point d / (w + 1)) u v → inner w h n t u v ≡ false
outer_later w h n t d o l {u} {v} c =
    let p : ℕ = point d in
    let r : ℕ = top w h (border w h n) p in
    let g = sheet_edged w h n (nook w h n t) t in
    let a : eqb r t ≡ false = ne_eqb r t (λ e. omega arith) in
    still_touch g (rw place_own a) c
    ∙ chain_keeps w h n (λ q. not (eqb q t)) (inner w h n t) (λ x y u v e. still_touch g (not-true _ e)) d o
    (ap not a)
    ∙ outer_before w h n t r (omega arith)

-- The piece with the least point t.
module _ (w h : ℕ) (n : List ℕ) (t : ℕ) where
  abbrev e : ℕ → ℕ → Bool
  e = of_region w h n (nook w h n t)

  abbrev parted : ℕ → ℕ → Bool
  parted x y = odd (inner w h n t x y) (e x y)

  abbrev parted_at : ℕ → Bool
  parted_at p = parted (p % (w + 1)) (p / (w + 1))

  -- the cell north-west of its least point does not lie inside, and is of the region round the piece
  head_parted : parted_at t ≡ true
  head_parted = rw (outer_before w h n t t (le_refl t), eq-eqb (nook w h n t) (nook w h n t) refl)

  -- and so round every point of the piece each cell lies inside or is of that region, and not both
  piece_parted : (d : ℕ) → border w h n d ≡ true → top w h (border w h n) (point d) ≡ t → {u v : ℕ}
      → Touch (point d % (w + 1)) (point d / (w + 1)) u v → parted u v ≡ true
  piece_parted d o q c =
      let g = sheet_edged w h n (nook w h n t) t in
      let a : eqb (top w h (border w h n) (point d)) t ≡ true = eq-eqb (top w h (border w h n) (point d)) t q in
      round_touch g (rw place_own a) c
      ∙ chain_keeps w h n (λ p. eqb p t) parted (λ x y u v. round_touch g) d o a
      ∙ rw q head_parted

  -- those that are not of that region lie inside
  pub piece_inner : (d : ℕ) → border w h n d ≡ true → top w h (border w h n) (point d) ≡ t → {u v : ℕ}
      → Touch (point d % (w + 1)) (point d / (w + 1)) u v → named w h n u v ≢ nook w h n t → inner w h n t u v ≡ true
  piece_inner d o q {u} {v} c f =
      sym (odd_false (inner w h n t u v))
      ∙ (rw (ne_eqb (named w h n u v) (nook w h n t) f) at (piece_parted d o q c))

  -- so does the cell below a line of the piece that runs east
  pub top_inner : (x y : ℕ) → x ≤ w → border w h n (dart (place w x y) 0) ≡ true
      → top w h (border w h n) (place w x y) ≡ t → named w h n (suc x) (suc y) ≢ nook w h n t
      → inner w h n t (suc x) (suc y) ≡ true
  top_inner x y l o q =
      let p : point (dart (place w x y) 0) ≡ place w x y = point_dart (place w x y) 0 (lit< tt) in
      piece_inner (dart (place w x y) 0) o (ap (top w h (border w h n)) p ∙ q)
      (rw (p, column w x y l, row w x y l) south_east)
