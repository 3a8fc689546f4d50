-- Enclosure: the least point of a piece of lines, the region round the piece, and the parents of the regions.
--   top w h on p    == the least point of the piece of p
--   Head w h on t   == t is the least point of a piece that has a line
--   top_side w i     == the dart that runs east along the top side of cell i
--   round w h n i   == the region round the piece at the north-west corner of cell i
--   Used w h n r    == the name r is borne by its own cell
--   parents ..      == the table of parents, by name: the region round the piece at the name's cell, or the mark
--   parentage w h n == that table, of the sheet with the names n
use mathlib.Core.Path.{◌≡◌, refl, sym, ap, ◌∙◌}
use mathlib.Core.Bool.{Bool, true, false, cond, ◌&&◌}
use mathlib.Core.List.{List}
use mathlib.Core.Logic.{◌⊎◌, inl, inr, ⊎_elim, ◌≢◌, ◌↔◌}
use Prim.Native.Nat.{ℕ, zero, suc, ◌+◌, ◌*◌, ◌-◌, ◌/◌, ◌%◌, ◌<◌, ◌≤◌, zero-le}
use native.Mathlib.Nat.{suc-mul, mul-le-mul_right, div-lt_iff_lt-mul}
use native.Mathlib.Decide.{ℕ_discrete, dec_le}
use native.Mathlib.Omega.{arith}
use lib.Dec.{eqb, lit<}
use lib.ListN.{get_or}
use borrow.Author.Tests.{ne_eqb}
use Rattle.laws.specs.Table.{number}
use Rattle.laws.proofs.Table.{get_or_table, get_or_table_past}
use Rattle.point_darts.specs.Dart.{mark, points, slots, dart, point, reversal}
use Rattle.point_darts.specs.Point.{bits, corner, right, left, degree}
use Rattle.point_darts.proofs.Darts.{place, point_dart, direction_dart}
use Rattle.point_darts.proofs.Points.{degree_bits, parts_false}
use Rattle.paper.specs.Name.{names, named, cells}
use Rattle.paper.specs.Level.{border, side, mask, tops}
use Rattle.paper.specs.Enclosure.{top_side, parent, parents}
use Rattle.paper_laws.proofs.Name.{cell_below, name_range, name_own}
use Rattle.paper_laws.proofs.Next.{Lines}
use Rattle.paper_laws.proofs.Piece.{top_piece, tops_le, tops_tops, tops_west, tops_north}
use Rattle.paper_laws.proofs.Sheet.{across, side_reversal, border_alone, border_line, border_lines}
use Rattle.paper_laws.proofs.Marks.{cells_slots}
use Rattle.paper_laws.proofs.Kept.{top, mask_some, lines_inside, mask_point, piece_masks}
use Rattle.paper_laws.proofs.First.{every_cell, top_side_cell, named_cases, side_named, named_above, top_side_on}
use Rattle.paper_laws.proofs.First.{used, own_used, other_unused}

pub record Head (w h : ℕ) (on : ℕ → Bool) (t : ℕ) : Type 0 where
  pub own : top w h on t ≡ t
  pub lined : mask on t ≢ 0

module _ (w h : ℕ) (on : ℕ → Bool) (l : Lines w h on) where
  -- the least point of the piece of a point that has a line
  pub head_top : (p : ℕ) → mask on p ≢ 0 → Head w h on (top w h on p)
  head_top p z =
      let b = mask_point w h on l p z in
      record {
        own = tops_tops w h on p b;
        lined = piece_masks w h on l (top_piece w h on (lines_inside w h on l) p b) z;
      }

  -- no line leads from it west or north, to a smaller point
  module _ {t : ℕ} (s : Head w h on t) where
    head_point : t < points w h
    head_point = mask_point w h on l t s.lined

    head_no : (k q : ℕ) → (on (dart t k) ≡ true → (q < t) × (top w h on q ≡ top w h on t)) → on (dart t k) ≡ false
    head_no k q f = go (on (dart t k)) refl
      where
        go : (b : Bool) → on (dart t k) ≡ b → b ≡ false
        go true e = let g = f e in absurd (omega (arith, tops_le w h on q, s.own))
        go false e = refl

    pub head_west : on (dart t 2) ≡ false
    head_west =
        head_no 2 (t - 1)
        λ e. let i = (lines_inside w h on l).west_in t head_point e in (omega arith, tops_west w h on t head_point e)

    pub head_north : on (dart t 3) ≡ false
    head_north =
        head_no 3 (t - (w + 1))
        λ e. let i = (lines_inside w h on l).north_in t head_point e in (omega arith, tops_north w h on t head_point e)

-- the least point of the piece of a line of the sheet
pub line_head : (w h : ℕ) (n : List ℕ) (d : ℕ) → border w h n d ≡ true
    → Head w h (border w h n) (top w h (border w h n) (point d))
line_head w h n d o =
    head_top w h (border w h n) (border_lines w h n) (point d) (mask_some (border w h n) d (point d) o refl)

-- where west and north are absent, and not exactly one line is present, east and south are both present
module _ (on : ℕ → Bool) (t : ℕ) (some : mask on t ≢ 0) (one : degree (mask on t) ≢ 1)
    (west : on (dart t 2) ≡ false) (north : on (dart t 3) ≡ false) where
  only : degree (mask on t) ≡ number (on (dart t 0)) + number (on (dart t 1))
  unfolding mask
  only = degree_bits (λ k. on (dart t k)) ∙ rw (west, north) (omega arith)

  none : on (dart t 0) ≡ false → on (dart t 1) ≡ false → mask on t ≡ 0
  unfolding mask bits
  none e f = rw (e, f, west, north)

  both : (a b : Bool) → on (dart t 0) ≡ a → on (dart t 1) ≡ b → (a ≡ true) × (b ≡ true)
  both true true e f = (refl, refl)
  both true false e f = absurd (one (only ∙ rw (e, f)))
  both false true e f = absurd (one (only ∙ rw (e, f)))
  both false false e f = absurd (some (none e f))

  east_south : (on (dart t 0) ≡ true) × (on (dart t 1) ≡ true)
  east_south = both (on (dart t 0)) (on (dart t 1)) refl refl

-- The least point t of a piece of the sheet's lines.
module _ (w h : ℕ) (n : List ℕ) {t : ℕ} (s : Head w h (border w h n) t) where
  head_lines : (border w h n (dart t 0) ≡ true) × (border w h n (dart t 1) ≡ true)
  head_lines =
      let l = border_lines w h n in
      east_south (border w h n) t s.lined (border_alone w h n t)
      (head_west w h (border w h n) l s) (head_north w h (border w h n) l s)

  pub head_east : border w h n (dart t 0) ≡ true
  head_east = head_lines.0

  -- its north-west, north-east and south-west cells are one
  head_hands : (k : ℕ) → k < 4 → border w h n (dart t k) ≡ false → right (cells w h n t) k ≡ left (cells w h n t) k
  unfolding border
  head_hands k b e = parts_false (cells w h n t) k (rw (point_dart t k b, direction_dart t k b) at e)

  pub head_north_cells : corner (cells w h n t) 0 0 ≡ corner (cells w h n t) 0 1
  unfolding right left
  head_north_cells = sym (head_hands 3 (lit< tt) (head_north w h (border w h n) (border_lines w h n) s))

  pub head_west_cells : corner (cells w h n t) 0 0 ≡ corner (cells w h n t) 1 0
  unfolding right left
  head_west_cells = head_hands 2 (lit< tt) (head_west w h (border w h n) (border_lines w h n) s)

  -- and the region of these is on the right hand of the dart that leads back to t from the east
  pub head_side : side w h n (reversal w (dart t 0)) ≡ corner (cells w h n t) 0 0
  unfolding across left
  head_side =
      side_reversal w h n (dart t 0) (border_line w h n (dart t 0) head_east)
      ∙ rw (point_dart t 0 (lit< tt), direction_dart t 0 (lit< tt)) (sym head_north_cells)

-- the region round the piece of a point p that has a line lies in the rows above p, or is the outside
module _ (w h : ℕ) (n : List ℕ) (p : ℕ) (z : mask (border w h n) p ≢ 0) where
  round_named : let t = top w h (border w h n) p in
      side w h n (reversal w (dart t 0)) ≡ named w h n (t % (w + 1)) (t / (w + 1))
  unfolding corner cells
  round_named = head_side w h n (head_top w h (border w h n) (border_lines w h n) p z)

  round_row : (x y : ℕ) → x ≤ w → p ≡ place w x y → top w h (border w h n) p / (w + 1) ≤ y
  unfolding place
  round_row x y l e =
      let z : 0 < w + 1 = omega arith in
      let k : top w h (border w h n) p < suc y * (w + 1) =
      omega (arith, tops_le w h (border w h n) p, suc-mul y (w + 1)) in
      let r = (div-lt_iff_lt-mul z).1 k in
      omega arith

-- The table of parents, for any lines that are on and their sides.
module _ (w h : ℕ) (on : ℕ → Bool) (side : ℕ → ℕ) where
  parents_at : (r : ℕ) → r ≤ w * h → get_or (parents w h on side) r mark ≡ parent w on side (tops w h on) r
  unfolding parents
  parents_at r b = get_or_table (w * h + 1) (parent w on side (tops w h on)) r mark (omega arith)

  -- the outside has none
  pub parents_outside : get_or (parents w h on side) 0 mark ≡ mark
  unfolding parent
  parents_outside = parents_at 0 zero-le

  -- nor has a number that is no cell's
  pub parents_past : (r : ℕ) → w * h < r → get_or (parents w h on side) r mark ≡ mark
  unfolding parents
  parents_past r b = get_or_table_past (w * h + 1) (parent w on side (tops w h on)) r mark (omega arith)

  -- nor has a name that no dart's side bears
  pub parents_unborne : (r : ℕ) → ((d : ℕ) → on d ≡ true → side d ≢ r) → get_or (parents w h on side) r mark ≡ mark
  unfolding parent
  parents_unborne zero u = parents_outside
  parents_unborne (suc i) u = by (dec_le (suc i) (w * h))
    where
      top : (k : Bool) → on (top_side w i) ≡ k → (x : ℕ) → cond (k && eqb (side (top_side w i)) (suc i)) x mark ≡ mark
      top true e x = rw (ne_eqb (side (top_side w i)) (suc i) (u (top_side w i) e))
      top false e x = refl

      by : Dec (suc i ≤ w * h) → get_or (parents w h on side) (suc i) mark ≡ mark
      by (yes b) = parents_at (suc i) b ∙ top (on (top_side w i)) refl _
      by (no b) = parents_past (suc i) (omega arith)

abbrev pub parentage : ℕ → ℕ → List ℕ → List ℕ
parentage w h n = parents w h (border w h n) (side w h n)

unfoldable pub round : ℕ → ℕ → List ℕ → ℕ → ℕ
round w h n i = side w h n (reversal w (dart (top w h (border w h n) (point (top_side w i))) 0))

pub record Used (w h : ℕ) (n : List ℕ) (r : ℕ) : Type 0 where
  pub cell : ℕ
  pub bears : r ≡ suc cell
  pub below : cell < w * h
  pub own : get_or n cell 0 ≡ suc cell

module _ (w h : ℕ) (s : List ℕ) where
  abbrev n : List ℕ
  n = names w h s

  -- a side is 0 or a name in use
  named_used : (x y : ℕ) → (named w h (names w h s) x y ≡ 0) ⊎ Used w h (names w h s) (named w h (names w h s) x y)
  named_used x y =
      named_cases w h n (λ v. (v ≡ 0) ⊎ Used w h n v) x y (inl refl)
      (λ a b p q l m.
      let j : ℕ = b * w + a in
      let k : j < w * h = cell_below w h a b l m in
      let r = name_range w h s j k in
      let e : get_or n j 0 ≡ suc (get_or n j 0 - 1) = omega arith in
      inr (record { cell = get_or n j 0 - 1; bears = e; below = omega arith; own = name_own w h s j k ∙ e }))

  pub side_used : (d : ℕ) → (side w h (names w h s) d ≡ 0) ⊎ Used w h (names w h s) (side w h (names w h s) d)
  side_used d = let (x, y, _, e) = side_named w h n d in rw e (named_used x y)

  pub side_below : (d : ℕ) → side w h (names w h s) d ≤ w * h
  side_below d = ⊎_elim (λ e. omega arith) (λ u. omega arith) (side_used d)

  module _ (i : ℕ) (b : i < w * h) where
    parents_cell : get_or (parentage w h (names w h s)) (suc i) mark
        ≡ cond (used w h s i) (round w h (names w h s) i) mark
    unfolding parent round
    parents_cell = parents_at w h (border w h n) (side w h n) (suc i) b

    -- the parent of a name that is its cell's own, and of one that is not
    pub parents_own : get_or (names w h s) i 0 ≡ suc i
        → get_or (parentage w h (names w h s)) (suc i) mark ≡ round w h (names w h s) i
    parents_own e = parents_cell ∙ rw (own_used w h s i b e)

    pub parents_other : get_or (names w h s) i 0 ≢ suc i
        → get_or (parentage w h (names w h s)) (suc i) mark ≡ mark
    parents_other e = parents_cell ∙ rw (other_unused w h s i b e)

    -- where the mark is no name, a name has a parent exactly where it is its cell's own
    pub parents_used : slots w h ≤ mark
        → (get_or (parentage w h (names w h s)) (suc i) mark ≢ mark)
        ↔ (get_or (names w h s) i 0 ≡ suc i)
    unfolding round
    parents_used m = (λ f. go f (ℕ_discrete (get_or n i 0) (suc i)), λ e q. omega (arith, cells_slots w h, below e, q))
      where
        go : get_or (parentage w h n) (suc i) mark ≢ mark → Dec (get_or n i 0 ≡ suc i)
            → get_or n i 0 ≡ suc i
        go f (yes e) = e
        go f (no e) = absurd (f (parents_other e))

        below : get_or n i 0 ≡ suc i → get_or (parentage w h n) (suc i) mark ≤ w * h
        below e = rw (parents_own e) (side_below _)

  -- round the region whose first cell is i lies one with a smaller name
  pub round_below : (i : ℕ) → i < w * h → get_or (names w h s) i 0 ≡ suc i → round w h (names w h s) i < suc i
  unfolding round
  round_below = every_cell w h (λ i. get_or n i 0 ≡ suc i → round w h n i < suc i) low
    where
      low : (x y : ℕ) → x < w → y < h → get_or n (y * w + x) 0 ≡ suc (y * w + x)
          → round w h n (y * w + x) < suc (y * w + x)
      low x y a b e =
          let i : ℕ = y * w + x in
          let p : ℕ = point (top_side w i) in
          let t : ℕ = top w h (border w h n) p in
          let z = mask_some (border w h n) (top_side w i) p (top_side_on w h s i (cell_below w h x y a b) e) refl in
          let q : p ≡ place w x y = ap point (top_side_cell w x y a) ∙ point_dart (place w x y) 0 (lit< tt) in
          let r : t / (w + 1) ≤ y = round_row w h n p z x y (omega arith) q in
          rw (round_named w h n p z)
          (omega (arith, named_above w h s (t % (w + 1)) (t / (w + 1)), mul-le-mul_right w r))

  -- so the parent has a smaller name, and it is 0 or a name in use
  module _ (i : ℕ) (b : i < w * h) (e : get_or (names w h s) i 0 ≡ suc i) where
    pub parents_below : get_or (parentage w h (names w h s)) (suc i) mark < suc i
    parents_below = rw (parents_own i b e) (round_below i b e)

    pub parents_named : (get_or (parentage w h (names w h s)) (suc i) mark ≡ 0)
        ⊎ Used w h (names w h s) (get_or (parentage w h (names w h s)) (suc i) mark)
    unfolding round
    parents_named = rw (parents_own i b e) (side_used _)

  -- a name in use has a parent
  pub used_parent : slots w h ≤ mark → (r : ℕ) → Used w h (names w h s) r
      → get_or (parentage w h (names w h s)) r mark ≢ mark
  used_parent m r u = rw u.bears ((parents_used u.cell u.below m).1 u.own)
