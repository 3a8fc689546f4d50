-- The least points of the pieces, and the points that are kept at level 3.
--   Lines w h on    == every dart that is on has its line on the sheet, and its reversal is on
--   Inside w h on   == a line that is on stays in the sheet
--   Piece w h on p q == a chain of lines that are on leads from p to q
--   top w h on p    == the least point of the piece of p, from the table tops
--   keeping w h on f == the table of the big points and of those that pass the test f
--   kept3 w h on    == the table of the points that are kept at level 3: the big points, and the anchors
--   Tops m top      == top is the same at both ends of a line, and joined with each point that has a dart
--   Anchored .. k   == k keeps the big points, and each point that stands for itself and for no big point
--   Loops m big k   == big points are kept, the other kept points are loops' points, and some is ahead of every dart
use mathlib.Core.Path.{◌≡◌, refl, sym, ap, ◌∙◌}
use mathlib.Core.Bool.{Bool, true, false, not, ◌&&◌, ◌||◌, or-true}
use mathlib.Core.List.{List}
use mathlib.Core.Logic.{◌≢◌}
use Prim.Native.Nat.{ℕ, ◌+◌, ◌<◌, ◌≤◌}
use native.Mathlib.Omega.{arith}
use lib.Dec.{eqb, lit<}
use lib.ListN.{get_or}
use borrow.Author.Tests.{eqb-true, eq-eqb, ne_eqb, ltb-true, not-true}
use Rattle.laws.specs.Table.{table, some}
use Rattle.laws.proofs.Test.{clash, and_left, and_right}
use Rattle.laws.proofs.Table.{get_or_table, some_none, none_some}
use Rattle.laws.proofs.Least.{step, stay, back, then, linked_iff}
use Rattle.laws.proofs.Curve.{Joined, Tops}
use Rattle.laws.proofs.Loop.{Above, Loops}
use Rattle.laws.proofs.Anchor.{Anchored, anchored_loops}
use Rattle.point_darts.specs.Dart.{points, dart, point, direction, beside, far, turned, reversal}
use Rattle.point_darts.specs.Point.{degree}
use Rattle.point_darts.proofs.Darts.{four, point_dart, dart_own, direction_below, turned_below}
use Rattle.point_darts.proofs.Darts.{point_reversal, reversal_dart, far_dart}
use Rattle.point_darts.proofs.Reach.{line_point, line_far, line_west_in, line_north_in}
use Rattle.point_rules.proofs.Turns.{some_has, has_some, degree_some}
use Rattle.paper.specs.Level.{border, side, mask, big, tops, anchor, kept3, among}
use Rattle.paper_laws.proofs.Next.{Lines, mask_below, has_mask}
use Rattle.paper_laws.proofs.Piece.{Inside, Line, west, north, Piece, piece_top, top_piece}
use Rattle.paper_laws.proofs.Sheet.{lines_map, sheet, sheet_chart, sheet_few, border_lines}

abbrev pub top : ℕ → ℕ → (ℕ → Bool) → ℕ → ℕ
top w h on p = get_or (tops w h on) p 0

-- Points that have a line.
module _ (on : ℕ → Bool) where
  -- a dart that is on is in the mask of its point
  pub mask_some : (d p : ℕ) → on d ≡ true → point d ≡ p → mask on p ≢ 0
  mask_some d p e q =
      has_some (mask on p) (direction d) (direction_below d)
      (has_mask on p (direction d) (direction_below d) ∙ rw (← q, dart_own d) e)

  pub some_mask : (p : ℕ) → mask on p ≢ 0 → (d : ℕ) × (on d ≡ true) × (point d ≡ p)
  some_mask p z =
      let (k, b, e) = some_has (mask on p) (mask_below on p) z in
      (dart p k, sym (has_mask on p k b) ∙ e, point_dart p k b)

  pub big_some : (p : ℕ) → big on p ≡ true → mask on p ≢ 0
  unfolding big
  big_some p e =
      let l : 2 < degree (mask on p) = ltb-true 2 (degree (mask on p)) e in
      degree_some (mask on p) (omega arith)

-- Lines that come with both their darts.
module _ (w h : ℕ) (on : ℕ → Bool) (l : Lines w h on) where
  pub lines_inside : Inside w h on
  lines_inside =
      record {
        west_in = λ p _ e. line_west_in w h p (l.lined (dart p 2) e);
        north_in = λ p _ e. line_north_in w h p (l.lined (dart p 3) e);
      }

  pub dart_point : (d : ℕ) → on d ≡ true → point d < points w h
  dart_point d e = line_point w h d (l.lined d e)

  pub mask_point : (p : ℕ) → mask on p ≢ 0 → p < points w h
  mask_point p z = let (d, e, q) = some_mask on p z in rw q at (dart_point d e)

  -- the reversal of a dart at p in direction k
  back_on : (p k : ℕ) → k < 4 → on (dart p k) ≡ true → on (dart (beside w p k) (turned k 2)) ≡ true
  back_on p k b e = rw (reversal_dart w p k b) at (l.back (dart p k) e)

  back_point : (p k : ℕ) → k < 4 → on (dart p k) ≡ true → beside w p k < points w h
  back_point p k b e = rw (far_dart w p k b) at (line_far w h (dart p k) (l.lined (dart p k) e))

  -- a line that leads back to p is that of a dart
  line_dart : (p q : ℕ) → Line w h on p q → (k : ℕ) × (k < 4) × (on (dart q k) ≡ true) × (beside w q k ≡ p)
  unfolding beside
  line_dart p q (west b e f) = (2, lit< tt, e, omega arith)
  line_dart p q (north b e f) = (3, lit< tt, e, omega arith)

  -- a dart leads from point to point of a piece
  beside_piece : (p k : ℕ) → k < 4 → on (dart p k) ≡ true → Piece w h on p (beside w p k)
  unfolding beside turned
  beside_piece p =
      let here : (k : ℕ) → k < 4 → on (dart p k) ≡ true → p < points w h =
      λ k b e. rw (point_dart p k b) at (dart_point (dart p k) e) in
      four (λ k. on (dart p k) ≡ true → Piece w h on p (beside w p k))
      (λ e. step (west (back_point p 0 (lit< tt) e) (back_on p 0 (lit< tt) e) refl))
      (λ e. step (north (back_point p 1 (lit< tt) e) (back_on p 1 (lit< tt) e) refl))
      (λ e.
      let b : p < points w h = here 2 (lit< tt) e in
      let i : 0 < p = lines_inside.west_in p b e in
      back (step (west b e (omega arith))))
      (λ e.
      let b : p < points w h = here 3 (lit< tt) e in
      let i : w + 1 ≤ p = lines_inside.north_in p b e in
      back (step (north b e (omega arith))))

  pub dart_piece : (d : ℕ) → on d ≡ true → Piece w h on (point d) (far w d)
  unfolding far
  dart_piece d e = beside_piece (point d) (direction d) (direction_below d) (rw (dart_own d) e)

  -- both ends of a line, and so all points of a piece or none, have lines
  line_masks : (p q : ℕ) → Line w h on p q → (mask on p ≢ 0) × (mask on q ≢ 0)
  line_masks p q r =
      let (k, b, e, f) = line_dart p q r in (
        mask_some on (dart (beside w q k) (turned k 2)) p (back_on q k b e)
            (point_dart (beside w q k) (turned k 2) (turned_below k 2) ∙ f),
        mask_some on (dart q k) q e (point_dart q k b),
      )

  pub piece_masks : {p q : ℕ} → Piece w h on p q → mask on p ≢ 0 → mask on q ≢ 0
  piece_masks r = (linked_iff (λ p. mask on p ≢ 0) line_masks r).0

  -- the lines as a map: pieces are its joined points
  module _ (side : ℕ → ℕ) where
    line_joined : (p q : ℕ) → Line w h on p q → Joined (lines_map w h on side) p q
    unfolding lines_map
    line_joined p q r =
        let (k, b, e, f) = line_dart p q r in
        let d : ℕ = dart q k in
        let j : Joined (lines_map w h on side) (point d) (point (reversal w d)) = Joined.line d e in
        Joined.back (rw (point_dart q k b, point_reversal w d, far_dart w q k b, f) at j)

    pub piece_joined : {p q : ℕ} → Piece w h on p q → Joined (lines_map w h on side) p q
    piece_joined stay = Joined.alone
    piece_joined (step {i = p} {j = q} r) = line_joined p q r
    piece_joined (back r) = Joined.back (piece_joined r)
    piece_joined (then r s) = Joined.onward (piece_joined r) (piece_joined s)

    pub lines_tops : Tops (lines_map w h on side) (top w h on)
    unfolding lines_map
    lines_tops =
        record {
          along = λ d e. rw (point_reversal w d) (piece_top w h on (dart_piece d e));
          joined = λ d e. piece_joined (top_piece w h on lines_inside (point d) (dart_point d e));
        }

-- a test that fails where another passes
and_not : (a b : Bool) → (a ≡ true → b ≡ false) → (a && b) ≡ false
and_not true b f = f refl
and_not false b f = refl

-- The anchors of a table t of least points: a point p that has a line, stands for itself, and for no big point.
module _ (w h : ℕ) (on : ℕ → Bool) (t : List ℕ) (p : ℕ) where
  abbrev lined : Bool
  lined = not (eqb (mask on p) 0)

  abbrev itself : Bool
  itself = eqb (get_or t p 0) p

  abbrev for_big : ℕ → Bool
  for_big q = eqb (get_or t q 0) p && big on q

  abbrev low : Bool
  low = not (some (points w h) for_big)

  anchor_own : anchor w h on t p ≡ true → get_or t p 0 ≡ p
  unfolding anchor
  anchor_own e = eqb-true (get_or t p 0) p (and_right lined itself (and_left (lined && itself) low e))

  anchor_free : anchor w h on t p ≡ true → (q : ℕ) → q < points w h → get_or t q 0 ≡ p → big on q ≡ false
  unfolding anchor
  anchor_free e q b f =
      let none = not-true (some (points w h) for_big) (and_right (lined && itself) low e) in
      rw (eq-eqb (get_or t q 0) p f) at (some_none for_big (points w h) none q b)

  anchor_is : mask on p ≢ 0 → get_or t p 0 ≡ p
      → ((q : ℕ) → q < points w h → get_or t q 0 ≡ p → big on q ≡ false) → anchor w h on t p ≡ true
  unfolding anchor
  anchor_is z e f =
      rw (ne_eqb (mask on p) 0 z, eq-eqb (get_or t p 0) p e)
      (ap not (none_some for_big (points w h)
      (λ q b. and_not (eqb (get_or t q 0) p) (big on q) (λ g. f q b (eqb-true (get_or t q 0) p g)))))

abbrev pub keeping : ℕ → ℕ → (ℕ → Bool) → (ℕ → Bool) → List Bool
keeping w h on f = table (points w h) (λ p. big on p || f p)

or_none : (a b : Bool) → (a || b) ≡ false → (a ≡ false) × (b ≡ false)
or_none true b e = clash refl e
or_none false b e = (refl, e)

module _ (w h : ℕ) (on f : ℕ → Bool) where
  keeping_at : (p : ℕ) → p < points w h → among (keeping w h on f) p ≡ (big on p || f p)
  unfolding among
  keeping_at p b = get_or_table (points w h) (λ p. big on p || f p) p false b

  -- a kept point is big or passes the test, one that is not kept neither
  pub keeping_small : (p : ℕ) → p < points w h → among (keeping w h on f) p ≡ true → big on p ≡ false → f p ≡ true
  keeping_small p b e g = rw (keeping_at p b, g) at e

  pub keeping_test : (p : ℕ) → p < points w h → f p ≡ true → among (keeping w h on f) p ≡ true
  keeping_test p b e = rw (keeping_at p b, e) (or-true (big on p))

  pub keeping_none : (p : ℕ) → p < points w h → among (keeping w h on f) p ≡ false → (big on p ≡ false) × (f p ≡ false)
  keeping_none p b e = or_none (big on p) (f p) (rw (keeping_at p b) at e)

  pub keeping_above : Lines w h on → Above (big on) (among (keeping w h on f))
  keeping_above l = record { above = λ p e. rw (keeping_at p (mask_point w h on l p (big_some on p e)), e) }

module _ (w h : ℕ) (on : ℕ → Bool) (l : Lines w h on) where
  pub lines_anchored : (side : ℕ → ℕ) → Anchored (lines_map w h on side) (big on) (top w h on) (among (kept3 w h on))
  unfolding lines_map kept3
  lines_anchored side =
      let f : ℕ → Bool = anchor w h on (tops w h on) in
      let at : (d : ℕ) → on d ≡ true → point d < points w h = dart_point w h on l in
      record {
        high = keeping_above w h on f l;
        own = λ d e k g. anchor_own w h on (tops w h on) (point d) (keeping_small w h on f (point d) (at d e) k g);
        free = λ d e i j k g.
            anchor_free w h on (tops w h on) (point d) (keeping_small w h on f (point d) (at d i) k g) (point e) (at e j);
        kept = λ d e q g.
            keeping_test w h on f (point d) (at d e)
            (anchor_is w h on (tops w h on) (point d) (mask_some on d (point d) e refl) q (λ p b r. free_at p d r g));
      }
    where
      free_at : (p d : ℕ) → top w h on p ≡ point d
          → ((e : ℕ) → on e ≡ true → top w h on (point e) ≡ point d → big on (point e) ≡ false) → big on p ≡ false
      free_at p d g f = go (big on p) refl
        where
          go : (b : Bool) → big on p ≡ b → big on p ≡ false
          go true b =
              let (e, i, q) = some_mask on p (big_some on p b) in
              rw q at (f e i (rw q g))
          go false b = b

-- The sheet.
module _ (w h : ℕ) (n : List ℕ) where
  abbrev on : ℕ → Bool
  on = border w h n

  pub sheet_inside : Inside w h (border w h n)
  sheet_inside = lines_inside w h on (border_lines w h n)

  pub sheet_tops : Tops (sheet w h n) (top w h (border w h n))
  unfolding sheet
  sheet_tops = lines_tops w h on (border_lines w h n) (side w h n)

  pub sheet_anchored :
      Anchored (sheet w h n) (big (border w h n)) (top w h (border w h n)) (among (kept3 w h (border w h n)))
  unfolding sheet
  sheet_anchored = lines_anchored w h on (border_lines w h n) (side w h n)

  pub sheet_loops : Loops (sheet w h n) (big (border w h n)) (among (kept3 w h (border w h n)))
  sheet_loops = anchored_loops (sheet_chart w h n) (sheet_few w h n) sheet_tops sheet_anchored
