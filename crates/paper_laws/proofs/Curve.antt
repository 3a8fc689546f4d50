-- Closed curves: an orbit that meets no point of degree 3 or 4 is a whole piece, and level 3 keeps its least point alone.
--   Meets m d q     == the orbit of d meets the point q
--   Clear m big d   == the orbit of d meets no big point
--   Piece w h on p q == a chain of lines that are on leads from p to q
--   top w h on p    == the least point of the piece of p
use mathlib.Core.Path.{◌≡◌, sym, ◌∙◌}
use mathlib.Core.Bool.{true}
use mathlib.Core.List.{List}
use mathlib.Core.Logic.{◌↔◌}
use Prim.Native.Nat.{ℕ, ◌≤◌}
use Rattle.laws.proofs.Chart.{times}
use Rattle.laws.proofs.Orbit.{orbit_on}
use Rattle.laws.proofs.Meet.{Meets, meets_start, covers_meets}
use Rattle.laws.proofs.Curve.{Clear, meets_joined, tops_meets}
use Rattle.point_darts.specs.Dart.{point}
use Rattle.paper.specs.Level.{border, side, next, big, kept3, among}
use Rattle.paper_laws.proofs.Piece.{Piece, top_piece, tops_le}
use Rattle.paper_laws.proofs.Sheet.{sheet, sheet_chart, sheet_few, border_lines}
use Rattle.paper_laws.proofs.Kept.{top, dart_point, piece_joined, sheet_inside, sheet_tops, sheet_anchored, sheet_loops}

-- Every orbit stays in its piece.
module _ (w h : ℕ) (n : List ℕ) (d : ℕ) (e : border w h n d ≡ true) where
  -- a point that is met is that of a dart of the orbit
  met_dart : {q : ℕ} → Meets (sheet w h n) d q → (x : ℕ) × (border w h n x ≡ true) × (point x ≡ q)
  unfolding sheet
  met_dart (i, a) = (times (next w (border w h n)) i d, orbit_on (sheet_chart w h n).turns i d e, a)

  pub met_top : {q : ℕ} → Meets (sheet w h n) d q → top w h (border w h n) q ≡ top w h (border w h n) (point d)
  unfolding sheet
  met_top r = tops_meets (sheet_chart w h n) (sheet_tops w h n) e r

  -- no point that is met is less than the least point of the piece
  pub met_least : {q : ℕ} → Meets (sheet w h n) d q → top w h (border w h n) (point d) ≤ q
  met_least {q} r = rw (met_top r) at (tops_le w h (border w h n) q)

  -- An orbit that meets no big point.
  module _ (c : Clear (sheet w h n) (big (border w h n)) d) where
    -- it meets every point of the piece
    pub closed_whole : {q : ℕ} → Piece w h (border w h n) (point d) q → Meets (sheet w h n) d q
    unfolding sheet
    closed_whole r =
        (meets_joined (sheet_chart w h n) (sheet_few w h n) e c
        (piece_joined w h (border w h n) (border_lines w h n) (side w h n) r)).0 (meets_start (sheet_chart w h n) d)

    pub closed_top : Meets (sheet w h n) d (top w h (border w h n) (point d))
    closed_top =
        closed_whole
        (top_piece w h (border w h n) (sheet_inside w h n) (point d)
        (dart_point w h (border w h n) (border_lines w h n) d e))

    -- and of its points the least, and no other, is kept at level 3
    pub closed_only : {q : ℕ} → Meets (sheet w h n) d q → among (kept3 w h (border w h n)) q ≡ true
        → q ≡ top w h (border w h n) (point d)
    unfolding sheet
    closed_only {q} r k =
        let (x, o, a) = met_dart r in
        let own : top w h (border w h n) q ≡ q =
        rw a at ((sheet_anchored w h n).own x o (rw a k) (rw a (c.clear r))) in
        sym own ∙ met_top r

    pub closed_kept : among (kept3 w h (border w h n)) (top w h (border w h n) (point d)) ≡ true
    unfolding sheet
    closed_kept =
        let (q, r, k) = covers_meets (sheet_chart w h n) (sheet_loops w h n).covers d e in
        rw (closed_only r k) at k

    pub closed_one : (q : ℕ) → Meets (sheet w h n) d q
        → (among (kept3 w h (border w h n)) q ≡ true) ↔ (q ≡ top w h (border w h n) (point d))
    closed_one q r = (closed_only r, λ t. rw t closed_kept)
