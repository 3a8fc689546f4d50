-- The points that are kept at level 2: between two of them the lines go straight on.
--   kept2 w h on    == the table of the points that are kept at level 2: the big points, and those with a bend
--   Covers m k      == from every dart some kept point is ahead
--   Passes m k      == at a point that is not kept, next of the way back is the way back of next
--   Clear m k d     == the orbit of d meets no point that passes k
use mathlib.Core.Path.{◌≡◌, refl, ap, ◌∙◌}
use mathlib.Core.Bool.{Bool, true, false}
use mathlib.Core.List.{List}
use mathlib.Core.Logic.{◌≢◌, ⊎_elim}
use Prim.Native.Nat.{ℕ, zero, suc, ◌<◌, ◌≤◌}
use native.Mathlib.Decide.{dec_lt}
use native.Mathlib.Omega.{arith}
use borrow.Author.Tests.{eq-eqb, eqb-false, ltb-false}
use Rattle.laws.proofs.Chart.{Covers, Passes, times}
use Rattle.laws.proofs.Orbit.{times_suc, orbit_on}
use Rattle.laws.proofs.Meet.{meets_covers}
use Rattle.laws.proofs.Loop.{Above, above_passes}
use Rattle.laws.proofs.Curve.{Clear, clear_or}
use Rattle.laws.proofs.Rise.{never_rises}
use Rattle.point_darts.specs.Dart.{point, direction, far, turned}
use Rattle.point_darts.specs.Point.{degree, inline}
use Rattle.point_darts.proofs.Darts.{direction_below, turned_below}
use Rattle.point_rules.proofs.Turns.{turn_straight, has_degree}
use Rattle.point_darts.proofs.Reach.{line_far, far_after, far_before}
use Rattle.paper.specs.Level.{border, mask, next, big, bent, kept2, among}
use Rattle.paper_laws.proofs.Next.{mask_below, way_in, point_next, direction_next}
use Rattle.paper_laws.proofs.Sheet.{sheet, sheet_chart, sheet_few, border_lines, border_line, border_back, border_alone}
use Rattle.paper_laws.proofs.Kept.{keeping_none, keeping_above}

module _ (w h : ℕ) (n : List ℕ) where
  abbrev on : ℕ → Bool
  on = border w h n

  pub kept2_above : Above (big (border w h n)) (among (kept2 w h (border w h n)))
  unfolding kept2
  kept2_above = keeping_above w h on (bent on) (border_lines w h n)

  pub kept2_passes : Passes (sheet w h n) (among (kept2 w h (border w h n)))
  kept2_passes = above_passes (sheet_chart w h n) (sheet_few w h n) kept2_above

  -- a dart that leads to a point that is neither big nor bent goes straight on
  module _ (d : ℕ) (e : border w h n d ≡ true) where
    two_lines : big (border w h n) (far w d) ≡ false → degree (mask (border w h n) (far w d)) ≡ 2
    unfolding big
    two_lines b =
        let m : ℕ = mask on (far w d) in
        let k : ℕ = turned (direction d) 2 in
        let one : degree m ≢ 1 = border_alone w h n (far w d) in
        omega (
          arith,
          ltb-false 2 (degree m) b,
          has_degree m k (turned_below (direction d) 2) (way_in w on d (border_back w h n d e)),
        )

    in_line : degree (mask (border w h n) (far w d)) ≡ 2 → bent (border w h n) (far w d) ≡ false
        → inline (mask (border w h n) (far w d)) ≢ 0
    unfolding bent
    in_line q b =
        let m : ℕ = mask on (far w d) in
        eqb-false (inline m) 0 (rw (eq-eqb (degree m) 2 q) at b)

    pub straight_on : among (kept2 w h (border w h n)) (far w d) ≡ false
        → direction (next w (border w h n) d) ≡ direction d
    unfolding kept2
    straight_on k =
        let f : ℕ = far w d in
        let (b, c) = keeping_none w h on (bent on) f (line_far w h d (border_line w h n d e)) k in
        let q = two_lines b in
        let u = border_back w h n d e in
        direction_next w on d u
        ∙ turn_straight (mask on f) (mask_below on f) (direction d) (direction_below d) (way_in w on d u) q (in_line q c)

  -- so an orbit that meets no kept point has one direction
  module _ {d : ℕ} (h₀ : border w h n d ≡ true) (c : Clear (sheet w h n) (among (kept2 w h (border w h n))) d) where
    abbrev at : ℕ → ℕ
    at i = times (next w (border w h n)) i d

    at_on : (i : ℕ) → border w h n (at i) ≡ true
    unfolding sheet
    at_on i = orbit_on (sheet_chart w h n).turns i d h₀

    at_point : (i : ℕ) → point (at (suc i)) ≡ far w (at i)
    at_point i = ap point (times_suc (next w on) i d) ∙ point_next w on (at i) (border_back w h n (at i) (at_on i))

    one_way : (i : ℕ) → direction (at i) ≡ direction d
    unfolding times sheet
    one_way zero = refl
    one_way (suc i) =
        ap direction (times_suc (next w on) i d)
        ∙ straight_on (at i) (at_on i) (c.clear (suc i, at_point i)) ∙ one_way i

    -- and its points only grow, or only fall, and never come back
    grows : direction d < 2 → ⊥
    unfolding sheet
    grows b =
        never_rises (λ x y. point x < point y) (λ x y z p q. omega arith) (λ x p. omega arith)
        (sheet_chart w h n).turns d h₀
        (λ i. rw (at_point i) (far_after w h (at i) (rw (one_way i) b)))

    falls : 2 ≤ direction d → ⊥
    unfolding sheet
    falls b =
        never_rises (λ x y. point y < point x) (λ x y z p q. omega arith) (λ x p. omega arith)
        (sheet_chart w h n).turns d h₀
        (λ i. rw (at_point i) (far_before w h (at i) (rw (one_way i) b) (border_line w h n (at i) (at_on i))))

    never_clear : ⊥
    never_clear = go (dec_lt (direction d) 2)
      where
        go : Dec (direction d < 2) → ⊥
        go (yes b) = grows b
        go (no b) = falls (omega arith)

  pub kept2_covers : Covers (sheet w h n) (among (kept2 w h (border w h n)))
  unfolding sheet
  kept2_covers =
      meets_covers (sheet_chart w h n)
      λ d e. ⊎_elim (λ r. r) (λ c. absurd (never_clear e c)) (clear_or (among (kept2 w h on)) (sheet_chart w h n) d e)
