-- Steps 3 and 4 of the removal rule leave a point as it is where no removed curve ends, and one that they have treated.
--   o', m'          == the lines after a and b are joined, and their map
--   k               == the points that level 3 keeps before
--   Away t a b p    == no removed curve has an end at the point p
--   Free p          == no line at the point p is removed
use mathlib.Core.Path.{◌≡◌, refl, sym, ◌∙◌, ap}
use mathlib.Core.Bool.{Bool, true, false}
use mathlib.Core.Logic.{◌≢◌, ⊎_elim}
use mathlib.Core.List.{List, map}
use Prim.Native.Nat.{ℕ, ◌<◌, ◌≤◌}
use native.Mathlib.Nat.{zero-add}
use Rattle.laws.specs.Least.{lower}
use Rattle.laws.proofs.Test.{clash}
use Rattle.laws.proofs.Chart.{Map}
use Rattle.laws.proofs.Over.{next, other}
use Rattle.laws.proofs.Link.{next_at}
use Rattle.laws.proofs.Loop.{loop_fewer}
use Rattle.point_darts.specs.Dart.{mark, slots, points, point}
use Rattle.paper.specs.Name.{names}
use Rattle.paper.specs.Level.{border, big, tops}
use Rattle.paper.specs.Level as Level
use Rattle.paper.specs.Drawing.{Tables, drawn, drawing}
use Rattle.paper.specs.Joining.{Links, rest1, rest3, smooth, smooths, smoothed, close, closes}
use Rattle.paper.specs.Sitting.{Joinable, Away, Still}
use Rattle.paper_laws.proofs.Sheet.{lines_map, sheet, sheet_chart, border_lines}
use Rattle.paper_laws.proofs.Kept.{top, dart_point, sheet_inside, sheet_tops, sheet_anchored, sheet_loops}
use Rattle.paper_laws.proofs.Drawn.{anchors, sheet_plane}
use Rattle.paper_laws.proofs.Smoothed.{smooth_all, smooth_idle, smooth_again}
use Rattle.paper_laws.proofs.Closed.{close_all, close_idle, close_again}
use Rattle.paper_laws.proofs.Joined.{r1_on, r3_covers, start, closing}
use Rattle.paper_laws.proofs.Untouched.{Free, more, free_big, free_next, last_fewer, away_free, top_own}

-- The names n, before and after a and b are lowered to the smaller.
module _ (w h a b : ℕ) (n : List ℕ) (room : slots w h ≤ mark) (apart : a ≢ b) (za : a ≢ 0) (zb : b ≢ 0) where
  abbrev n' : List ℕ
  n' = map (lower a b) n

  abbrev o' : ℕ → Bool
  o' = border w h n'

  abbrev m' : Map
  m' = sheet w h n'

  abbrev k : ℕ → Bool
  k = anchors w h n

  abbrev t : Tables
  t = drawn w h n

  -- A point that a state keeps, where no removed curve ends: it was kept before, and no line at it is removed.
  module _ {k₁ : ℕ → Bool} (fewer : (q : ℕ) → k q ≡ false → k₁ q ≡ false) (p : ℕ) (away : Away t a b p)
      (k₁p : k₁ p ≡ true) where
    was : k p ≡ true
    was = go (k p) refl
      where
        go : (x : Bool) → k p ≡ x → k p ≡ true
        go true e = e
        go false e = clash k₁p (fewer p e)

    free : Free w h a b n room apart za zb p
    free = away_free w h a b n room apart za zb p was away

    -- Where it is not big, it is a loop's point, and stands for itself.
    module _ (d : ℕ) (e' : o' d ≡ true) (at_p : point d ≡ p) (small : big o' p ≡ false) where
      e : border w h n d ≡ true
      e = more w h a b n room apart za zb d e'

      kd : k (point d) ≡ true
      kd = ap k at_p ∙ was

      sd : big (border w h n) (point d) ≡ false
      sd = ap (big (border w h n)) at_p ∙ sym (free_big w h a b n room apart za zb p free) ∙ small

      loop : next (sheet w h n) k d ≡ d
      unfolding sheet lines_map
      loop = (sheet_loops w h n).loopy.loop d e kd sd

      still_loop : next m' k₁ d ≡ d
      unfolding sheet lines_map
      still_loop =
          let l = last_fewer w h a b n room apart za zb d e (free d e at_p) in
          let far : point (other (sheet w h n) k d) ≡ p =
          sym (next_at (sheet_chart w h n) (sheet_loops w h n).covers d e) ∙ ap point loop ∙ at_p in
          loop_fewer (sheet_chart w h n') (r3_covers w h a b n room apart za zb) fewer d e' (ap k₁ at_p ∙ k₁p)
          (ap (Level.next w o') l ∙ free_next w h a b n room apart za zb _ (rw far free) ∙ loop)

      still_top : top w h o' p ≡ p
      unfolding sheet lines_map
      still_top =
          let b' : point d < points w h = dart_point w h o' (border_lines w h n') d e' in
          rw at_p at
          (top_own w h (more w h a b n room apart za zb) (sheet_inside w h n') (point d) b'
          ((sheet_anchored w h n).own d e kd sd))

  abbrev r : Links
  r = rest3 w h t a b

  smooth_away : (i p : ℕ) → Away t a b p → smooth (smooths i 0 r) p ≡ smooths i 0 r
  unfolding rest3 sheet lines_map
  smooth_away i p away =
      let (k₁, f, fewer) = smooth_all (sheet_plane w h n') room i 0 k _ (start w h a b n room apart za zb) in
      smooth_idle (sheet_plane w h n') room k₁ _ p f.held f.covers
      (λ d e q kp bp. still_loop fewer p away kp d e q bp)

  smooth_treated : (i p : ℕ) → p < i → smooth (smooths i 0 r) p ≡ smooths i 0 r
  unfolding rest3
  smooth_treated i p q =
      let (k₁, f, _) = smooth_all (sheet_plane w h n') room i 0 k _ (start w h a b n room apart za zb) in
      smooth_again (sheet_plane w h n') room k₁ _ i p (rw (zero-add i) at f) q

  abbrev closing_after : ℕ → Links
  closing_after i = closes o' (tops w h o') i 0 (smoothed w h r)

  close_away : (i p : ℕ) → Away t a b p → close o' (tops w h o') (closing_after i) p ≡ closing_after i
  unfolding rest3 sheet lines_map
  close_away i p away =
      let (k₁, c, fewer) = closing w h a b n room apart za zb in
      let (k₂, g, new) = close_all (sheet_plane w h n') room (tops w h o') (sheet_tops w h n') i 0 k₁ _ c in
      close_idle (sheet_plane w h n') room (tops w h o') (sheet_tops w h n') k₂ _ p g.held g.loops
      (λ d e q kp bp. ⊎_elim (λ x. still_top fewer p away x d e q bp) (λ x. x) (new p kp))

  close_treated : (i p : ℕ) → p < i → close o' (tops w h o') (closing_after i) p ≡ closing_after i
  unfolding rest3 sheet lines_map
  close_treated i p q =
      let (k₁, c, _) = closing w h a b n room apart za zb in
      let (k₂, g, _) = close_all (sheet_plane w h n') room (tops w h o') (sheet_tops w h n') i 0 k₁ _ c in
      close_again (sheet_plane w h n') room (tops w h o') (sheet_tops w h n') k₂ _ i p (rw (zero-add i) at g) q

pub still_joined : (w h : ℕ) (s : List ℕ) → slots w h ≤ mark → (a b : ℕ) → Joinable w h (drawing w h s) a b
    → Still w h (drawing w h s) a b
unfolding drawing rest1
still_joined w h s room a b j =
    let n = names w h s in
    let (za, zb) = j.inner in
    record {
      smoothing = λ i p.
          ⊎_elim (smooth_away w h a b n room j.apart za zb i p) (smooth_treated w h a b n room j.apart za zb i p);
      closing = rw (r1_on w h a b n room j.apart za zb)
          (λ i p. ⊎_elim (close_away w h a b n room j.apart za zb i p) (close_treated w h a b n room j.apart za zb i p));
    }
