-- Step 3 of the removal rule: points with two darts of two different edges taken out, one after another.
--   Smooth .. k l p == the tables l have the links over the points k, and the points before p are treated
use mathlib.Core.Path.{◌≡◌, sym, ◌∙◌, ap}
use mathlib.Core.Bool.{Bool, true, false, not, ◌&&◌, and-false}
use mathlib.Core.Logic.{◌≢◌}
use Prim.Native.Nat.{ℕ, zero, suc, ◌+◌, ◌<◌, ◌≤◌}
use native.Mathlib.Nat.{add-zero, add-suc, suc-add}
use native.Mathlib.Decide.{ℕ_discrete}
use native.Mathlib.Omega.{arith}
use lib.Dec.{eqb}
use lib.ListN.{length-set}
use borrow.Author.Tests.{eq-eqb, ne_eqb}
use Rattle.laws.proofs.Chart.{Map, Covers, level}
use Rattle.laws.proofs.Over.{next, without, without_off, over_other}
use Rattle.laws.proofs.Meet.{Two}
use Rattle.laws.proofs.Link.{other_on}
use Rattle.laws.proofs.Splice.{splice_covers, splice_over}
use Rattle.laws.proofs.Loop.{Above, Looped, above_without, above_passes, loop_two, looped_more, looped_two, looped_without}
use Rattle.point_darts.specs.Dart.{mark, slots, dart}
use Rattle.point_darts.specs.Point.{degree}
use Rattle.paper.specs.Level.{mask, big}
use Rattle.paper.specs.Joining.{Links, at, on, low, high, spliced, smooth, smooths}
use Rattle.paper_laws.proofs.Held.{Plane, Held, at_set, at_set_more, plane_below, on_held, two_level, two_level_kept, small_two}

-- what a point is treated by
module _ (l : Links) (p : ℕ) where
  abbrev lines : ℕ
  lines = mask (on l.next) p

  abbrev u : ℕ
  u = dart p (low lines)

  abbrev v : ℕ
  v = dart p (high lines)

  smooth_when : (t : Bool) → (eqb (degree lines) 2 && not (eqb (at l.other u) v)) ≡ t
      → smooth l p ≡ (elim t [ true ↦ spliced l u v (at l.other u) (at l.other v) | false ↦ l ])
  unfolding smooth
  smooth_when t e = rw (e, smooth)

  smooth_out : degree lines ≡ 2 → at l.other u ≢ v → smooth l p ≡ spliced l u v (at l.other u) (at l.other v)
  smooth_out e n = smooth_when true (rw (eq-eqb (degree lines) 2 e, ne_eqb (at l.other u) v n))

  smooth_loop : at l.other u ≡ v → smooth l p ≡ l
  smooth_loop e = smooth_when false (rw (eq-eqb (at l.other u) v e) (and-false (eqb (degree lines) 2)))

  smooth_skip : degree lines ≢ 2 → smooth l p ≡ l
  smooth_skip n = smooth_when false (rw (ne_eqb (degree lines) 2 n))

pub record Smooth (w h : ℕ) (x : Map) (k : ℕ → Bool) (l : Links) (p : ℕ) : Type 0 where
  pub held : Held w h x k l
  pub high : Above (big x.on) k
  pub covers : Covers x k
  pub looped : Looped x (big x.on) k p

module _ {w h : ℕ} {x : Map} (s : Plane w h x) (room : slots w h ≤ mark) where
  -- the four entries set are those of the links without the point
  spliced_held : (k : ℕ → Bool) (l : Links) (p u v : ℕ) → Held w h x k l → Covers x k → Above (big x.on) k
      → k p ≡ true → Two x p u v → at l.other u ≢ v
      → Held w h x (without k p) (spliced l u v (at l.other u) (at l.other v))
  unfolding spliced
  spliced_held k l p u v g c a kp t n =
      let ps = above_passes s.chart s.few a in
      let o = splice_over s.chart c ps g.over kp t n in
      let at-u = ap k t.one_at ∙ kp in
      let at-v = ap k t.two_at ∙ kp in
      let bu = plane_below s u t.one in
      let bv = plane_below s v t.two in
      let bx : at l.other u < slots w h =
      rw (over_other g.over u t.one at-u) (plane_below s _ (other_on s.chart c u t.one)) in
      let by : at l.other v < slots w h =
      rw (over_other g.over v t.two at-v) (plane_below s _ (other_on s.chart c v t.two)) in
      record {
        over = record {
          nexts = λ d.
              at_set_more _ v mark (simp length-set (omega (arith, g.nexts)))
              (at_set_more _ u mark (simp length-set (omega (arith, g.nexts)))
              (at_set_more _ (at l.other v) (at l.next u) (simp length-set (omega (arith, g.nexts)))
              (at_set l.next (at l.other u) (at l.next v) (omega (arith, g.nexts))))) d
              ∙ o.nexts d;
          others = λ d.
              at_set_more _ v mark (simp length-set (omega (arith, g.others)))
              (at_set_more _ u mark (simp length-set (omega (arith, g.others)))
              (at_set_more _ (at l.other v) (at l.other u) (simp length-set (omega (arith, g.others)))
              (at_set l.other (at l.other u) (at l.other v) (omega (arith, g.others))))) d
              ∙ o.others d;
        };
        nexts = simp length-set g.nexts;
        others = simp length-set g.others;
      }

  -- What a point is treated by, where the tables hold the links over the points k.
  module _ (k : ℕ → Bool) (l : Links) (p : ℕ) (held : Held w h x k l) (covers : Covers x k) where
    same : lines l p ≡ mask (level x k).on p
    same = ap (λ o. mask o p) (on_held s k room covers held)

    pair : degree (lines l p) ≡ 2 → Two x p (u l p) (v l p)
    pair e = rw same (two_level s k p (rw same at e))

    kept : degree (lines l p) ≡ 2 → (k p ≡ true) × (big x.on p ≡ false)
    kept e = two_level_kept s k p (rw same at e)

    -- a loop's point stays
    pub smooth_idle : ((d : ℕ) → x.on d ≡ true → x.pt d ≡ p → k p ≡ true → big x.on p ≡ false → next x k d ≡ d)
        → smooth l p ≡ l
    smooth_idle f = go (ℕ_discrete (degree (lines l p)) 2)
      where
        go : Dec (degree (lines l p) ≡ 2) → smooth l p ≡ l
        go (yes e) =
            let (kp, bp) = kept e in
            let t = pair e in
            smooth_loop l p
            (over_other held.over (u l p) t.one (ap k t.one_at ∙ kp)
            ∙ loop_two s.chart covers t (f (u l p) t.one t.one_at kp bp))
        go (no e) = smooth_skip l p e

  pub smooth_step : (k : ℕ → Bool) (l : Links) (p : ℕ) → Smooth w h x k l p
      → (k' : ℕ → Bool) × Smooth w h x k' (smooth l p) (suc p) × ((q : ℕ) → k q ≡ false → k' q ≡ false)
  smooth_step k l p f = go (ℕ_discrete (degree (lines l p)) 2) (ℕ_discrete (at l.other (u l p)) (v l p))
    where
      go : Dec (degree (lines l p) ≡ 2) → Dec (at l.other (u l p) ≡ v l p)
          → (k' : ℕ → Bool) × Smooth w h x k' (smooth l p) (suc p) × ((q : ℕ) → k q ≡ false → k' q ≡ false)
      go (yes e) (no n) =
          let (kp, bp) = kept k l p f.held f.covers e in
          let t = pair k l p f.held f.covers e in
          let ps = above_passes s.chart s.few f.high in (
            without k p,
            rw (smooth_out l p e n)
                record {
                  held = spliced_held k l p (u l p) (v l p) f.held f.covers f.high kp t n;
                  high = above_without f.high bp;
                  covers = splice_covers s.chart f.covers ps f.held.over kp t n;
                  looped = looped_without s.chart f.covers f.looped;
                },
            without_off k p,
          )
      go (yes e) (yes q) =
          let (kp, bp) = kept k l p f.held f.covers e in
          let t = pair k l p f.held f.covers e in
          let ps = above_passes s.chart s.few f.high in (
            k,
            rw (smooth_loop l p q)
                record {
                  held = f.held;
                  high = f.high;
                  covers = f.covers;
                  looped = looped_two s.chart f.covers ps f.looped kp t
                      (sym (over_other f.held.over (u l p) t.one (ap k t.one_at ∙ kp)) ∙ q);
                },
            (λ q e. e),
          )
      go (no e) q = (
        k,
        rw (smooth_skip l p e)
            record {
              held = f.held;
              high = f.high;
              covers = f.covers;
              looped = looped_more f.looped
                  (λ d o r kp bp. absurd (e (rw (same k l p f.held f.covers) (small_two s k p d o r kp bp))));
            },
        (λ q e. e),
      )

  -- some points are kept no more
  pub smooth_all : (n p : ℕ) (k : ℕ → Bool) (l : Links) → Smooth w h x k l p
      → (k' : ℕ → Bool) × Smooth w h x k' (smooths n p l) (p + n) × ((q : ℕ) → k q ≡ false → k' q ≡ false)
  unfolding smooths
  smooth_all zero p k l f = (k, rw (add-zero p) f, λ q e. e)
  smooth_all (suc n) p k l f =
      let (k₁, g, fewer₁) = smooth_step k l p f in
      let (k₂, r, fewer₂) = smooth_all n (suc p) k₁ (smooth l p) g in
      (k₂, rw (add-suc p n, ← (suc-add p n)) r, λ q e. fewer₂ q (fewer₁ q e))

  -- a point that was treated stays
  pub smooth_again : (k : ℕ → Bool) (l : Links) (i p : ℕ) → Smooth w h x k l i → p < i → smooth l p ≡ l
  smooth_again k l i p f b =
      smooth_idle k l p f.held f.covers
      (λ d o q kp bp. f.looped.loop d o (ap k q ∙ kp) (ap (big x.on) q ∙ bp) (rw q b))
