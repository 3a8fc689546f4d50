-- Step 4 of the removal rule: each closed curve's darts moved to its anchor, point by point.
--   Close .. k l p  == the tables l have the links over the points k, a loopy set, and the points before p are treated
use mathlib.Core.Path.{◌≡◌, sym, ◌∙◌, ap, fun_ext}
use mathlib.Core.Bool.{Bool, true, false, ◌&&◌}
use mathlib.Core.Logic.{◌⊎◌, inl, inr, ◌≢◌, ⊎_elim}
use mathlib.Core.List.{List}
use Prim.Native.Nat.{ℕ, zero, suc, ◌+◌, ◌<◌, ◌≤◌}
use native.Mathlib.Nat.{add-zero, add-suc, suc-add}
use native.Mathlib.Decide.{ℕ_discrete}
use native.Mathlib.Omega.{arith}
use lib.Dec.{eqb}
use lib.ListN.{get_or, length-set}
use borrow.Author.Tests.{eq-eqb, ne_eqb}
use Rattle.laws.proofs.Chart.{Map, level}
use Rattle.laws.proofs.Meet.{Two}
use Rattle.laws.proofs.Loop.{Loops}
use Rattle.laws.proofs.Curve.{Tops, tops_top}
use Rattle.laws.proofs.Exchange.{instead, instead_own, instead_was, two_ends}
use Rattle.laws.proofs.Anchor.{Settled, settled_more, close_top, close_loops, close_over, close_settled}
use Rattle.point_darts.specs.Dart.{mark, slots, dart}
use Rattle.point_darts.specs.Point.{degree}
use Rattle.paper.specs.Level.{mask, big}
use Rattle.paper.specs.Joining.{Links, at, on, low, high, moved, close, closes}
use Rattle.paper_laws.proofs.Pair.{two_darts}
use Rattle.paper_laws.proofs.Held.{Plane, Held, held_same, at_set, at_set_more, plane_below, on_held, mask_kept}
use Rattle.paper_laws.proofs.Held.{small_degree, small_two, two_level, two_level_kept}

-- what a point is treated by
module _ (o : ℕ → Bool) (t : List ℕ) (l : Links) (p : ℕ) where
  abbrev lines : ℕ
  lines = mask (on l.next) p

  abbrev u : ℕ
  u = dart p (low lines)

  abbrev v : ℕ
  v = dart p (high lines)

  abbrev e : ℕ
  e = dart (get_or t p 0) (low (mask o (get_or t p 0)))

  abbrev f : ℕ
  f = dart (get_or t p 0) (high (mask o (get_or t p 0)))

  close_when : (b : Bool) → (eqb (degree lines) 2 && eqb (at l.other u) v && eqb (degree (mask o p)) 2) ≡ b
      → close o t l p ≡ (elim b [ true ↦ moved l u v e f | false ↦ l ])
  unfolding close
  close_when b q = rw (q, close)

  close_loop : degree lines ≡ 2 → at l.other u ≡ v → degree (mask o p) ≡ 2 → close o t l p ≡ moved l u v e f
  close_loop q r s =
      close_when true (rw (eq-eqb (degree lines) 2 q, eq-eqb (at l.other u) v r, eq-eqb (degree (mask o p)) 2 s))

  close_skip : degree lines ≢ 2 → close o t l p ≡ l
  close_skip n = close_when false (rw (ne_eqb (degree lines) 2 n))

pub record Close (w h : ℕ) (x : Map) (t : List ℕ) (k : ℕ → Bool) (l : Links) (p : ℕ) : Type 0 where
  pub held : Held w h x k l
  pub loops : Loops x (big x.on) k
  pub settled : Settled x (big x.on) (λ q. get_or t q 0) k p

module _ {w h : ℕ} {x : Map} (s : Plane w h x) (room : slots w h ≤ mark) (t : List ℕ) (y : Tops x (λ q. get_or t q 0)) where
  moved_held : (k : ℕ → Bool) (l : Links) (p u v e f : ℕ) → Held w h x k l → Loops x (big x.on) k
      → k p ≡ true → big x.on p ≡ false → Two x p u v → Two x (get_or t p 0) e f
      → Held w h x (instead k p (get_or t p 0)) (moved l u v e f)
  unfolding moved
  moved_held k l p u v e f g c kp bp a b =
      let o = close_over s.chart s.few y c kp bp a b g.over in
      let bu = plane_below s u a.one in
      let bv = plane_below s v a.two in
      let be = plane_below s e b.one in
      let bf = plane_below s f b.two in
      record {
        over = record {
          nexts = λ d.
              at_set_more _ f f (simp length-set (omega (arith, g.nexts)))
              (at_set_more _ e e (simp length-set (omega (arith, g.nexts)))
              (at_set_more _ v mark (simp length-set (omega (arith, g.nexts)))
              (at_set l.next u mark (omega (arith, g.nexts))))) d
              ∙ o.nexts d;
          others = λ d.
              at_set_more _ f e (simp length-set (omega (arith, g.others)))
              (at_set_more _ e f (simp length-set (omega (arith, g.others)))
              (at_set_more _ v mark (simp length-set (omega (arith, g.others)))
              (at_set l.other u mark (omega (arith, g.others))))) d
              ∙ o.others d;
        };
        nexts = simp length-set g.nexts;
        others = simp length-set g.others;
      }

  -- What a point is treated by, where the tables hold the links over the points k, a loopy set.
  module _ (k : ℕ → Bool) (l : Links) (p : ℕ) (held : Held w h x k l) (loops : Loops x (big x.on) k) where
    same : lines x.on t l p ≡ mask (level x k).on p
    same = ap (λ o. mask o p) (on_held s k room loops.covers held)

    module _ (q : degree (lines x.on t l p) ≡ 2) where
      degree_level : degree (mask (level x k).on p) ≡ 2
      degree_level = rw same at q

      kept : (k p ≡ true) × (big x.on p ≡ false)
      kept = two_level_kept s k p degree_level

      pair : Two x p (u x.on t l p) (v x.on t l p)
      pair = rw same (two_level s k p degree_level)

      ends : at l.other (u x.on t l p) ≡ v x.on t l p
      ends = two_ends s.chart loops kept.0 kept.1 pair s.few held.over

      top_pair : Two x (get_or t p 0) (e x.on t l p) (f x.on t l p)
      top_pair =
          let (d, o, m, b) = close_top s.chart s.few y loops kept.0 kept.1 pair in
          two_darts x s.leaves (get_or t p 0) (small_degree s (get_or t p 0) d o m b)

      close_moves : Held w h x (instead k p (get_or t p 0)) (close x.on t l p)
      close_moves =
          rw (close_loop x.on t l p q ends (rw (mask_kept s k p kept.0) at degree_level))
          (moved_held k l p _ _ _ _ held loops kept.0 kept.1 pair top_pair)

      close_own : get_or t p 0 ≡ p → close x.on t l p ≡ l
      close_own z =
          let here : instead k p (get_or t p 0) ≡ k = ap (instead k p) z ∙ fun_ext (instead_own k p kept.0) in
          held_same (rw here at close_moves) held

    -- a point that stands for itself stays
    pub close_idle : ((d : ℕ) → x.on d ≡ true → x.pt d ≡ p → k p ≡ true → big x.on p ≡ false → get_or t p 0 ≡ p)
        → close x.on t l p ≡ l
    close_idle f = go (ℕ_discrete (degree (lines x.on t l p)) 2)
      where
        go : Dec (degree (lines x.on t l p) ≡ 2) → close x.on t l p ≡ l
        go (yes q) = close_own q (f (u x.on t l p) (pair q).one (pair q).one_at (kept q).0 (kept q).1)
        go (no n) = close_skip x.on t l p n

  pub close_step : (k : ℕ → Bool) (l : Links) (p : ℕ) → Close w h x t k l p
      → (k' : ℕ → Bool) × Close w h x t k' (close x.on t l p) (suc p)
      × ((q : ℕ) → k' q ≡ true → (k q ≡ true) ⊎ (get_or t q 0 ≡ q))
  close_step k l p c = go (ℕ_discrete (degree (lines x.on t l p)) 2)
    where
      go : Dec (degree (lines x.on t l p) ≡ 2)
          → (k' : ℕ → Bool) × Close w h x t k' (close x.on t l p) (suc p)
          × ((q : ℕ) → k' q ≡ true → (k q ≡ true) ⊎ (get_or t q 0 ≡ q))
      go (yes q) =
          let (kp, bp) = kept k l p c.held c.loops q in
          let a = pair k l p c.held c.loops q in (
            instead k p (get_or t p 0),
            record {
              held = close_moves k l p c.held c.loops q;
              loops = close_loops s.chart s.few y c.loops kp bp a (top_pair k l p c.held c.loops q);
              settled = close_settled s.chart s.few y c.loops kp bp a c.settled;
            },
            new (rw a.one_at at (tops_top s.chart y (u x.on t l p) a.one)),
          )
        where
          new : get_or t (get_or t p 0) 0 ≡ get_or t p 0 → (q : ℕ) → instead k p (get_or t p 0) q ≡ true
              → (k q ≡ true) ⊎ (get_or t q 0 ≡ q)
          new z q e = or (ℕ_discrete q (get_or t p 0))
            where
              or : Dec (q ≡ get_or t p 0) → (k q ≡ true) ⊎ (get_or t q 0 ≡ q)
              or (yes i) = inr (ap (λ r. get_or t r 0) i ∙ z ∙ sym i)
              or (no i) = inl (instead_was k p (get_or t p 0) q i e)
      go (no n) = (
        k,
        rw (close_skip x.on t l p n)
            record {
              held = c.held;
              loops = c.loops;
              settled = settled_more c.settled
                  (λ d o r kp bp. absurd (n (rw (same k l p c.held c.loops) (small_two s k p d o r kp bp))));
            },
        (λ q e. inl e),
      )

  -- a point that is kept now was kept before, or stands for itself
  pub close_all : (n p : ℕ) (k : ℕ → Bool) (l : Links) → Close w h x t k l p
      → (k' : ℕ → Bool) × Close w h x t k' (closes x.on t n p l) (p + n)
      × ((q : ℕ) → k' q ≡ true → (k q ≡ true) ⊎ (get_or t q 0 ≡ q))
  unfolding closes
  close_all zero p k l c = (k, rw (add-zero p) c, λ q e. inl e)
  close_all (suc n) p k l c =
      let (k₁, g, new₁) = close_step k l p c in
      let (k₂, r, new₂) = close_all n (suc p) k₁ (close x.on t l p) g in
      (k₂, rw (add-suc p n, ← (suc-add p n)) r, λ q e. ⊎_elim (new₁ q) inr (new₂ q e))

  -- a point that was treated stays
  pub close_again : (k : ℕ → Bool) (l : Links) (i p : ℕ) → Close w h x t k l i → p < i → close x.on t l p ≡ l
  close_again k l i p c b =
      close_idle k l p c.held c.loops
      (λ d o q kp bp. sym (ap (λ r. get_or t r 0) q) ∙ c.settled.settled d o (ap k q ∙ kp) (ap (big x.on) q ∙ bp) (rw q b) ∙ q)
