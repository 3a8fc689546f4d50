-- Points treated along a list of darts, as if all were treated one after another.
--   Visited ..      == the list leads to every point that is to be treated
--   Going .. d k    == dart d is next in the list, and at the links k the points before its own are treated, its own perhaps too
use mathlib.Core.Path.{◌≡◌, refl, sym, ◌∙◌, ap}
use mathlib.Core.Bool.{true, false}
use mathlib.Core.List.{List}
use mathlib.Core.Logic.{inl, inr}
use Prim.Native.Nat.{ℕ, zero, suc, ◌+◌, ◌-◌, ◌*◌, ◌≤◌, ◌<◌}
use native.Mathlib.Nat.{add-zero, zero-add, add-suc, suc-add}
use native.Mathlib.Decide.{dec_lt}
use native.Mathlib.Omega.{arith}
use lib.ListN.{length, get_or}
use Rattle.point_darts.specs.Dart.{points, slots, point}
use Rattle.paper.specs.Joining.{Links}
use Rattle.join_darts.specs.Listed.{First}
use Rattle.join_darts.specs.Visited.{Visited}

-- the darts that leave a point
point_span : (d : ℕ) → (4 * point d ≤ d) × (d < 4 * point d + 4)
unfolding point
point_span d = (omega arith, omega arith)

-- a recursion that treats the first point first treats the last point last
module _ (steps : ℕ → ℕ → Links → Links) (step : Links → ℕ → Links)
    (none : (p : ℕ) (l : Links) → steps zero p l ≡ l)
    (more : (n p : ℕ) (l : Links) → steps (suc n) p l ≡ steps n (suc p) (step l p)) where
  steps_last : (i p : ℕ) (l : Links) → steps (suc i) p l ≡ step (steps i p l) (p + i)
  steps_last zero p l = more zero p l ∙ none (suc p) (step l p) ∙ rw (none p l, add-zero p)
  steps_last (suc i) p l =
      more (suc i) p l ∙ steps_last i (suc p) (step l p) ∙ rw (more i p l, add-suc p i, suc-add p i)

  module _ (w h : ℕ) (l : Links) (first : ℕ) (t : List ℕ) (g : Visited steps step l (slots w h) first t) where
    grown : (i : ℕ) → steps (suc i) 0 l ≡ step (steps i 0 l) i
    grown i = steps_last i 0 l ∙ ap (step (steps i 0 l)) (zero-add i)

    -- points that no dart of the list leaves
    skipped : (i j : ℕ) → ((d : ℕ) → i ≤ point d → point d < i + j → g.test d ≡ false)
        → steps (i + j) 0 l ≡ steps i 0 l
    skipped i zero f = ap (λ n. steps n 0 l) (add-zero i)
    skipped i (suc j) f =
        ap (λ n. steps n 0 l) (add-suc i j) ∙ grown (i + j)
        ∙ g.still (i + j) (i + j) (inl (λ d e. f d (omega arith) (omega arith)))
        ∙ skipped i j (λ d a b. f d a (omega arith))

    pub record Going (d : ℕ) (k : Links) : Type 0 where
      pub listed : d < slots w h → g.test d ≡ true
      pub next : d < slots w h → step k (point d) ≡ steps (suc (point d)) 0 l
      pub end : slots w h ≤ d → k ≡ steps (points w h) 0 l
      pub nexts : length k.next ≡ length l.next
      pub others : length k.other ≡ length l.other

    -- From the slot e on the list leads to d; the points before i are treated, and the darts of the others are from e on.
    module _ (e d i : ℕ) (k : Links) (r : First g.test (slots w h) e d) (b : e ≤ 4 * i) (j : i ≤ points w h)
        (treated : k ≡ steps i 0 l) where
      between : (n : ℕ) → n ≤ points w h → 4 * n ≤ d → i ≤ n → k ≡ steps n 0 l
      unfolding slots
      between n c q s =
          let z : i + (n - i) ≡ n = omega arith in
          treated ∙ sym (skipped i (n - i) (λ x u v. r.gap x (omega (arith, point_span x)) (omega (arith, point_span x))))
          ∙ ap (λ n. steps n 0 l) z

      here : d < slots w h → i ≤ suc (point d) → step k (point d) ≡ steps (suc (point d)) 0 l
      unfolding slots
      here c s = go (dec_lt (point d) i)
        where
          go : Dec (point d < i) → step k (point d) ≡ steps (suc (point d)) 0 l
          go (yes q) =
              let z : i ≡ suc (point d) = omega arith in
              ap (λ k. step k (point d)) treated ∙ g.still i (point d) (inr q) ∙ ap (λ n. steps n 0 l) z
          go (no q) =
              ap (λ k. step k (point d)) (between (point d) (omega (arith, point_span d)) (omega (arith, point_span d)) (omega arith))
              ∙ sym (grown (point d))

      arrived : i ≤ suc (point d) → length k.next ≡ length l.next → length k.other ≡ length l.other → Going d k
      unfolding slots
      arrived s p q =
          record {
            listed = r.here;
            next = λ c. here c s;
            end = λ c. between (points w h) (omega arith) c j;
            nexts = p;
            others = q;
          }

    pub going_start : Going first l
    going_start = arrived 0 first 0 l g.list.start (omega arith) (omega arith) (sym (none 0 l)) (omega arith) refl refl

    -- a dart more
    pub going_on : (d : ℕ) (k j : Links) → Going d k → d < slots w h → j ≡ step k (point d)
        → length j.next ≡ length k.next
        → length j.other ≡ length k.other → Going (get_or t d 0) j
    unfolding slots
    going_on d k j c b e p q =
        let f = g.list.steps d b (c.listed b) in
        let s = point_span d in
        let u = point_span (get_or t d 0) in
        arrived (d + 1) (get_or t d 0) (suc (point d)) j f (omega arith) (omega arith) (e ∙ c.next b) (omega (arith, f.after))
        (p ∙ c.nexts) (q ∙ c.others)

    -- the list leads on
    pub going_less : (d : ℕ) (k : Links) → Going d k → d < slots w h → d < get_or t d 0
    going_less d k c b = let f = g.list.steps d b (c.listed b) in omega (arith, f.after)
