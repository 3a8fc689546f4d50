-- Counts along a run.
--   count_to f stop t n d == how many of d, f d, f (f d), .. before the first that passes stop pass the test t, looked for n steps far
--   Steps f stop t k c d e == e is the first that passes stop, k steps lead to it, and c of the darts before it pass the test t
--   Passes m k      == at a point that is not kept, next of the way back is the way back of next
use mathlib.Core.Path.{◌≡◌, refl, sym, ◌∙◌, ap}
use mathlib.Core.Bool.{Bool, true, false}
use Prim.Native.Nat.{ℕ, zero, suc, ◌+◌, ◌<◌, ◌≤◌, zero-le}
use native.Mathlib.Nat.{le_of_suc-le-suc}
use native.Mathlib.Omega.{arith}
use Rattle.laws.specs.Table.{number}
use Rattle.laws.specs.Run.{count_to}
use Rattle.laws.proofs.Count.{number_below}
use Rattle.laws.proofs.Chart.{Map, Chart, Covers, Passes, last}
use Rattle.laws.proofs.Walk.{Run, here, more, run_short}
use Rattle.laws.proofs.Level.{leads, unkept, last_run, last_on}

pub data Steps (f : ℕ → ℕ) (stop t : ℕ → Bool) : ℕ → ℕ → ℕ → ℕ → Type 0 where
  end : {d : ℕ} → stop d ≡ true → Steps f stop t 0 0 d d
  step : {k c d e : ℕ} → stop d ≡ false → Steps f stop t k c (f d) e → Steps f stop t (suc k) (number (t d) + c) d e

module _ (f : ℕ → ℕ) (stop t : ℕ → Bool) where
  -- nothing is counted from where the test passes
  pub count_stop : (n d : ℕ) → stop d ≡ true → count_to f stop t n d ≡ 0
  unfolding count_to
  count_stop zero d h = refl
  count_stop (suc n) d h = rw (h, count_to)

  pub count_go : (n d : ℕ) → stop d ≡ false → count_to f stop t (suc n) d ≡ number (t d) + count_to f stop t n (f d)
  unfolding count_to
  count_go n d h = rw (h, count_to)

  -- no more is counted than there are steps
  pub count_most : (n d : ℕ) → count_to f stop t n d ≤ n
  unfolding count_to
  count_most zero d = zero-le
  count_most (suc n) d = go (stop d) refl (count_most n (f d))
    where
      go : (b : Bool) → stop d ≡ b → count_to f stop t n (f d) ≤ n → count_to f stop t (suc n) d ≤ suc n
      go true e l = rw (count_stop (suc n) d e) zero-le
      go false e l = rw (count_go n d e) (omega (arith, number_below (t d)))

-- one step more at the front
before : {f : ℕ → ℕ} {stop t : ℕ → Bool} {k c a d x e : ℕ} → stop d ≡ false → f d ≡ x → a ≡ number (t d) + c
    → Steps f stop t k c x e → Steps f stop t (suc k) a d e
before {k = k} {c = c} {e = e} s p q r = rw q (step {k = k} {c = c} {e = e} s (rw p r))

module _ {f : ℕ → ℕ} {stop : ℕ → Bool} where
  pub run_steps : (t : ℕ → Bool) {k d e : ℕ} → Run f stop k d e → (c : ℕ) × Steps f stop t k c d e
  run_steps t (here s) = (0, end s)
  run_steps t (more {d = d} s r) = let (c, q) = run_steps t r in (number (t d) + c, step s q)

  pub steps_run : {t : ℕ → Bool} {k c d e : ℕ} → Steps f stop t k c d e → Run f stop k d e
  steps_run (end s) = here s
  steps_run (step s r) = more s (steps_run r)

  -- count_to counts the steps
  pub count_is : {t : ℕ → Bool} {m k c d e : ℕ} → Steps f stop t k c d e → k ≤ m → count_to f stop t m d ≡ c
  count_is {t} {m = m} (end {d = d} s) l = count_stop f stop t m d s
  count_is {m = zero} (step s r) l = absurd (omega arith)
  count_is {t} {m = suc m} (step {d = d} s r) l =
      count_go f stop t m d s ∙ ap (λ c. number (t d) + c) (count_is {m = m} r (le_of_suc-le-suc l))

  -- a map and tests that agree with those of a run, where P holds, have the same steps
  module _ (P : ℕ → Type 0) (stays : (x : ℕ) → P x → stop x ≡ false → P (f x)) where
    pub steps_agree : (t : ℕ → Bool) (g : ℕ → ℕ) (halt u : ℕ → Bool) → ((x : ℕ) → P x → halt x ≡ stop x)
        → ((x : ℕ) → P x → stop x ≡ false → g x ≡ f x) → ((x : ℕ) → P x → stop x ≡ false → u x ≡ t x)
        → {k c d e : ℕ} → Steps f stop t k c d e → P d → Steps g halt u k c d e
    steps_agree t g halt u a b v (end {d = d} s) p = end (a d p ∙ s)
    steps_agree t g halt u a b v (step {c = c} {d = d} s r) p =
        before (a d p ∙ s) (b d p s) (ap (λ z. number z + c) (sym (v d p s))) (steps_agree t g halt u a b v r (stays d p s))

-- Where points that are not kept are passed straight, and a test t of a step is a test u of the same step on the way back, the
-- way back of a run counts the same.
module _ {m : Map} {k : ℕ → Bool} (t u : ℕ → Bool) (c : Chart m) (p : Passes m k)
    (turns : (d : ℕ) → m.on d ≡ true → leads m k d ≡ false → u (m.rev (m.nx d)) ≡ t d) where
  open m use {n, on, rev, nx, pt, side}

  -- one step back
  step_back : {i a d b : ℕ} → on d ≡ true → leads m k d ≡ false → Steps nx (leads m k) u i a (rev d) b
      → Steps nx (leads m k) u (suc i) (number (t d) + a) (rev (nx d)) b
  step_back {a = a} {d = d} h s r =
      let q = unkept c k d h s in
      before (ap (λ x. k (pt x)) (c.rev_rev (nx d) (c.turns.stays d h)) ∙ q) (p.back d h q)
      (ap (λ z. number z + a) (sym (turns d h s))) r

  steps_back : {j x i a d e b : ℕ} → on d ≡ true → Steps nx (leads m k) t j x d e
      → Steps nx (leads m k) u i a (rev d) b → (l : ℕ) × Steps nx (leads m k) u l (x + a) (rev e) b
  steps_back {i = i} {a = a} h (end s) q = let e : a ≡ 0 + a = omega arith in (i, rw e at q)
  steps_back {a = a} h (step {c = x} {d = d} s r) q =
      let (l, z) = steps_back (c.turns.stays d h) r (step_back h s q) in
      let e : x + (number (t d) + a) ≡ number (t d) + x + a = omega arith in
      (l, rw e at z)

  pub count_back : Covers m k → (d : ℕ) → on d ≡ true → k (pt d) ≡ true
      → count_to nx (leads m k) u n (rev (last m k d)) ≡ count_to nx (leads m k) t n d
  count_back v d h s =
      let (j, b, r) = last_run c v d h in
      let (x, q) = run_steps t r in
      let start : Steps nx (leads m k) u 0 0 (rev d) (rev d) = end (ap (λ x. k (pt x)) (c.rev_rev d h) ∙ s) in
      let (l, z) = steps_back h q start in
      let short : l < n = run_short c.turns (c.rev_on (last m k d) (last_on c v d h)) (steps_run z) in
      let e : x + 0 ≡ x = omega arith in
      count_is z (omega arith) ∙ e ∙ sym (count_is q (omega arith))
