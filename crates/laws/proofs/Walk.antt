-- Runs along a map up to the first dart that passes a test.
--   Run f stop k d e   == e is the first of d, f d, f (f d), .. that passes the test stop, and k steps lead to it
--   run f stop n d     == that dart, looked for n steps far
--   Turns n on f       == f is one-to-one on the darts that are on, and stays among them; all are below n
--   a first return     == d ↦ f (run f stop n d), where stop e says that f e passes a test
use mathlib.Core.Path.{◌≡◌, refl, sym, ◌∙◌, ap}
use mathlib.Core.Bool.{Bool, true, false, ◌&&◌}
use Prim.Native.Nat.{ℕ, zero, suc, ◌<◌, ◌≤◌, zero-le, suc-le-suc, ◌+◌, ◌-◌}
use native.Mathlib.Nat.{le_of_suc-le-suc, suc-add}
use native.Mathlib.Decide.{dec_le, dec_lt}
use native.Mathlib.Omega.{arith}
use Rattle.laws.specs.Run.{run}
use Rattle.laws.proofs.Test.{clash, and_true, and_left, and_right}
use Rattle.laws.proofs.Chart.{Turns, times}
use Rattle.laws.proofs.Orbit.{times_suc, times_add, times_same, skip_round, orbit_on, times_once, returns}

pub data Run (f : ℕ → ℕ) (stop : ℕ → Bool) : ℕ → ℕ → ℕ → Type 0 where
  here : {d : ℕ} → stop d ≡ true → Run f stop 0 d d
  more : {k d e : ℕ} → stop d ≡ false → Run f stop k (f d) e → Run f stop (suc k) d e

-- what passes the test ahead is led to
found_step : (f : ℕ → ℕ) (stop : ℕ → Bool) (i d : ℕ) (b : Bool) → stop d ≡ b
    → (k : ℕ) × (e : ℕ) × (k ≤ i) × Run f stop k (f d) e → (k : ℕ) × (e : ℕ) × (k ≤ suc i) × Run f stop k d e
found_step f stop i d true s r = (0, d, zero-le, here s)
found_step f stop i d false s (k, e, l, r) = (suc k, e, suc-le-suc l, more s r)

pub run_found : (f : ℕ → ℕ) (stop : ℕ → Bool) (i d : ℕ) → stop (times f i d) ≡ true
    → (k : ℕ) × (e : ℕ) × (k ≤ i) × Run f stop k d e
unfolding times
run_found f stop zero d h = (0, d, zero-le, here h)
run_found f stop (suc i) d h = found_step f stop i d (stop d) refl (run_found f stop i (f d) h)

module _ (f : ℕ → ℕ) (stop : ℕ → Bool) where
  -- run stays where the test passes
  pub run_stop : (n d : ℕ) → stop d ≡ true → run f stop n d ≡ d
  unfolding run
  run_stop zero d h = refl
  run_stop (suc n) d h = rw (h, run)

  -- run goes on where it fails
  pub run_go : (n d : ℕ) → stop d ≡ false → run f stop (suc n) d ≡ run f stop n (f d)
  unfolding run
  run_go n d h = rw (h, run)

-- what goes from dart to dart holds at the end of a run
module _ (f : ℕ → ℕ) (stop : ℕ → Bool) (P : ℕ → Type 0) (stays : (x : ℕ) → P x → P (f x)) where
  pub run_stays : (n d : ℕ) → P d → P (run f stop n d)
  unfolding run
  run_stays zero d p = p
  run_stays (suc n) d p = go (stop d) refl (run_stays n (f d) (stays d p))
    where
      go : (b : Bool) → stop d ≡ b → P (run f stop n (f d)) → P (run f stop (suc n) d)
      go true e r = rw (run_stop f stop (suc n) d e) p
      go false e r = rw (run_go f stop n d e) r

-- a run that has stopped goes no further
module _ (f : ℕ → ℕ) (s : ℕ → Bool) where
  run_more_at : (b : Bool) (c a d : ℕ) → s d ≡ b
      → (s (run f s c (f d)) ≡ true → run f s (c + a) (f d) ≡ run f s c (f d))
      → s (run f s (suc c) d) ≡ true → run f s (suc (c + a)) d ≡ run f s (suc c) d
  run_more_at true c a d e r t = run_stop f s (suc (c + a)) d e ∙ sym (run_stop f s (suc c) d e)
  run_more_at false c a d e r t = run_go f s (c + a) d e ∙ r (rw (run_go f s c d e) at t) ∙ sym (run_go f s c d e)

  pub run_more : (c a d : ℕ) → s (run f s c d) ≡ true → run f s (c + a) d ≡ run f s c d
  unfolding run
  run_more zero a d t = run_stop f s (0 + a) d t
  run_more (suc c) a d t = rw suc-add (run_more_at (s d) c a d refl (run_more c a (f d)) t)

-- two runs in step end in step
module _ (g : ℕ → ℕ) (f f' : ℕ → ℕ) (s s' : ℕ → Bool) (good : ℕ → Type 0)
    (stops : (j : ℕ) → good j → s (g j) ≡ s' j)
    (steps : (j : ℕ) → good j → f (g j) ≡ g (f' j))
    (stays : (j : ℕ) → good j → good (f' j)) where
  along_at : (b : Bool) (c j : ℕ) → good j → s' j ≡ b
      → run f s c (g (f' j)) ≡ g (run f' s' c (f' j)) → run f s (suc c) (g j) ≡ g (run f' s' (suc c) j)
  along_at true c j h e r = run_stop f s (suc c) (g j) (stops j h ∙ e) ∙ ap g (sym (run_stop f' s' (suc c) j e))
  along_at false c j h e r =
      run_go f s c (g j) (stops j h ∙ e) ∙ ap (run f s c) (steps j h) ∙ r ∙ ap g (sym (run_go f' s' c j e))

  pub run_along : (c j : ℕ) → good j → run f s c (g j) ≡ g (run f' s' c j)
  unfolding run
  run_along zero j h = refl
  run_along (suc c) j h = along_at (s' j) c j h refl (run_along c (f' j) (stays j h))

module _ {f : ℕ → ℕ} {stop : ℕ → Bool} where
  -- run finds what a run leads to
  pub run_is : {m k d e : ℕ} → Run f stop k d e → k ≤ m → run f stop m d ≡ e
  run_is {m = m} (here {d = d} s) l = run_stop f stop m d s
  run_is {m = zero} (more s r) l = absurd (omega arith)
  run_is {m = suc m} (more {d = d} s r) l = run_go f stop m d s ∙ run_is {m = m} r (le_of_suc-le-suc l)

  -- the end is k steps ahead, and passes the test
  pub run_end : {k d e : ℕ} → Run f stop k d e → e ≡ times f k d
  unfolding times
  run_end (here s) = refl
  run_end (more s r) = run_end r

  pub run_stops : {k d e : ℕ} → Run f stop k d e → stop e ≡ true
  run_stops (here s) = s
  run_stops (more s r) = run_stops r

  -- a run and one that is j steps longer to the same end
  pub runs_meet : {k l d c e : ℕ} (j : ℕ) → l ≡ j + k → Run f stop k d e → Run f stop l c e
      → times f k d ≡ times f k (times f j c)
  runs_meet {k = k} {c = c} j w r q = sym (run_end r) ∙ run_end q ∙ times_same f c w ∙ times_add f j k c

  -- the test fails before the end
  pub run_before : {k d e : ℕ} → Run f stop k d e → (i : ℕ) → i < k → stop (times f i d) ≡ false
  unfolding times
  run_before (here s) i l = absurd (omega arith)
  run_before (more s r) zero l = s
  run_before (more s r) (suc i) l = run_before r i (le_of_suc-le-suc l)

  -- two runs from d have the same end
  pub run_same : {k l d e c : ℕ} → Run f stop k d e → Run f stop l d c → e ≡ c
  run_same (here s) (here t) = refl
  run_same (here s) (more t q) = clash s t
  run_same (more s r) (here t) = clash t s
  run_same (more s r) (more t q) = run_same r q

  -- a run that does not end at its start goes on after one step; one that does has led nowhere
  pub run_tail : {k d e : ℕ} → Run f stop k d e → stop d ≡ false → (j : ℕ) × Run f stop j (f d) e
  run_tail (here s) t = clash s t
  run_tail (more {k = k} s r) t = (k, r)

  pub run_ended : {k d e : ℕ} → Run f stop k d e → stop d ≡ true → d ≡ e
  run_ended (here s) t = refl
  run_ended (more s r) t = clash t s

-- one step before a run
pub step : {f : ℕ → ℕ} {stop : ℕ → Bool} {k d c e : ℕ} → stop d ≡ false → f d ≡ c → Run f stop k c e
    → Run f stop (suc k) d e
step {k = k} {e = e} s p r = more {k = k} {e = e} s (rw p r)

module _ {f : ℕ → ℕ} {stop : ℕ → Bool} (P : ℕ → Type 0) (stays : (x : ℕ) → P x → stop x ≡ false → P (f x)) where
  -- what holds at the start and goes from dart to dart while not stopped holds at the end
  pub run_keeps : {k d e : ℕ} → Run f stop k d e → P d → P e
  run_keeps (here s) p = p
  run_keeps (more {d = d} s r) p = run_keeps r (stays d p s)

  -- a map and a test that agree with those of a run have the same run
  pub run_agrees : (g : ℕ → ℕ) (halt : ℕ → Bool) → ((x : ℕ) → P x → halt x ≡ stop x)
      → ((x : ℕ) → P x → stop x ≡ false → g x ≡ f x) → {k d e : ℕ} → Run f stop k d e → P d → Run g halt k d e
  run_agrees g halt a b (here {d = d} s) p = here (a d p ∙ s)
  run_agrees g halt a b (more {d = d} s r) p =
      step (a d p ∙ s) (b d p s) (run_agrees g halt a b r (stays d p s))

-- the run that begins one step later, with the test one step earlier
shift_step : (f : ℕ → ℕ) (stop : ℕ → Bool) (n d : ℕ) (b : Bool) → stop (f d) ≡ b
    → f (run f (λ e. stop (f e)) n (f d)) ≡ run f stop n (f (f d))
    → f (run f (λ e. stop (f e)) (suc n) d) ≡ run f stop (suc n) (f d)
shift_step f stop n d true h p =
    ap f (run_stop f (λ e. stop (f e)) (suc n) d h) ∙ sym (run_stop f stop (suc n) (f d) h)
shift_step f stop n d false h p = ap f (run_go f (λ e. stop (f e)) n d h) ∙ p ∙ sym (run_go f stop n (f d) h)

pub run_shift : (f : ℕ → ℕ) (stop : ℕ → Bool) (n d : ℕ) → f (run f (λ e. stop (f e)) n d) ≡ run f stop n (f d)
unfolding run
run_shift f stop zero d = refl
run_shift f stop (suc n) d = shift_step f stop n d (stop (f d)) refl (run_shift f stop n (f d))

module _ {n : ℕ} {on : ℕ → Bool} {f : ℕ → ℕ} (t : Turns n on f) where
  -- a run is shorter than n: what comes after n steps was met before
  pub run_short : {stop : ℕ → Bool} {k d e : ℕ} → on d ≡ true → Run f stop k d e → k < n
  run_short {stop} {k} {d} {e} h r = go (dec_lt k n) (returns t d h)
    where
      go : Dec (k < n) → (p : ℕ) × (p < n) × (times f (suc p) d ≡ d) → k < n
      go (yes l) q = l
      go (no m) (p, l, q) =
          let met = skip_round f (suc p) k d (omega arith) q in
          clash (ap stop (sym met ∙ sym (run_end r)) ∙ run_stops r) (run_before r (k - suc p) (omega arith))

  -- what stays the same while not stopped is the same at the end
  pub run_fixes : {A : Type 0} (g : ℕ → A) {stop : ℕ → Bool}
      → ((x : ℕ) → on x ≡ true → stop x ≡ false → g (f x) ≡ g x)
      → {k d e : ℕ} → on d ≡ true → Run f stop k d e → g e ≡ g d
  run_fixes g a h (here s) = refl
  run_fixes g a h (more {d = d} s r) = run_fixes g a (t.stays d h) r ∙ a d h s

  -- the end of a run is on
  pub run_on : {stop : ℕ → Bool} {k d e : ℕ} → on d ≡ true → Run f stop k d e → on e ≡ true
  run_on h r = run_keeps (λ x. on x ≡ true) (λ x p _. t.stays x p) r h

  -- what passes the test ahead is found by run, in less than n steps
  pub run_reaches : (stop : ℕ → Bool) (i d : ℕ) → on d ≡ true → stop (times f i d) ≡ true
      → (k : ℕ) × (k < n) × Run f stop k d (run f stop n d)
  run_reaches stop i d h s =
      let (k, e, _, r) = run_found f stop i d s in
      let l : k < n = run_short h r in
      let m : k ≤ n = omega arith in
      (k, l, rw (run_is r m) r)

-- a map that keeps a test turns the darts that pass it
pub turns_within : {n : ℕ} {on : ℕ → Bool} {f : ℕ → ℕ} (s : ℕ → Bool) → Turns n on f
    → ((d : ℕ) → on d ≡ true → s (f d) ≡ s d) → Turns n (λ d. on d && s d) f
turns_within {on = on} s t a =
    let o : (d : ℕ) → (on d && s d) ≡ true → on d ≡ true = λ d. and_left (on d) (s d) in
    record {
      below = λ d h. t.below d (o d h);
      stays = λ d h. and_true (t.stays d (o d h)) (a d (o d h) ∙ and_right (on d) (s d) h);
      once = λ d e h k. t.once d e (o d h) (o e k);
    }

-- First return to the darts that pass a test.
module _ {n : ℕ} {on : ℕ → Bool} {f : ℕ → ℕ} (t : Turns n on f) (s stop : ℕ → Bool)
    (says : (e : ℕ) → on e ≡ true → stop e ≡ s (f e)) where
  -- a dart that passes has one ahead that passes: itself, once round
  comes_back : (d : ℕ) → on d ≡ true → s d ≡ true → (i : ℕ) × (stop (times f i d) ≡ true)
  comes_back d h p =
      let (k, _, e) = returns t d h in
      (k, says (times f k d) (orbit_on t k d h) ∙ ap s (sym (times_suc f k d) ∙ e) ∙ p)

  return_run : (d : ℕ) → on d ≡ true → s d ≡ true → (k : ℕ) × (k < n) × Run f stop k d (run f stop n d)
  return_run d h p =
      let (i, q) = comes_back d h p in
      run_reaches t stop i d h q

  -- the run from d joins no longer run: d would have ended it
  return_once : {k l d c e : ℕ} → on d ≡ true → on c ≡ true → s d ≡ true → k ≤ l
      → Run f stop k d e → Run f stop l c e → d ≡ c
  return_once {k} {l} {d} {c} {e} h i p m r q = go (l - k) (omega arith)
    where
      joins : (j : ℕ) → l ≡ j + k → d ≡ times f j c
      joins j w = times_once t k d (times f j c) h (orbit_on t j c i) (runs_meet j w r q)

      passes : (j : ℕ) → l ≡ suc j + k → stop (times f j c) ≡ true
      passes j w =
          says (times f j c) (orbit_on t j c i) ∙ ap s (sym (times_suc f j c) ∙ sym (joins (suc j) w)) ∙ p

      go : (j : ℕ) → l ≡ j + k → d ≡ c
      go zero w = unfold times in joins zero w
      go (suc j) w = clash (passes j w) (run_before q j (omega arith))

  -- runs to one end come from one dart that passes
  runs_once : {k l d c e : ℕ} → on d ≡ true → on c ≡ true → s d ≡ true → s c ≡ true
      → Run f stop k d e → Run f stop l c e → d ≡ c
  runs_once {k} {l} {d} {c} h i p q r w = go (dec_le k l)
    where
      go : Dec (k ≤ l) → d ≡ c
      go (yes m) = return_once h i p m r w
      go (no m) = sym (return_once i h q (omega arith) w r)

  stays_there : (d : ℕ) → on d ≡ true → s d ≡ true → (on (f (run f stop n d)) && s (f (run f stop n d))) ≡ true
  stays_there d h p =
      let (k, _, r) = return_run d h p in
      let e = run f stop n d in
      let o : on e ≡ true = run_on t h r in
      and_true (t.stays e o) (sym (says e o) ∙ run_stops r)

  returns_once : (d c : ℕ) → on d ≡ true → on c ≡ true → s d ≡ true → s c ≡ true
      → f (run f stop n d) ≡ f (run f stop n c) → d ≡ c
  returns_once d c h i p q e =
      let (k, _, r) = return_run d h p in
      let (l, _, w) = return_run c i q in
      let same = t.once (run f stop n d) (run f stop n c) (run_on t h r) (run_on t i w) e in
      runs_once {l = l} h i p q r (rw same w)

  pub first_return : Turns n (λ d. on d && s d) (λ d. f (run f stop n d))
  first_return =
      let o : (d : ℕ) → (on d && s d) ≡ true → on d ≡ true = λ d. and_left (on d) (s d) in
      let p : (d : ℕ) → (on d && s d) ≡ true → s d ≡ true = λ d. and_right (on d) (s d) in
      record {
        below = λ d h. t.below d (o d h);
        stays = λ d h. stays_there d (o d h) (p d h);
        once = λ d c h i. returns_once d c (o d h) (o c i) (p d h) (p c i);
      }
