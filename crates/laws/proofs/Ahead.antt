-- What is ahead of a dart in its orbit, and the least dart there.
--   Turns n on f    == f is one-to-one on the darts that are on, and stays among them; all are below n
--   times f i d     == f applied i times to d
--   run f stop n d  == the first of d, f d, f (f d), .. that passes the test stop, looked for n steps far
--   holds f n a d   == a is among d, f d, f (f d), .., looked for n steps far
--   lowest f n d    == the least of d, f d, f (f d), .., looked for n steps far
use mathlib.Core.Path.{◌≡◌, refl, sym, ap, ◌∙◌}
use mathlib.Core.Bool.{Bool, true, false}
use mathlib.Core.Logic.{◌⊎◌, inl, inr, ⊎_elim}
use Prim.Native.Nat.{ℕ, zero, suc, min, ◌≤◌}
use native.Mathlib.Nat.{le_refl}
use native.Mathlib.Decide.{dec_le}
use native.Mathlib.Omega.{arith}
use lib.Dec.{eqb, ltb}
use borrow.Author.Tests.{eqb-true, eq-eqb, lt-ltb, le-ltb}
use Rattle.laws.specs.Run.{run}
use Rattle.laws.proofs.Test.{clash, same_test}
use Rattle.laws.proofs.Chart.{Turns, times}
use Rattle.laws.proofs.Orbit.{times_suc, returns}
use Rattle.laws.proofs.Meet.{times_none, round_about}
use Rattle.laws.proofs.Walk.{run_stays, run_stops, run_reaches}

run_ahead : (f : ℕ → ℕ) (stop : ℕ → Bool) (n d : ℕ) → (k : ℕ) × (times f k d ≡ run f stop n d)
run_ahead f stop n d =
    run_stays f stop (λ e. (k : ℕ) × (times f k d ≡ e)) (λ x (k, q). (suc k, times_suc f k d ∙ ap f q)) n d
    (0, times_none f d)

abbrev pub holds : (ℕ → ℕ) → ℕ → ℕ → ℕ → Bool
holds f n a d = eqb (run f (λ e. eqb e a) n d) a

pub holds_ahead : (f : ℕ → ℕ) (n a d : ℕ) → holds f n a d ≡ true → (k : ℕ) × (times f k d ≡ a)
holds_ahead f n a d h =
    let (k, q) = run_ahead f (λ e. eqb e a) n d in
    (k, q ∙ eqb-true (run f (λ e. eqb e a) n d) a h)

unfoldable pub lowest : (ℕ → ℕ) → ℕ → ℕ → ℕ
lowest f zero d = d
lowest f (suc n) d = min d (lowest f n (f d))

min_either : (a b : ℕ) → (min a b ≡ a) ⊎ (min a b ≡ b)
min_either a b = go (dec_le a b)
  where
    go : Dec (a ≤ b) → (min a b ≡ a) ⊎ (min a b ≡ b)
    go (yes l) = inl (omega arith)
    go (no l) = inr (omega arith)

module _ (f : ℕ → ℕ) where
  pub lowest_ahead : (n d : ℕ) → (k : ℕ) × (times f k d ≡ lowest f n d)
  unfolding lowest times
  lowest_ahead zero d = (0, refl)
  lowest_ahead (suc n) d =
      let (k, q) = lowest_ahead n (f d) in
      ⊎_elim (λ e. (0, sym e)) (λ e. (suc k, q ∙ sym e)) (min_either d (lowest f n (f d)))

  lowest_within : (n i d : ℕ) → i ≤ n → lowest f n d ≤ times f i d
  unfolding lowest times
  lowest_within zero zero d l = le_refl d
  lowest_within zero (suc i) d l = absurd (omega arith)
  lowest_within (suc n) zero d l = omega arith
  lowest_within (suc n) (suc i) d l = omega (arith, lowest_within n i (f d) (omega arith))

module _ {n : ℕ} {on : ℕ → Bool} {f : ℕ → ℕ} (t : Turns n on f) where
  -- a dart ahead is held
  pub ahead_holds : (i a d : ℕ) → on d ≡ true → times f i d ≡ a → holds f n a d ≡ true
  ahead_holds i a d h q =
      let (k, _, r) = run_reaches t (λ e. eqb e a) i d h (eq-eqb (times f i d) a q) in
      run_stops r

  -- an orbit holds a dart from wherever it is looked at
  pub holds_keeps : (a d : ℕ) → on d ≡ true → holds f n a (f d) ≡ holds f n a d
  unfolding times
  holds_keeps a d h =
      same_test (holds f n a (f d)) (holds f n a d)
      (λ e. let (k, q) = holds_ahead f n a (f d) e in ahead_holds (suc k) a d h q)
      (λ e. later (holds_ahead f n a d e))
    where
      later : (k : ℕ) × (times f k d ≡ a) → holds f n a (f d) ≡ true
      later (zero, q) = let (j, _, r) = returns t d h in ahead_holds j a (f d) (t.stays d h) (r ∙ q)
      later (suc k, q) = ahead_holds k a (f d) (t.stays d h) q

  -- none ahead is less than the least
  pub lowest_least : (k d : ℕ) → on d ≡ true → lowest f n d ≤ times f k d
  lowest_least k d h =
      let (j, b, e) = returns t d h in
      let (l, c, q) = round_about f j d e k in
      rw q (lowest_within f n l d (omega arith))

  -- a dart is the least of its orbit where a run to a lesser one finds none
  pub least_ahead : (d : ℕ) → on d ≡ true → ltb (run f (λ e. ltb e d) n d) d ≡ false → (k : ℕ) → d ≤ times f k d
  least_ahead d h e k = go (dec_le d (times f k d))
    where
      go : Dec (d ≤ times f k d) → d ≤ times f k d
      go (yes l) = l
      go (no l) =
          let (_, _, r) = run_reaches t (λ e. ltb e d) k d h (lt-ltb (times f k d) d (omega arith)) in
          clash (run_stops r) e

pub ahead_least : (f : ℕ → ℕ) (n d : ℕ) → ((k : ℕ) → d ≤ times f k d) → ltb (run f (λ e. ltb e d) n d) d ≡ false
ahead_least f n d b =
    let (k, q) = run_ahead f (λ e. ltb e d) n d in
    le-ltb (run f (λ e. ltb e d) n d) d (rw q at (b k))
