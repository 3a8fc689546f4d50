-- Orbits do not rise for ever.
--   R               == an order in which nothing is before itself
--   Turns n on f    == f is one-to-one on the darts that are on, and stays among them; all are below n
use mathlib.Core.Path.{◌≡◌}
use mathlib.Core.Bool.{Bool, true}
use Prim.Native.Nat.{ℕ, zero, suc}
use Rattle.laws.proofs.Chart.{Turns, times}
use Rattle.laws.proofs.Orbit.{returns}

module _ (R : ℕ → ℕ → Type 0) (onward : (a b c : ℕ) → R a b → R b c → R a c) where
  -- what is before its follower all along an orbit is before all that follow
  rises : (f : ℕ → ℕ) (d : ℕ) → ((i : ℕ) → R (times f i d) (times f (suc i) d)) → (i : ℕ) → R d (times f (suc i) d)
  unfolding times
  rises f d r zero = r 0
  rises f d r (suc i) = onward d (times f (suc i) d) (times f (suc (suc i)) d) (rises f d r i) (r (suc i))

  -- no dart is before its follower all along its orbit, which returns
  pub never_rises : (never : (a : ℕ) → R a a → ⊥) {n : ℕ} {on : ℕ → Bool} {f : ℕ → ℕ} → Turns n on f
      → (d : ℕ) → on d ≡ true → ((i : ℕ) → R (times f i d) (times f (suc i) d)) → ⊥
  never_rises never {f = f} t d h r = let (k, _, e) = returns t d h in never d (rw e at (rises f d r k))
