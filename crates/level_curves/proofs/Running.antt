-- The run of a dart to the next kept point.
--   last_of n x k d  == the last dart of the run from d along x, looked for n steps far
--   Running n x k s i d a == after i of n steps, the run from s is that from d, and a is next of d
use mathlib.Core.Path.{◌≡◌, refl, sym, ap, ◌∙◌}
use mathlib.Core.Bool.{true, false}
use mathlib.Core.List.{List}
use mathlib.Core.Logic.{◌≢◌}
use Prim.Native.Nat.{ℕ, suc, ◌+◌, ◌-◌, ◌≤◌, ◌<◌}
use native.Mathlib.Omega.{arith}
use borrow.Author.Tests.{eq-eqb, ne_eqb}
use Rattle.laws.specs.Run.{run}
use Rattle.laws.proofs.Walk.{run_stop, run_go}
use Rattle.point_darts.specs.Dart.{point}
use Rattle.paper.specs.Joining.{at}
use Rattle.level_curves.specs.Link.{ahead, kept_at, last_of}

pub record Running (n : ℕ) (x k : List ℕ) (s i d a : ℕ) : Type 0 where
  pub same : last_of n x k s ≡ last_of (n - i) x k d
  pub after : a ≡ at x d

module _ (n : ℕ) (x k : List ℕ) (s : ℕ) where
  pub running_none : (a : ℕ) → a ≡ at x s → Running n x k s 0 s a
  running_none a e =
      let z : n ≡ n - 0 = omega arith in
      record { same = ap (λ j. last_of j x k s) z; after = e }

  module _ (i d a : ℕ) (r : Running n x k s i d a) where
    stops : at k (point a) ≡ 1 → kept_at k (ahead x d) ≡ true
    unfolding kept_at ahead
    stops e = rw (← r.after) (eq-eqb _ 1 e)

    goes : at k (point a) ≢ 1 → kept_at k (ahead x d) ≡ false
    unfolding kept_at ahead
    goes e = rw (← r.after) (ne_eqb _ 1 e)

    pub running_stop : (v : ℕ) → v ≡ at k (point a) → v ≡ 1 → (d ≡ last_of n x k s) × (a ≡ at x d)
    unfolding last_of
    running_stop v q e =
        (sym (r.same ∙ run_stop (at x) (λ e. kept_at k (ahead x e)) (n - i) d (stops (sym q ∙ e))), r.after)

    step : kept_at k (ahead x d) ≡ false → (j : ℕ) → last_of (suc j) x k d ≡ last_of j x k (at x d)
    unfolding last_of
    step e j = run_go (at x) (λ e. kept_at k (ahead x e)) j d e

    pub running_more : (v b : ℕ) → i < n → v ≡ at k (point a) → v ≢ 1 → b ≡ at x a → Running n x k s (i + 1) a b
    running_more v b h q e f =
        let j : n - i ≡ suc (n - (i + 1)) = omega arith in
        record {
          same = r.same
              ∙ ap (λ m. last_of m x k d) j
              ∙ step (goes (λ u. e (q ∙ u))) (n - (i + 1))
              ∙ ap (last_of (n - (i + 1)) x k) (sym r.after);
          after = f;
        }

    pub running_out : n ≤ i → (d ≡ last_of n x k s) × (a ≡ at x d)
    unfolding last_of run
    running_out h = let z : n - i ≡ 0 = omega arith in (sym (r.same ∙ rw z refl), r.after)
