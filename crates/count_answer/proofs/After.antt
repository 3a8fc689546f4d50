-- What a check of the drawing refuses, a count after it refuses too.
--   after v k x     == what a count answers after a check that answered v, of a name that k says is known, with the value x
use mathlib.Core.Path.{◌≡◌, ap, ◌∙◌}
use mathlib.Core.Bool.{Bool}
use Prim.Native.Nat.{ℕ}
use Rattle.std.specs.Prelude.{Result, Err}
use Rattle.std.specs.Result.{IsErrAnd}
use Rattle.std.proofs.lemmas.Result.{err_from_is_err_and}
use Rattle.answer.specs.declared.Refusal.{Refusal}
use Rattle.count_answer.specs.Count.{after}

pub after_refused : (v : Result (Unit {0}) Refusal) (y : Refusal) → v ≡ Err y → (r : Result ℕ Refusal)
    → IsErrAnd r (λ z. z ≡ y) → (k : Bool) (x : ℕ) → r ≡ after v k x
unfolding after
after_refused v y e r i k x = let p = err_from_is_err_and r i in rw e (p.1 ∙ ap Err p.2)
