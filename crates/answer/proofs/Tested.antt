-- What the tests of an answer tell of its number.
use mathlib.Core.Path.{◌≡◌, refl}
use mathlib.Core.Bool.{true, false, false≢true, true≢false}
use mathlib.Core.Logic.{◌≢◌}
use Prim.Native.Nat.{ℕ}
use Rattle.std.specs.Prelude.{Result, Ok, Err}
use Rattle.std.specs.Result.{is_ok, is_err}
use Rattle.answer.specs.declared.Refusal.{Refusal}
use Rattle.answer.specs.Answer.{number_of}
use Rattle.answer.proofs.Outcome.{refusal_some}

pub err_some : (r : Result (Unit {0}) Refusal) → true ≡ is_err r → number_of r ≢ 0
unfolding number_of
err_some (Ok done) e = absurd (true≢false e)
err_some (Err refusal) e = refusal_some refusal

pub err_none : (r : Result (Unit {0}) Refusal) → false ≡ is_err r → number_of r ≡ 0
unfolding number_of
err_none (Ok done) e = refl
err_none (Err refusal) e = absurd (false≢true e)

pub ok_none : (r : Result (Unit {0}) Refusal) → true ≡ is_ok r → number_of r ≡ 0
unfolding number_of
ok_none (Ok done) e = refl
ok_none (Err refusal) e = absurd (true≢false e)

pub ok_some : (r : Result (Unit {0}) Refusal) → false ≡ is_ok r → number_of r ≢ 0
unfolding number_of
ok_some (Ok done) e = absurd (false≢true e)
ok_some (Err refusal) e = refusal_some refusal
