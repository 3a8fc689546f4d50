use mathlib.Core.Path.{refl, ap, ◌∙◌}
use Rattle.std.specs.Prelude.{Err}
use Rattle.answer.specs.Answer.{number_of}
use Rattle.answer.proofs.Outcome.{handed_on}
use Rattle.editor_call.proofs.Starting.{start_refused, start_unowned, start_owned}
use Rattle.editor_call.proofs.start.refusal.Goals as goal

pub returns-in_err-refusal : goal.returns-in_err-refusal
unfolding number_of
returns-in_err-refusal c =
    let (n, e) = handed_on (Err _) c.from_residual.result _ refl c.from_residual.ensures.1 in
    ap number_of e ∙ start_refused _ _ _ _ _ _ c.in_err-refusal.ensures.number n

pub returns-then-not-are_owned : goal.returns-then-not-are_owned
unfolding number_of
returns-then-not-are_owned c = start_unowned _ _ _ _ _ c.in_ok-refusal.ensures.number c.if-not-are_owned.ensures

pub returns : goal.returns
unfolding number_of
returns c = start_owned _ _ _ _ _ c.in_ok-refusal.ensures.number c.if-not-are_owned.ensures
