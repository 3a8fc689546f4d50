use mathlib.Core.Path.{ap, ◌∙◌}
use Rattle.answer.specs.Answer.{number_of}
use Rattle.answer.proofs.Outcome.{handed_on}
use Rattle.join_answer.proofs.Asking.{asked_refused, asked_named, asked_apart, asked_done}
use Rattle.join_answer.proofs.asked.asked.Goals as goal

pub returns-in_err-answer : goal.returns-in_err-answer
returns-in_err-answer c =
    let (n, e) = handed_on _ c.from_residual.result _ c.in_err-answer.was c.from_residual.ensures.1 in
    ap number_of e ∙ asked_refused _ _ _ _ _ _ _ n

pub returns-in_err-check_names : goal.returns-in_err-check_names
unfolding number_of
returns-in_err-check_names c =
    let r = c.from_residual-in_err-check_names in
    let (n, e) = handed_on _ r.result _ c.in_err-check_names.was r.ensures.1 in
    ap number_of e ∙ asked_named _ _ _ _ _ _ _ (ap number_of c.in_ok-answer.was) _ c.check_names.ensures n

pub invariant_of-adjoin : goal.invariant_of-adjoin
unfolding number_of
invariant_of-adjoin c = record { limited = (c.requires (ap number_of c.in_ok-answer.was)).0 }

pub adjoin-requires : goal.adjoin-requires
unfolding number_of
adjoin-requires c = (c.requires (ap number_of c.in_ok-answer.was)).1

pub returns-then-not-adjoin : goal.returns-then-not-adjoin
unfolding number_of
returns-then-not-adjoin c =
    asked_apart _ _ _ _ _ _ _ (ap number_of c.in_ok-answer.was) c.in_ok-check_names.ensures c.if-not-adjoin.ensures

pub returns : goal.returns
unfolding number_of
returns c =
    asked_done _ _ _ _ _ _ _ (ap number_of c.in_ok-answer.was) c.in_ok-check_names.ensures c.if-not-adjoin.ensures
