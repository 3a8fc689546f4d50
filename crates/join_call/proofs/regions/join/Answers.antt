use mathlib.Core.Path.{refl, ap}
use Rattle.answer.specs.Answer.{number_of}
use Rattle.answer.proofs.Outcome.{handed_on}
use Rattle.check_answer.proofs.Given.{accepted_within, accepted_stated}
use Rattle.table_lengths.proofs.Tested.{stated_slots}
use Rattle.join_rule.proofs.Readiness.{ready_pair}
use Rattle.join_call.proofs.Answering.{asked_stops, asked_ready, asked_joined}
use Rattle.join_call.proofs.regions.join.Goals as goal

pub asked-requires : goal.asked-requires
asked-requires c =
    let e = c.check-checked.ensures in
    λ z. (accepted_within _ _ _ _ _ _ e z, (stated_slots _ _ _ _ (accepted_stated _ _ _ _ _ _ e z)).1.0)

pub returns-in_err-asked : goal.returns-in_err-asked
returns-in_err-asked c =
    let (n, e) = handed_on _ c.from_residual.result _ c.in_err-asked.was c.from_residual.ensures.1 in
    rw e (asked_stops _ _ _ _ _ _ _ _ c.check-checked.ensures _ c.asked.ensures n)

pub invariant_of-apply : goal.invariant_of-apply
unfolding number_of
invariant_of-apply c =
    let r = asked_ready _ _ _ _ _ _ _ _ c.check-checked.ensures _ c.asked.ensures (ap number_of c.in_ok-asked.was) in
    record { limited = r.size }

pub apply-requires : goal.apply-requires
unfolding number_of
apply-requires c =
    ready_pair _ _ _ _ _ _ _ _ _
    (asked_ready _ _ _ _ _ _ _ _ c.check-checked.ensures _ c.asked.ensures (ap number_of c.in_ok-asked.was))

pub returns : goal.returns
unfolding number_of
returns c =
    asked_joined _ _ _ _ _ _ _ _ c.check-checked.ensures _ c.asked.ensures (ap number_of c.in_ok-asked.was) _ _ _ _ _ _ refl _
    c.apply.ensures.0 c.apply.ensures.1
