use mathlib.Core.Path.{refl, ◌∙◌}
use Rattle.std.specs.Prelude.{Ok}
use Rattle.answer.specs.Answer.{number_of}
use Rattle.answer.proofs.Outcome.{told_on}
use Rattle.table_lengths.proofs.Tested.{each_name, name_lengths}
use Rattle.check_answer.proofs.Given.{accepted_within}
use Rattle.count_call.specs.Tally.{tallied}
use Rattle.count_call.proofs.Accepted.{accepted_clear, accepted_depths, accepted_holes, accepted_counts}
use Rattle.count_call.proofs.Filling.{fill_refused, fill_long, fill_checked, fill_done, first_same, both_same}
use Rattle.count_call.proofs.count.counts.Goals as goal

pub returns-in_err-judge : goal.returns-in_err-judge
unfolding tallied
returns-in_err-judge c =
    told_on _ c.from_residual.result _ c.in_err-judge.was c.from_residual.ensures.1 _ _ _
    (λ z. fill_refused _ _ _ _ _ _ (name_lengths _ _ _) _ _ c.judge.ensures z _ _)

pub all_depths-requires : goal.all_depths-requires
unfolding number_of
all_depths-requires c =
    let j = c.in_ok-judge.ensures in
    let l = each_name _ _ _ _ (fill_long _ _ _ _ _ _ refl (Ok tt) _ j refl) in
    accepted_depths _ _ _ _ _ (Ok tt) _ _ (fill_checked _ _ _ _ _ _ refl (Ok tt) _ j refl) refl _ l.0

pub invariant_of-all_holes : goal.invariant_of-all_holes
unfolding number_of
invariant_of-all_holes c =
    let j = c.in_ok-judge.ensures in
    record { limited = accepted_within _ _ _ _ (Ok tt) _ (fill_checked _ _ _ _ _ _ refl (Ok tt) _ j refl) refl }

pub all_holes-requires : goal.all_holes-requires
unfolding number_of
all_holes-requires c =
    let j = c.in_ok-judge.ensures in
    let l = each_name _ _ _ _ (fill_long _ _ _ _ _ _ refl (Ok tt) _ j refl) in
    accepted_holes _ _ _ _ _ (Ok tt) _ _ (fill_checked _ _ _ _ _ _ refl (Ok tt) _ j refl) refl _ l.1.0

pub returns : goal.returns
unfolding tallied number_of
returns c =
    let j = c.in_ok-judge.ensures in
    let k = fill_checked _ _ _ _ _ _ refl (Ok tt) _ j refl in
    fill_done _ _ _ _ _ _ (name_lengths _ _ _) (Ok tt) _ j refl _ _ _ _
    (both_same c.all_depths.ensures (c.all_holes.ensures.0 ∙ accepted_counts _ _ _ _ _ (Ok tt) _ _ k refl))
    (first_same _ (c.all_holes.ensures.1 ∙ accepted_clear _ _ _ _ _ (Ok tt) _ _ k refl))
