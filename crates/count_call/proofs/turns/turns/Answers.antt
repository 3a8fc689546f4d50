use mathlib.Core.Path.{refl, ◌∙◌}
use Rattle.std.specs.Prelude.{Ok}
use Rattle.answer.specs.Answer.{number_of}
use Rattle.answer.proofs.Outcome.{told_on}
use Rattle.table_lengths.proofs.Tested.{each_dart, dart_lengths}
use Rattle.check_answer.proofs.Given.{accepted_within}
use Rattle.count_call.specs.Tally.{traced}
use Rattle.count_call.proofs.Accepted.{accepted_curves, accepted_turns}
use Rattle.count_call.proofs.Filling.{fill_refused, fill_long, fill_checked, fill_done, both_same}
use Rattle.count_call.proofs.turns.turns.Goals as goal

pub returns-in_err-judge : goal.returns-in_err-judge
unfolding traced
returns-in_err-judge c =
    told_on _ c.from_residual.result _ c.in_err-judge.was c.from_residual.ensures.1 _ _ _
    (λ z. fill_refused _ _ _ _ _ _ (dart_lengths _ _ _) _ _ c.judge.ensures z _ _)

pub invariant_of-all_turns : goal.invariant_of-all_turns
unfolding number_of
invariant_of-all_turns c =
    let j = c.in_ok-judge.ensures in
    record { limited = accepted_within _ _ _ _ (Ok tt) _ (fill_checked _ _ _ _ _ _ refl (Ok tt) _ j refl) refl }

pub all_turns-requires : goal.all_turns-requires
unfolding number_of
all_turns-requires c =
    let j = c.in_ok-judge.ensures in
    let l = each_dart _ _ _ _ (fill_long _ _ _ _ _ _ refl (Ok tt) _ j refl) in
    accepted_curves _ _ _ _ _ (Ok tt) _ _ (fill_checked _ _ _ _ _ _ refl (Ok tt) _ j refl) refl _ _ l.0 l.1.0

pub returns : goal.returns
unfolding traced number_of
returns c =
    let j = c.in_ok-judge.ensures in
    let t = accepted_turns _ _ _ _ _ (Ok tt) _ _ (fill_checked _ _ _ _ _ _ refl (Ok tt) _ j refl) refl in
    fill_done _ _ _ _ _ _ (dart_lengths _ _ _) (Ok tt) _ j refl _ _ _ _
    (both_same (c.all_turns.ensures.0 ∙ t.0) (c.all_turns.ensures.1 ∙ t.1)) refl
