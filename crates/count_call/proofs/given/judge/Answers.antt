use mathlib.Core.Path.{refl}
use Rattle.std.specs.Prelude.{Ok, Err}
use Rattle.answer.specs.Answer.{number_of}
use Rattle.answer.proofs.Outcome.{told_on}
use Rattle.count_call.proofs.Filling.{judge_stopped, judge_checked}
use Rattle.count_call.proofs.given.judge.Goals as goal

pub returns-in_err-refusal : goal.returns-in_err-refusal
unfolding number_of
returns-in_err-refusal c =
    told_on (Err _) c.from_residual.result _ refl c.from_residual.ensures.1 _ _ _
    (judge_stopped _ _ _ _ _ (Err _) c.in_err-refusal.ensures.number)

pub returns : goal.returns
unfolding number_of
returns c = judge_checked _ _ _ _ _ (Ok tt) c.in_ok-refusal.ensures.number refl _ _ c.check.ensures
