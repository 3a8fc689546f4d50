use Rattle.answer.specs.Answer.{number_of}
use Rattle.join_answer.proofs.Judging.{judged_told}
use Rattle.editor_answer.proofs.Asking.{asked_open, asked_told}
use Rattle.editor_answer.proofs.asked.asked.Goals as goal

pub asked-requires : goal.asked-requires
unfolding number_of
asked-requires c =
    let q = judged_told _ _ _ _ _ c.judged_or-judged.ensures c.may_call.ensures in
    λ z. c.requires (asked_open _ _ _ _ _ _ _ q c.named-answer.result c.named-answer.ensures z)

pub returns : goal.returns
unfolding number_of
returns c =
    let q = judged_told _ _ _ _ _ c.judged_or-judged.ensures c.may_call.ensures in
    asked_told _ _ _ _ _ _ _ q _ c.named-answer.ensures _ _ _ _ c.asked.ensures
