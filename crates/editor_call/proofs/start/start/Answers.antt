use Rattle.answer.proofs.Tested.{ok_none, ok_some}
use Rattle.editor_call.proofs.Starting.{start_drawn, start_cleared, start_left}
use Rattle.editor_call.proofs.start.start.Goals as goal

pub returns-then-is_ok : goal.returns-then-is_ok
returns-then-is_ok c =
    start_drawn _ _ _ _ _ _ _ c.refusal-answer.ensures (ok_none _ c.if-is_ok.ensures.value) _ _ _ c.draw.ensures

pub returns-then-number-gt-EARLY : goal.returns-then-number-gt-EARLY
returns-then-number-gt-EARLY c =
    start_cleared _ _ _ _ _ _ _ c.refusal-answer.ensures (ok_some _ c.if-is_ok.ensures.value) _ c.number.ensures
    c.if-number-gt-EARLY.true _ c.clear_four.ensures

pub returns-else-number-gt-EARLY : goal.returns-else-number-gt-EARLY
returns-else-number-gt-EARLY c =
    start_left _ _ _ _ _ _ _ c.refusal-answer.ensures (ok_some _ c.if-is_ok.ensures.value) _ c.number.ensures
    c.if-number-gt-EARLY.false
