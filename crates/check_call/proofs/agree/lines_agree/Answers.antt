use Rattle.check_call.proofs.Agreeing.{lines_is_drawing}
use Rattle.check_call.proofs.agree.lines_agree.Goals as goal

pub returns : goal.returns
returns c =
    let q = c.requires in
    lines_is_drawing _ _ _ _ _ _ _ _ _ q.4 c.draw_lines.ensures c.both_same.ensures
