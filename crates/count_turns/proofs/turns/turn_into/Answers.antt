use Rattle.count_turns.proofs.Taking.{turning_mask}
use Rattle.count_turns.proofs.turns.turn_into.Goals as goal

pub returns : goal.returns
returns c =
    turning_mask _ _ _ _ _ _ c.point.ensures c.lines_at-lines.ensures c.direction.ensures _ c.next_line.ensures.1
