use Rattle.raimenolta.proofs.Slots.{count_slotted}
use Rattle.raimenolta.proofs.drawings.raimenolta_depth.Goals as goal

pub returns : goal.returns
returns c = count_slotted _ _ _ _ _ _ _ _ c.numbers.ensures c.put.ensures.0 c.put.ensures.1 c.depth-answer.ensures
