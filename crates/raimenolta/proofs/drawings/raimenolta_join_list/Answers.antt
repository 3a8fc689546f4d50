use Rattle.raimenolta.proofs.Slots.{list_slotted}
use Rattle.raimenolta.proofs.drawings.raimenolta_join_list.Goals as goal

pub returns : goal.returns
returns c = list_slotted _ _ _ _ _ _ _ _ c.numbers.ensures c.put.ensures.0 c.put.ensures.1 c.join_list-answer.ensures
