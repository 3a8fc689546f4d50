use Rattle.raimenolta.proofs.Slots.{read_slotted}
use Rattle.raimenolta.proofs.decks.raimenolta_read.Goals as goal

pub returns : goal.returns
returns c = read_slotted _ _ _ _ _ _ _ _ _ _ c.numbers.ensures c.put.ensures.0 c.put.ensures.1 c.put.ensures.2 c.read-answer.ensures
