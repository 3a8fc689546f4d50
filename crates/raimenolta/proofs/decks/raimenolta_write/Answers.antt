use Rattle.deck_card.specs.Outcome.{write_outcome}
use Rattle.raimenolta.specs.Slot.{carded}
use Rattle.raimenolta.proofs.decks.raimenolta_write.Goals as goal

pub returns : goal.returns
unfolding write_outcome carded
returns c = rw (c.write_number.ensures, ← c.write.ensures)
