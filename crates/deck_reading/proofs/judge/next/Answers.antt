use Rattle.std.proofs.lemmas.List.{take_min}
use Rattle.deck_card.specs.Card.{columns, places, long}
use Rattle.deck_reading.proofs.judge.next.Goals as goal

pub returns : goal.returns
unfolding columns places long
returns c = rw c.min.ensures (take_min long c.args.rest.now)
