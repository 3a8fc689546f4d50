use borrow.Author.Tests.{eq-eqb, ne_eqb}
use Rattle.deck_card.specs.Card.{columns, places, long, feed, whole}
use Rattle.deck_card.proofs.card.whole.Goals as goal

pub returns-then-bytes-ne-LONG : goal.returns-then-bytes-ne-LONG
unfolding columns places long whole
returns-then-bytes-ne-LONG c = simp (ne_eqb _ _ c.if-bytes-ne-LONG.true)

pub returns : goal.returns
unfolding columns places long feed whole
returns c = simp (eq-eqb _ _ c.if-bytes-ne-LONG.false)
