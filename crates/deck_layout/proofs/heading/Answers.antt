use Rattle.deck_card.specs.Card.{blank, digits}
use Rattle.deck_layout.specs.Layout.{laid, heading}
use Rattle.deck_layout.proofs.heading.Goals as goal

pub returns-then-wide : goal.returns-then-wide
unfolding blank digits laid heading
returns-then-wide c =
    rw (
      ← c.wide.ensures,
      c.if-wide.true,
      c.digit-w2.ensures,
      c.digit-w1.ensures,
      c.digit-w0.ensures,
      c.digit-h1.ensures,
      c.digit-h0.ensures,
    )

pub returns : goal.returns
unfolding blank digits laid heading
returns c =
    rw (
      ← c.wide.ensures,
      c.if-wide.false,
      c.digit-w1.ensures,
      c.digit-w0.ensures,
      c.digit-h1.ensures,
      c.digit-h0.ensures,
    )
