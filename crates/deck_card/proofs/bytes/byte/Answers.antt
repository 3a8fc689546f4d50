use mathlib.Core.Path.{sym, ◌∙◌}
use Rattle.deck_card.specs.Card.{columns, places, long, blank, feed}
use Rattle.deck_card.proofs.Cards.{card_content, card_blank, card_digit, card_feed}
use Rattle.deck_card.proofs.bytes.byte.Goals as goal

pub returns-then-place-content : goal.returns-then-place-content
returns-then-place-content c =
    sym (card_content c.args.number c.args.content.now c.requires.content_fits.0 c.args.place
    c.if-place-content.true)

pub returns-then-place-lt-COLUMNS : goal.returns-then-place-lt-COLUMNS
unfolding columns blank
returns-then-place-lt-COLUMNS c =
    sym (card_blank c.args.number c.args.content.now c.requires.content_fits.0 c.args.place c.if-place-content.false
    c.if-place-lt-COLUMNS.true)

pub returns-then-place : goal.returns-then-place
unfolding columns places
returns-then-place c =
    c.digit.ensures
    ∙ sym (card_digit c.args.number c.args.content.now c.requires.content_fits.0 c.args.place c.if-place-lt-COLUMNS.false
    c.if-place.true)

pub returns : goal.returns
unfolding columns places long feed
returns c =
    sym (card_feed c.args.number c.args.content.now c.requires.content_fits.0 c.args.place c.if-place.false
    c.requires.on_card)
