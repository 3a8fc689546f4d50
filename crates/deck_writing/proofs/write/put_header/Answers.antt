use mathlib.Core.Path.{sym}
use lib.Seq.{length-take-le}
use Rattle.deck_card.specs.Card.{columns, places, long}
use Rattle.deck_layout.proofs.Headings.{heading_fits, heading_bytes}
use Rattle.deck_writing.proofs.write.put_header.Goals as goal

pub slice_bounds-put-end : goal.slice_bounds-put-end
unfolding columns places long
slice_bounds-put-end c = c.requires

pub slice_bounds-put-end-2 : goal.slice_bounds-put-end-2
unfolding columns places long
slice_bounds-put-end-2 c =
    sym (length-take-le long c.args.deck.now c.requires)

pub put-requires-clause-content_fits : goal.put-requires-clause-content_fits
put-requires-clause-content_fits c =
    let w = c.args.size.width in
    let h = c.args.size.height in
    rw c.heading-content.ensures (heading_fits w h, heading_bytes w h)

pub put-requires-clause-one_card : goal.put-requires-clause-one_card
unfolding columns places long
put-requires-clause-one_card c = length-take-le long c.args.deck.now c.requires

pub returns : goal.returns
unfolding columns places long
returns c = rw (c.put.ensures, c.heading-content.ensures)
