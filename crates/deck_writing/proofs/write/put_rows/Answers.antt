use mathlib.Core.Path.{◌≡◌}
use Prim.Native.Nat.{◌+◌, ◌-◌, ◌≤◌, ◌<◌}
use native.Mathlib.Omega.{arith}
use lib.ListN.{length, take}
use Rattle.deck_card.specs.Card.{columns, places, long, card}
use Rattle.deck_layout.specs.Layout.{row_cards, held}
use Rattle.deck_layout.proofs.Sizes.{cards_few}
use Rattle.deck_writing.proofs.Punching.{punching_none, punching_cells, punching_room, punching_content}
use Rattle.deck_writing.proofs.Punching.{punching_turn, punching_end, middle, length_middle}
use Rattle.deck_writing.proofs.write.put_rows.Goals.{In-loop-number, After-held-held}
use Rattle.deck_writing.proofs.write.put_rows.Goals.at as at
use Rattle.deck_writing.proofs.write.put_rows.Goals as goal

-- a card is left
left : (c : In-loop-number) → let s = c.args.size in 0 < row_cards s.width s.height + 2 - c.loop-number.number
left c = omega arith

-- the next card's bytes are there
bytes-there : (c : In-loop-number) → c.loop-number.at + long ≤ length c.loop-number.deck
bytes-there c =
    let l = c.loop-number in
    punching_room c.args.size.width c.args.size.height c.args.size.limited _ l.deck l.rest.now l.number l.at _ (left c) l.invariant

-- and its cells
cells-there : (c : After-held-held) → c.held-held.result ≤ length c.loop-number.rest.now
cells-there c =
    let l = c.loop-number in
    rw c.held-held.ensures
    (punching_cells c.args.size.width c.args.size.height c.args.size.limited _ l.deck l.rest.now l.number l.at _
    (left (at.After-held-held c).In-loop-number) l.invariant)

pub overflow_add-number-end : goal.overflow_add-number-end
overflow_add-number-end c = omega (arith, cards_few c.args.size.width c.args.size.height c.args.size.limited)

pub loop-number-init : goal.loop-number-init
unfolding columns places long
loop-number-init c =
    let w = c.args.size.width in
    let h = c.args.size.height in
    let e : row_cards w h + 2 - 2 ≡ row_cards w h = omega arith in
    rw e (punching_none w h c.args.sheet.now c.args.deck.now c.requires.cells c.requires.cards c.requires.labels)

pub split_at-requires : goal.split_at-requires
split_at-requires c = cells-there c

pub slice_bounds-put-end : goal.slice_bounds-put-end
unfolding columns places long
slice_bounds-put-end c = bytes-there (at.slice_bounds-put-end c).In-loop-number

pub put-requires-clause-content_fits : goal.put-requires-clause-content_fits
put-requires-clause-content_fits c =
    let l = c.loop-number in
    rw (c.split_at.ensures.front, c.held-held.ensures)
    (punching_content c.args.size.width c.args.size.height c.args.size.limited _ l.deck l.rest.now l.number l.at _
    (left (at.put-requires-clause-content_fits c).In-loop-number) l.invariant)

pub put-requires-clause-one_card : goal.put-requires-clause-one_card
unfolding columns places long
put-requires-clause-one_card c =
    length_middle c.loop-number.at c.loop-number.deck (bytes-there (at.put-requires-clause-one_card c).In-loop-number)

pub loop-number-preserved : goal.loop-number-preserved
unfolding columns places long
loop-number-preserved c =
    let w = c.args.size.width in
    let h = c.args.size.height in
    let l = c.loop-number in
    let e : row_cards w h + 2 - (l.number + 1) ≡ row_cards w h + 2 - l.number - 1 = omega arith in
    rw e
    (punching_turn w h c.args.size.limited _ l.deck l.rest.now l.number l.at _ _ _
    (left (at.loop-number-preserved c).In-loop-number) l.invariant
    (rw (c.put.ensures, c.split_at.ensures.front, c.held-held.ensures)
    (middle l.at l.deck (card l.number (take (held w l.number) l.rest.now))))
    (rw (c.split_at.ensures.back, c.held-held.ensures)))

pub returns : goal.returns
returns c =
    let l = c.loop-number in
    punching_end c.args.size.width c.args.size.height c.args.size.limited _ l.deck l.rest.now l.number l.at _
    (omega arith) l.invariant
