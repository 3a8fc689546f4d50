use mathlib.Core.Path.{◌≡◌, ◌∙◌}
use Prim.Native.Nat.{◌+◌, ◌-◌, ◌≤◌, ◌<◌}
use native.Mathlib.Omega.{arith}
use lib.ListN.{length, take, drop}
use Rattle.deck_card.specs.Card.{columns, places, long, part}
use Rattle.deck_layout.specs.Layout.{row_cards, held}
use Rattle.deck_layout.proofs.Sizes.{cards_few}
use Rattle.deck_card.proofs.Table.{rest_all}
use Rattle.deck_reading.proofs.Verdicts.{Deck, judged_sheet, header_whole}
use Rattle.deck_reading.proofs.Filling.{filling_none, filling_room, filling_whole}
use Rattle.deck_reading.proofs.Filling.{filling_turn, filling_within, filling_end, cleared}
use Rattle.deck_reading.proofs.read.fill.Goals.{Start, In-loop-number, After-part}
use Rattle.deck_reading.proofs.read.fill.Goals.at as at
use Rattle.deck_reading.proofs.read.fill.Goals as goal

-- what is asked of the deck: it reads as a sheet of this size
deck_is : (s : Start) → Deck s.args.size.width s.args.size.height s.args.deck.now
deck_is s = judged_sheet s.args.size.width s.args.size.height s.args.deck.now s.requires.reads

header-there : (s : Start) → long ≤ length s.args.deck.now
header-there s = header_whole s.args.deck.now (deck_is s).head

-- the cells of the next card
row_is : (c : After-part)
    → c.part.result.now ≡ part (held c.args.size.width c.loop-number.number) (take long c.loop-number.rest.now)
row_is c = rw (← c.next.ensures, ← c.held-held.ensures) c.part.ensures.0

-- a card is left
left : (c : In-loop-number) → let s = c.args.size in 0 < row_cards s.width s.height + 2 - c.loop-number.number
left c = omega arith

-- it is there as a whole
card-there : (c : In-loop-number) → long ≤ length c.loop-number.rest.now
card-there c =
    let l = c.loop-number in
    filling_whole c.args.size.width c.args.size.height c.args.size.limited _ l.table l.rest.now
    l.number l.from _ (left c) l.invariant

pub slice_bounds-rest-count : goal.slice_bounds-rest-count
unfolding columns places long
slice_bounds-rest-count c = header-there (at.slice_bounds-rest-count c).Start

pub slice_bounds-rest-start : goal.slice_bounds-rest-start
unfolding columns places long
slice_bounds-rest-start c = header-there (at.slice_bounds-rest-start c).Start

pub overflow_add-number-end : goal.overflow_add-number-end
overflow_add-number-end c = omega (arith, cards_few c.args.size.width c.args.size.height c.args.size.limited)

pub loop-number-init : goal.loop-number-init
unfolding columns places long
loop-number-init c =
    let w = c.args.size.width in
    let h = c.args.size.height in
    let e : row_cards w h + 2 - 2 ≡ row_cards w h = omega arith in
    rw (rest_all long c.args.deck.now, e)
    (filling_none w h (drop long c.args.deck.now) c.args.table.now (deck_is (at.loop-number-init c).Start).body
    c.requires.has_room)

pub copy-from-requires : goal.copy-from-requires
copy-from-requires c =
    let l = c.loop-number in
    rw (row_is (at.copy-from-requires c).After-part)
    (filling_room c.args.size.width c.args.size.height c.args.size.limited _ l.table l.rest.now
    l.number l.from _ (left (at.copy-from-requires c).In-loop-number) l.invariant)

pub slice_bounds-rest-count-in-loop-number : goal.slice_bounds-rest-count-in-loop-number
unfolding columns places long
slice_bounds-rest-count-in-loop-number c = card-there (at.slice_bounds-rest-count-in-loop-number c).In-loop-number

pub slice_bounds-rest-start-in-loop-number : goal.slice_bounds-rest-start-in-loop-number
unfolding columns places long
slice_bounds-rest-start-in-loop-number c = card-there (at.slice_bounds-rest-start-in-loop-number c).In-loop-number

pub loop-number-preserved : goal.loop-number-preserved
unfolding columns places long
loop-number-preserved c =
    let w = c.args.size.width in
    let h = c.args.size.height in
    let l = c.loop-number in
    let e : row_cards w h + 2 - (l.number + 1) ≡ row_cards w h + 2 - l.number - 1 = omega arith in
    rw e
    (filling_turn w h c.args.size.limited _ l.table l.rest.now l.number
    l.from _ c.part.result.now _ _ _
    (left (at.loop-number-preserved c).In-loop-number) l.invariant (row_is (at.loop-number-preserved c).After-part)
    c.copy-from.ensures.1 (rest_all long l.rest.now) c.copy-from.ensures.0)

pub slice_bounds-fill-count : goal.slice_bounds-fill-count
slice_bounds-fill-count c =
    let l = c.loop-number in
    filling_within c.args.size.width c.args.size.height c.args.size.limited _ l.table l.rest.now l.number l.from _ l.invariant

pub slice_bounds-fill-start : goal.slice_bounds-fill-start
slice_bounds-fill-start c =
    let l = c.loop-number in
    filling_within c.args.size.width c.args.size.height c.args.size.limited _ l.table l.rest.now l.number l.from _ l.invariant

pub returns : goal.returns
returns c =
    let l = c.loop-number in
    cleared l.from l.table c.fill.new.self (c.fill.ensures.after (λ y e. e))
    ∙ filling_end c.args.size.width c.args.size.height c.args.size.limited _ l.table l.rest.now l.number l.from _
    (omega arith) l.invariant
