use Prim.Native.Nat.{◌+◌, ◌-◌}
use lib.ListN.{drop}
use Rattle.deck_card.specs.Card.{long}
use Rattle.deck_layout.specs.Layout.{row_cards}
use Rattle.deck_reading.specs.Reading.{cells}
use Rattle.deck_reading.proofs.Filling.{Filling}
use Rattle.deck_reading.proofs.read.fill.Given as goal

abbrev pub invariant-loop-number : goal.invariant-loop-number
invariant-loop-number l =
    let w = l.size.width in
    let h = l.size.height in
    Filling w h (cells w (row_cards w h) 2 (drop long l.deck)) l.table l.rest (row_cards w h + 2 - l.number) l.number l.from
