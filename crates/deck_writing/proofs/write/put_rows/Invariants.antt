use mathlib.Core.List.{◌++◌}
use Prim.Native.Nat.{◌+◌, ◌-◌}
use lib.ListN.{take}
use Rattle.deck_card.specs.Card.{long}
use Rattle.deck_layout.specs.Layout.{row_cards}
use Rattle.deck_writing.specs.Writing.{row_deck}
use Rattle.deck_writing.proofs.Punching.{Punching}
use Rattle.deck_writing.proofs.write.put_rows.Given as goal

abbrev pub invariant-loop-number : goal.invariant-loop-number
invariant-loop-number l =
    let w = l.size.width in
    let h = l.size.height in
    Punching w h (take long l.initial.deck ++ row_deck w (row_cards w h) 2 l.sheet) l.deck l.rest
    (row_cards w h + 2 - l.number) l.number l.at
