use mathlib.Core.Path.{◌≡◌}
use Prim.Native.Nat.{◌-◌}
use Rattle.deck_layout.specs.Layout.{row_cards}
use Rattle.deck_reading.specs.Judging.{rows}
use Rattle.deck_reading.proofs.judge.rows.Given as goal

abbrev pub invariant-loop-card : goal.invariant-loop-card
invariant-loop-card l =
    let w = l.size.width in
    let h = l.size.height in
    rows w h (l.end - l.card-counter) l.card-counter l.rest ≡ rows w h (row_cards w h) 2 l.deck
