use mathlib.Core.Path.{◌≡◌}
use lib.ListN.{length, take}
use Rattle.deck_card.specs.Card.{long, card}
use Rattle.deck_card.proofs.bytes.put.Given as goal

abbrev pub invariant-loop-place : goal.invariant-loop-place
invariant-loop-place l = (length l.bytes ≡ long) × (take l.place l.bytes ≡ take l.place (card l.number l.content))
