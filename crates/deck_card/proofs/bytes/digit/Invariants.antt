use mathlib.Core.Path.{◌≡◌}
use Prim.Native.Nat.{◌-◌}
use Rattle.deck_card.specs.Card.{digit}
use Rattle.deck_card.proofs.bytes.digit.Given as goal

abbrev pub invariant-loop : goal.invariant-loop
invariant-loop l = digit l.rest (l.after - l.counter) ≡ digit l.number l.after
