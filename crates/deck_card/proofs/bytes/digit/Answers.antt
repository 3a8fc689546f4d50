use mathlib.Core.Path.{◌≡◌, ◌∙◌}
use Prim.Native.Nat.{◌-◌}
use native.Mathlib.Nat.{sub-zero}
use native.Mathlib.Omega.{arith}
use Rattle.deck_card.specs.Card.{digit}
use Rattle.deck_card.proofs.Cards.{digit_less}
use Rattle.deck_card.proofs.bytes.digit.Goals as goal

pub loop-init : goal.loop-init
loop-init c = rw sub-zero

pub loop-preserved : goal.loop-preserved
loop-preserved c = digit_less _ _ _ c.loop-test.true ∙ c.loop.invariant

pub returns : goal.returns
unfolding digit
returns c = let e : c.args.after - c.loop.counter ≡ 0 = omega arith in rw e at c.loop.invariant
