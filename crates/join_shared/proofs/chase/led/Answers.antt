use mathlib.Core.Path.{sym, ◌∙◌}
use Rattle.join_shared.proofs.Chasing.{led_keeps, led_past}
use Rattle.join_shared.proofs.chase.led.Goals as goal

pub returns-then-is_shared : goal.returns-then-is_shared
returns-then-is_shared c = led_keeps _ _ _ _ _ _ c.get-after.ensures (sym c.is_shared.ensures ∙ c.if-is_shared.true)

pub returns : goal.returns
returns c =
    led_past _ _ _ _ _ _ c.get-after.ensures
    (sym c.is_shared.ensures ∙ c.if-is_shared.false) _ c.chase.ensures
