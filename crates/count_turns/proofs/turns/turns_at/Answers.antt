use mathlib.Core.Path.{sym, ◌∙◌}
use native.Mathlib.Omega.{arith}
use Rattle.point_darts.specs.Dart.{mark}
use Rattle.count_turns.proofs.Taking.{turns_off, turns_walked, other_below, counted_met}
use Rattle.count_turns.proofs.turns.turns_at.Goals as goal

pub returns-then-end : goal.returns-then-end
unfolding mark
returns-then-end c =
    let e = c.get-end.ensures in
    let z = c.if-end.true in
    (turns_off _ _ _ _ _ _ _ _ e z, turns_off _ _ _ _ _ _ _ _ e z)

pub bounds-left-other : goal.bounds-left-other
bounds-left-other c =
    let b = other_below c.requires _ c.get-other.ensures (sym c.is_met.ensures ∙ c.if-is_met.true) in
    omega (arith, b.0, b.1)

pub bounds-right-other : goal.bounds-right-other
bounds-right-other c =
    let b = other_below c.requires _ c.get-other.ensures (sym c.is_met.ensures ∙ c.if-is_met.true) in
    omega (arith, b.0, b.1)

pub returns-then-is_met : goal.returns-then-is_met
unfolding mark
returns-then-is_met c =
    counted_met c.requires _ c.get-other.ensures (sym c.is_met.ensures ∙ c.if-is_met.true) _
    c.get-end.ensures c.if-end.false

pub returns : goal.returns
unfolding mark
returns c =
    let m = sym c.is_met.ensures ∙ c.if-is_met.false in
    let e = c.get-end.ensures in (
      turns_walked _ _ _ _ _ _ _ _ e c.if-end.false m _ c.run.ensures.0,
      turns_walked _ _ _ _ _ _ _ _ e c.if-end.false m _ c.run.ensures.1,
    )
