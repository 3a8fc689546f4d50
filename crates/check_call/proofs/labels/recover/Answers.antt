use native.Mathlib.Omega.{arith}
use Rattle.point_darts.specs.Dart.{mark, dart}
use Rattle.sheet_size.proofs.Limit.{within_limits}
use Rattle.point_darts.proofs.Fit.{cells_fit}
use Rattle.check_call.proofs.Recovering.{recovering_none, recovering_all, recovering_fit, recovering_in}
use Rattle.check_call.proofs.Recovering.{recovering_on, recovering_down}
use Rattle.check_call.proofs.labels.recover.Goals.{then-column-size, else-column-size}
use Rattle.check_call.proofs.labels.recover.Goals as goal

pub overflow_mul-n : goal.overflow_mul-n
overflow_mul-n c = omega (arith, cells_fit _ _ c.args.size.limited)

pub overflow_add-point : goal.overflow_add-point
overflow_add-point c = omega (arith, within_limits _ _ c.args.size.limited)

pub loop-i-init : goal.loop-i-init
unfolding mark
loop-i-init c = recovering_none _ _ _ _ c.requires.1

pub leaving-requires : goal.leaving-requires
unfolding mark dart
leaving-requires c =
    omega (arith, recovering_fit _ _ _ _ _ _ _ _ c.loop-i.invariant c.args.size.limited c.loop-i-test.true)

pub label_at-label-requires : goal.label_at-label-requires
label_at-label-requires c =
    let z = (within_limits _ _ c.args.size.limited).width_some in
    omega (arith, c.leaving.ensures, c.requires.0, recovering_in _ _ _ _ _ _ _ _ c.loop-i.invariant z c.loop-i-test.true)

pub overflow_add-point-in-loop-i : goal.overflow_add-point-in-loop-i
unfolding mark dart
overflow_add-point-in-loop-i c =
    omega (arith, recovering_fit _ _ _ _ _ _ _ _ c.loop-i.invariant c.args.size.limited c.loop-i-test.true)

pub overflow_add-point-then-column-size : goal.overflow_add-point-then-column-size
unfolding mark dart
overflow_add-point-then-column-size c =
    omega (arith, recovering_fit _ _ _ _ _ _ _ _ c.loop-i.invariant c.args.size.limited c.loop-i-test.true)

pub loop-i-preserved : goal.loop-i-preserved
loop-i-preserved c =
    let f = c.loop-i.invariant in
    let e = c.leaving.ensures in
    let k = c.label_at-label.ensures in
    let b = c.loop-i-test.true in
    let z = (within_limits _ _ c.args.size.limited).width_some in
    elim c.if-column-size.branch [
      | then-column-size w ↦ rw (w.column-is, w.point-is) (recovering_down _ _ _ _ _ _ _ _ f _ _ e k b z w.if-column-size.true)
      | else-column-size w ↦ rw (w.column-is, w.point-is) (recovering_on _ _ _ _ _ _ _ _ f _ _ e k b z w.if-column-size.false)
    ]

pub returns : goal.returns
returns c = recovering_all _ _ _ _ _ _ _ _ c.loop-i.invariant c.loop-i-test.false
