use native.Mathlib.Omega.{arith}
use Rattle.point_darts.specs.Dart.{mark, slots, dart}
use Rattle.level_curves.proofs.Linking.{linking_none, linking_all}
use Rattle.level_curves.proofs.link.links.Goals as goal

pub loop-p-init : goal.loop-p-init
unfolding mark
loop-p-init c =
    let q = c.requires in
    linking_none _ _ _ _ _ c.slots-steps.ensures c.args.next.now c.args.other.now c.args.size.limited q.2 q.3 q.4
    q.0 q.1 c.fill.ensures c.fill-2.ensures

pub returns : goal.returns
unfolding dart slots
returns c =
    let e = c.slots-steps.ensures in
    linking_all _ _ _ _ _ e c.loop-p.invariant (omega (arith, c.loop-p-test.false, e, c.points-n.ensures))
