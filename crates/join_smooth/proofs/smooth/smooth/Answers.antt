use mathlib.Core.Path.{refl, ◌∙◌, ap}
use Prim.Native.Nat.{◌<◌}
use native.Mathlib.Omega.{arith}
use Rattle.point_darts.specs.Dart.{slots}
use Rattle.point_darts.proofs.Fit.{darts_fit}
use Rattle.point_darts.proofs.Reach.{slot_point}
use Rattle.paper.specs.Joining.{smooth, smoothed}
use Rattle.join_darts.proofs.Going.{going_start, going_on}
use Rattle.join_smooth.proofs.smooth.smooth.Goals.{In-loop-dart}
use Rattle.join_smooth.proofs.smooth.smooth.Goals.at as at
use Rattle.join_smooth.proofs.smooth.smooth.Goals as goal

-- The dart at hand is a slot.
inside : (c : In-loop-dart)
    → c.loop-dart.dart < slots c.args.size.width c.args.size.height
inside c = omega (arith, c.slots-n.ensures, c.loop-dart-test.true)

pub loop-dart-init : goal.loop-dart-init
loop-dart-init c = λ g. going_start _ _ _ _ _ _ _ _ _ g

pub smooth_point-requires : goal.smooth_point-requires
smooth_point-requires c =
    let q = c.requires in
    let (fit, below) = darts_fit _ _ c.args.size.limited _ refl _ (slot_point _ _ _ (inside (at.smooth_point-requires c).In-loop-dart)) in
    rw c.point.ensures (q.0, fit, rw q.2 below, rw ((c.loop-dart.invariant q.4).nexts, q.3) below)

pub loop-dart-preserved : goal.loop-dart-preserved
loop-dart-preserved c =
    λ g.
    going_on _ _ _ _ _ _ _ _ _ g _ _ _ (c.loop-dart.invariant g) (inside (at.loop-dart-preserved c).In-loop-dart)
    (c.smooth_point.ensures ∙ ap (smooth _) c.point.ensures) c.smooth_point.auto.next
    c.smooth_point.auto.other

pub returns : goal.returns
unfolding smoothed
returns c =
    (c.loop-dart.invariant c.requires.4).end (omega (arith, c.slots-n.ensures, c.loop-dart-test.false))
