use mathlib.Core.Path.{refl, ◌∙◌, ap}
use Prim.Native.Nat.{◌<◌}
use native.Mathlib.Omega.{arith}
use Rattle.point_darts.specs.Dart.{slots}
use Rattle.point_darts.proofs.Fit.{darts_fit}
use Rattle.point_darts.proofs.Reach.{slot_point}
use Rattle.paper.specs.Joining.{on, close}
use Rattle.join_darts.proofs.Going.{going_start, going_on}
use Rattle.join_close.proofs.close.close.Goals.{In-loop-dart}
use Rattle.join_close.proofs.close.close.Goals.at as at
use Rattle.join_close.proofs.close.close.Goals as goal

-- The dart at hand is a slot.
inside : (c : In-loop-dart)
    → c.loop-dart.dart < slots c.args.size.width c.args.size.height
inside c = omega (arith, c.slots-n.ensures, c.loop-dart-test.true)

pub loop-dart-init : goal.loop-dart-init
loop-dart-init c = λ g. going_start _ _ _ _ _ _ _ _ _ g

pub close_point-requires : goal.close_point-requires
close_point-requires c =
    let q = c.requires in
    let p = slot_point _ _ _ (inside (at.close_point-requires c).In-loop-dart) in
    let (fit, below) = darts_fit _ _ c.args.size.limited _ refl _ p in
    rw c.point.ensures
    (q.0, fit, rw q.2 below, rw q.3 below, rw ((c.loop-dart.invariant q.7).nexts, q.4) below, rw q.5 p, q.6)

pub loop-dart-preserved : goal.loop-dart-preserved
loop-dart-preserved c =
    λ g.
    going_on _ _ _ _ _ _ _ _ _ g _ _ _ (c.loop-dart.invariant g) (inside (at.loop-dart-preserved c).In-loop-dart)
    (c.close_point.ensures ∙ ap (close (on _) _ _) c.point.ensures) c.close_point.auto.next
    c.close_point.auto.other
