use mathlib.Core.Path.{◌∙◌}
use Rattle.point_darts.specs.Dart.{mark}
use native.Mathlib.Omega.{arith}
use Rattle.join_shared.proofs.Leading.{unlisted_led, led_same}
use Rattle.join_shared.proofs.Treating.{treated_none, treated_more, treated_all}
use Rattle.join_shared.proofs.shared.lead.Goals as goal

pub overflow_cast-n : goal.overflow_cast-n
unfolding mark
overflow_cast-n c = omega (arith, c.requires.2)

pub loop-dart-init : goal.loop-dart-init
loop-dart-init c =
    let q = c.requires in
    λ g. treated_none _ _ _ (λ d b e. unlisted_led _ _ _ _ _ q.0 q.1 (omega (arith, q.2, q.3)) q.6 _ _ _ g d e) _ _ g.list

pub loop-dart-preserved : goal.loop-dart-preserved
loop-dart-preserved c =
    let q = c.requires in
    let h = c.loop-dart-test.true in
    λ g.
    let r = c.loop-dart.invariant g in
    treated_more _ _ _ (λ d b e. unlisted_led _ _ _ _ _ q.0 q.1 (omega (arith, q.2, q.3)) q.6 _ _ _ g d e) _ _
    g.list _ _ _ r h
    (c.led.ensures ∙ led_same _ _ _ _ _ q.0 q.1 (omega (arith, q.2, q.3)) q.6 _ _ r.half h)

pub returns : goal.returns
returns c =
    let q = c.requires in
    treated_all _ _ _ (λ d b e. unlisted_led _ _ _ _ _ q.0 q.1 (omega (arith, q.2, q.3)) q.6 _ _ _ q.5 d e) _ _
    (c.loop-dart.invariant q.5) c.loop-dart-test.false
