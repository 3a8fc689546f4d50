use mathlib.Core.Path.{◌∙◌}
use native.Mathlib.Omega.{arith}
use Rattle.point_darts.specs.Dart.{mark}
use Rattle.join_shared.proofs.Leading.{unlisted_keeps, shared_same, link_here}
use Rattle.join_shared.proofs.Treating.{treated_none, treated_more, treated_all, treated_here}
use Rattle.join_shared.proofs.shared.unpair.Goals as goal

pub overflow_cast-n : goal.overflow_cast-n
unfolding mark
overflow_cast-n c = omega (arith, c.requires.0)

pub loop-dart-init : goal.loop-dart-init
loop-dart-init c = λ g. treated_none _ _ _ (λ d b e. unlisted_keeps _ _ _ _ _ _ _ _ g d e) _ _ g.list

pub loop-dart-preserved : goal.loop-dart-preserved
loop-dart-preserved c =
    let h = c.loop-dart-test.true in
    λ g.
    let r = c.loop-dart.invariant g in
    let e = treated_here _ _ _ (λ d b e. unlisted_keeps _ _ _ _ _ _ _ _ g d e) _ _ r h in
    treated_more _ _ _ (λ d b e. unlisted_keeps _ _ _ _ _ _ _ _ g d e) _ _ g.list _ _ _ r h
    (link_here _ _ _ _ _ (c.is_shared-shared.ensures ∙ shared_same _ _ _ _ _ _ (omega (arith, r.half.long)) e) e
    c.link_left.ensures)

pub returns : goal.returns
returns c =
    let g = c.requires.3 in
    treated_all _ _ _ (λ d b e. unlisted_keeps _ _ _ _ _ _ _ _ g d e) _ _ (c.loop-dart.invariant g) c.loop-dart-test.false
