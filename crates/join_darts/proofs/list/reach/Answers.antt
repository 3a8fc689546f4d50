use native.Mathlib.Omega.{arith}
use Rattle.point_darts.specs.Dart.{mark}
use Rattle.join_darts.proofs.Narrowing.{read_on, read_off, reached_more, reached_here}
use Rattle.join_darts.proofs.list.reach.Goals as goal

pub returns-then-next-dart : goal.returns-then-next-dart
unfolding mark
returns-then-next-dart c =
    let q = c.requires in
    let h = c.loop-dart-test.true in
    λ g. reached_here _ _ _ _ _ (c.loop-dart.invariant g) h (read_on _ _ (omega (arith, q.1)) c.if-next-dart.true)

pub loop-dart-preserved : goal.loop-dart-preserved
unfolding mark
loop-dart-preserved c =
    let q = c.requires in
    let h = c.loop-dart-test.true in
    λ g.
    reached_more _ _ _ _ _ _ _ g.list (c.loop-dart.invariant g) h
    (read_off _ _ (omega (arith, q.1)) c.if-next-dart.false)
