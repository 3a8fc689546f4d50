use native.Mathlib.Omega.{arith}
use Rattle.point_darts.specs.Dart.{mark}
use Rattle.join_shared.proofs.Leading.{unlisted_keeps, link_here}
use Rattle.join_shared.proofs.Treating.{treated_none, treated_more, treated_all, treated_here}
use Rattle.join_shared.proofs.Counting.{counted_none, counted_more, bool_byte_most, counted_most, counted_all}
use Rattle.join_shared.proofs.shared.unlink.Goals as goal

pub overflow_cast-n : goal.overflow_cast-n
unfolding mark
overflow_cast-n c = omega (arith, c.requires.0)

pub loop-dart-init : goal.loop-dart-init
loop-dart-init c = (
  λ g. treated_none _ _ _ (λ d b e. unlisted_keeps _ _ _ _ _ _ _ _ g d e) _ _ g.list,
  λ g. counted_none _ _ _ _ _ g.list,
)

pub overflow_add-gone : goal.overflow_add-gone
unfolding mark
overflow_add-gone c =
    let q = c.requires in
    let r = c.loop-dart.invariant.1 (record { test = q.3.test; list = q.3.list }) in
    rw bool_byte_most (omega (arith, q.0, counted_most _ _ _ _ _ r, c.loop-dart-test.true))

pub loop-dart-preserved : goal.loop-dart-preserved
loop-dart-preserved c =
    let h = c.loop-dart-test.true in
    let v = c.loop-dart.invariant in
    let e = c.is_shared-shared.ensures in (
      λ g.
          treated_more _ _ _ (λ d b e. unlisted_keeps _ _ _ _ _ _ _ _ g d e) _ _ g.list _ _ _ (v.0 g) h
          (link_here _ _ _ _ _ e (treated_here _ _ _ (λ d b e. unlisted_keeps _ _ _ _ _ _ _ _ g d e) _ _ (v.0 g) h)
          c.link_left.ensures),
      λ g. counted_more _ _ _ _ _ g.list _ _ _ (v.1 g) h e,
    )

pub returns : goal.returns
returns c =
    let g = c.requires.3 in
    let v = c.loop-dart.invariant in (
      treated_all _ _ _ (λ d b e. unlisted_keeps _ _ _ _ _ _ _ _ g d e) _ _ (v.0 g) c.loop-dart-test.false,
      λ g. counted_all _ _ _ _ _ (v.1 g) c.loop-dart-test.false,
    )
