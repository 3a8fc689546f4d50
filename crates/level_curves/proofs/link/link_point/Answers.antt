use mathlib.Core.Path.{refl}
use native.Mathlib.Omega.{arith}
use lib.Dec.{lit<}
use Rattle.point_darts.specs.Dart.{mark, dart}
use Rattle.level_curves.proofs.Linking.{dart_after, linking_point, linking_next, linking_round}
use Rattle.level_curves.proofs.link.link_point.Goals as goal

pub returns-then-kept-p-ne1 : goal.returns-then-kept-p-ne1
returns-then-kept-p-ne1 c = let q = c.requires in linking_point _ q.0 q.1 c.if-kept-p-ne1.true

pub leaving-requires : goal.leaving-requires
unfolding dart mark
leaving-requires c = let q = c.requires in omega (arith, q.1, q.0.points, q.0.fits)

pub link_dart-requires : goal.link_dart-requires
link_dart-requires c =
    let q = c.requires in
    linking_next _ q.1 c.if-kept-p-ne1.false 0 _ _ (lit< tt) q.0 refl c.leaving.ensures

pub leaving-requires-2 : goal.leaving-requires-2
unfolding dart mark
leaving-requires-2 c =
    let q = c.requires in
    omega (arith, q.1, q.0.points, q.0.fits)

pub link_dart-requires-2 : goal.link_dart-requires-2
link_dart-requires-2 c =
    linking_next _ c.requires.1 c.if-kept-p-ne1.false 1 _ _ (lit< tt) c.link_dart.ensures
    (dart_after _ 0 _ c.leaving.ensures) c.leaving-2.ensures

pub leaving-requires-3 : goal.leaving-requires-3
unfolding dart mark
leaving-requires-3 c =
    let q = c.requires in
    omega (arith, q.1, q.0.points, q.0.fits)

pub link_dart-requires-3 : goal.link_dart-requires-3
link_dart-requires-3 c =
    linking_next _ c.requires.1 c.if-kept-p-ne1.false 2 _ _ (lit< tt) c.link_dart-2.ensures
    (dart_after _ 1 _ c.leaving-2.ensures) c.leaving-3.ensures

pub leaving-requires-4 : goal.leaving-requires-4
unfolding dart mark
leaving-requires-4 c =
    let q = c.requires in
    omega (arith, q.1, q.0.points, q.0.fits)

pub link_dart-requires-4 : goal.link_dart-requires-4
link_dart-requires-4 c =
    linking_next _ c.requires.1 c.if-kept-p-ne1.false 3 _ _ (lit< tt) c.link_dart-3.ensures
    (dart_after _ 2 _ c.leaving-3.ensures) c.leaving-4.ensures

pub returns : goal.returns
returns c = linking_round _ _ c.leaving-4.ensures c.link_dart-4.ensures
