use Prim.Native.Nat.{◌<◌}
use native.Mathlib.Omega.{arith}
use lib.ListN.{get_or}
use Rattle.point_darts.specs.Dart.{mark}
use Rattle.region_depths.proofs.Deepening.{deepened_outside, deepened_mark, deepened_below, deepened_fits, deepened_up}
use Rattle.region_depths.proofs.census.deeper.Goals.{Else-up}
use Rattle.region_depths.proofs.census.deeper.Goals.at as at
use Rattle.region_depths.proofs.census.deeper.Goals as goal

up-below : (c : Else-up) → get_or c.args.parent.now c.args.name 0 < c.args.name
unfolding mark
up-below c = deepened_below _ _ _ c.requires c.if-name-eq0.false c.if-up.false

pub returns-then-name-eq0 : goal.returns-then-name-eq0
returns-then-name-eq0 c = deepened_outside _ _ _ c.requires c.if-name-eq0.true

pub returns-then-up : goal.returns-then-up
unfolding mark
returns-then-up c = deepened_mark _ _ _ c.requires c.if-name-eq0.false c.if-up.true

pub bounds-depths-up : goal.bounds-depths-up
bounds-depths-up c =
    let q = c.requires in
    omega (arith, up-below (at.bounds-depths-up c).Else-up, q.below, q.long)

pub overflow_add-result : goal.overflow_add-result
unfolding mark
overflow_add-result c =
    omega (arith, deepened_fits _ _ _ c.requires c.if-name-eq0.false c.if-up.false)

pub returns : goal.returns
unfolding mark
returns c =
    deepened_up _ _ _ c.requires c.if-name-eq0.false c.if-up.false
