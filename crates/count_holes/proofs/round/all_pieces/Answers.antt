use mathlib.Core.Path.{refl}
use native.Mathlib.Omega.{arith}
use lib.ListN.{length}
use Rattle.point_darts.specs.Dart.{mark, dart}
use Rattle.count_holes.proofs.Rounding.{tallied_none, tallied_past, tallied_more, tallied_all, rounded_le}
use Rattle.count_holes.proofs.round.all_pieces.Goals.{then-round-n, else-round-n}
use Rattle.count_holes.proofs.round.all_pieces.Goals as goal

pub overflow_cast-last : goal.overflow_cast-last
unfolding mark
overflow_cast-last c =
    let z = c.requires.0 in
    omega (arith, z.four, z.fits)

pub loop-p-init : goal.loop-p-init
loop-p-init c =
    let a = c.args in
    tallied_none _ _ _ (length a.tally.now) _ c.clear.ensures refl

pub round_at-round-requires : goal.round_at-round-requires
unfolding dart
round_at-round-requires c =
    let z = c.requires.0 in
    (omega (arith, z.four), z.fits, omega arith)

pub overflow_add-tally : goal.overflow_add-tally
unfolding mark
overflow_add-tally c =
    let a = c.args in
    let z = c.requires.0 in
    let r = c.round_at-round.result in
    omega (arith, c.loop-p.invariant.entry r c.if-round-n.true, rounded_le a.side.now a.tops.now r c.loop-p.p, z.four, z.fits)

pub loop-p-preserved : goal.loop-p-preserved
loop-p-preserved c =
    let f = c.loop-p.invariant in
    let e = c.round_at-round.ensures in
    elim c.if-round-n.branch [
      | then-round-n w ↦ rw w.tally-is (tallied_more _ _ _ _ _ _ f e w.if-round-n.true)
      | else-round-n w ↦ rw w.tally-is (tallied_past _ _ _ _ _ _ f e w.if-round-n.false)
    ]

pub returns : goal.returns
returns c =
    let q = c.requires in
    let k = c.clear.auto.table in
    rw k at (tallied_all _ _ _ q.0 (omega (arith, k, q.1)) _ _ c.loop-p.invariant (omega arith))
