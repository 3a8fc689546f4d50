use native.Mathlib.Omega.{arith}
use Rattle.point_darts.specs.Dart.{mark, dart}
use Rattle.count_holes.proofs.Rounding.{rounded_none, rounded_more, rounded_same, rounded_le, rounded_all}
use Rattle.count_holes.proofs.round.pieces_of.Goals.{then-round-name, else-round-name}
use Rattle.count_holes.proofs.round.pieces_of.Goals as goal

pub overflow_cast-last : goal.overflow_cast-last
unfolding mark
overflow_cast-last c = let z = c.requires.0 in omega (arith, z.four, z.fits)

pub loop-p-init : goal.loop-p-init
loop-p-init c = rounded_none _ _ _

pub round_at-round-requires : goal.round_at-round-requires
unfolding dart
round_at-round-requires c =
    let z = c.requires.0 in
    (omega (arith, z.four), z.fits, omega arith)

pub overflow_add-count : goal.overflow_add-count
unfolding mark
overflow_add-count c =
    let a = c.args in
    let z = c.requires.0 in
    let b = rounded_le a.side.now a.tops.now a.name c.loop-p.p in
    elim c.if-round-name.branch [
      | then-round-name w ↦ omega (arith, b, z.four, z.fits)
      | else-round-name w ↦ omega (arith, b, z.four, z.fits)
    ]

pub loop-p-preserved : goal.loop-p-preserved
loop-p-preserved c =
    let n = c.loop-p.invariant in
    elim c.if-round-name.branch [
      | then-round-name w ↦ omega (arith, rounded_more _ _ _ _ _ _ n c.round_at-round.ensures w.if-round-name.true)
      | else-round-name w ↦ omega (arith, rounded_same _ _ _ _ _ _ n c.round_at-round.ensures w.if-round-name.false)
    ]

pub returns : goal.returns
returns c =
    let q = c.requires in
    rounded_all _ _ q.0 _ _ _ q.1 c.loop-p.invariant (omega arith)
