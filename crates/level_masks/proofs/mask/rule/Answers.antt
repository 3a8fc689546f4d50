use Rattle.sheet_size.proofs.Limit.{within_limits}
use Rattle.point_darts.proofs.Fit.{points_fit}
use Rattle.level_masks.proofs.Ruling.{ruling_column, ruling_row, ruling_on, ruling_down, ruling_all}
use native.Mathlib.Omega.{arith}
use Prim.Native.Nat.{◌<◌}
use Rattle.point_darts.specs.Dart.{points}
use Rattle.level_masks.proofs.mask.rule.Goals.{then-size-x, else-size-x}
use Rattle.level_masks.proofs.mask.rule.Goals as goal

pub overflow_add-x : goal.overflow_add-x
overflow_add-x c =
    omega (
      arith,
      ruling_column _ _ _ _ _ _ _ c.loop-i.invariant,
      within_limits _ _ c.args.size.limited,
    )

pub overflow_add-y : goal.overflow_add-y
overflow_add-y c =
    omega (
      arith,
      ruling_row _ _ _ _ _ _ _ c.loop-i.invariant,
      c.loop-i-test.true,
      c.requires,
      points_fit _ _ c.args.size.limited,
    )

pub loop-i-preserved : goal.loop-i-preserved
loop-i-preserved c =
    let b : c.loop-i.i < points c.args.size.width c.args.size.height = omega (arith, c.loop-i-test.true, c.requires) in
    elim c.if-size-x.branch [
      | then-size-x w ↦ rw (w.x-is, w.y-is)
          (ruling_down _ _ _ _ _ _ _ c.loop-i.invariant _ b c.ruling.ensures w.if-size-x.true)
      | else-size-x w ↦ rw (w.x-is, w.y-is)
          (ruling_on _ _ _ _ _ _ _ c.loop-i.invariant _ b c.ruling.ensures w.if-size-x.false)
    ]

pub returns : goal.returns
returns c =
    ruling_all _ _ _ _ _ _ _ c.loop-i.invariant (omega (
      arith,
      c.loop-i-test.false,
      c.requires,
    ))
