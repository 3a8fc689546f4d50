use native.Mathlib.Omega.{arith}
use Rattle.table_entries.proofs.Filled.{filled_all}
use Rattle.level_masks.specs.Mask.{masked}
use Rattle.level_masks.proofs.mask.masks.Goals as goal

pub returns : goal.returns
unfolding masked
returns c = filled_all _ _ _ _ _ c.loop-p.invariant (omega (arith, c.points-n.ensures, c.loop-p-test.false))
