use Rattle.level_masks.specs.Mask.{around}
use native.Mathlib.Omega.{arith}
use Prim.Native.Nat.{◌+◌}
use mathlib.Core.Path.{◌≡◌}
use Rattle.level_masks.proofs.mask.around.Goals as goal

pub returns : goal.returns
unfolding around
returns c =
    let a = c.args in
    let e : a.p + (a.width + 1) + 1 ≡ a.p + (a.width + 2) = omega arith in
    rw e
