use native.Mathlib.Omega.{arith}
use Rattle.join_darts.proofs.Listing.{asked_none, asked_one}
use Rattle.join_darts.proofs.list.is_free.Goals as goal

pub loop-i-preserved : goal.loop-i-preserved
loop-i-preserved c =
    let (f, m) = c.loop-i.invariant in
    (asked_none _ _ _ _ _ _ (omega arith) (omega arith) f, asked_one _ _ _ _ _ _ (omega arith) (omega arith) m)
