use mathlib.Core.Path.{refl}
use Rattle.join_lower.proofs.Lowering.{side_more}
use Rattle.table_entries.proofs.Half.{half_more, half_all}
use Rattle.join_lower.proofs.side.lower_sides.Goals as goal

pub loop-i-preserved : goal.loop-i-preserved
loop-i-preserved c =
    let p = c.loop-i.invariant in
    let q = c.requires in
    let h = c.loop-i-test.true in
    half_more _ _ _ _ _ p h (side_more _ _ _ _ _ _ _ p q h c.side_left.ensures)

pub returns : goal.returns
returns c = half_all _ _ _ _ _ c.loop-i.invariant refl c.loop-i-test.false
