use mathlib.Core.Path.{refl}
use native.Mathlib.Omega.{arith}
use Rattle.table_entries.proofs.Half.{half_all}
use Rattle.region_totals.proofs.total.add_up.Goals as goal

pub returns : goal.returns
returns c =
    let i = c.loop-r.invariant in
    let q = c.requires in
    let t = c.loop-r-test.false in
    (half_all _ _ _ _ _ i.cells refl t, half_all _ _ _ _ _ i.borders q.0 (omega (arith, q.0, t)))
