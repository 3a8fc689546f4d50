use native.Mathlib.Nat.{le_refl}
use Rattle.table_entries.proofs.Entries.{at_in}
use Rattle.level_kept.proofs.Flags.{settle_entry}
use mathlib.Core.Path.{◌∙◌}
use native.Mathlib.Omega.{arith}
use Rattle.table_entries.proofs.Filled.{filled_more, filled_all}
use Rattle.level_kept.proofs.keep.settle.Goals as goal

pub loop-p-preserved : goal.loop-p-preserved
loop-p-preserved c =
    let a = c.args in
    let f = c.loop-p.invariant in
    let b = c.loop-p-test.true in
    filled_more _ _ _ _ _ f _ b
    (settle_entry a.masks.now a.tops.now a.kept.now _ _ _ _ _
    (at_in a.masks.now _ (omega (arith, c.requires.0, b)))
    (at_in a.tops.now _ (omega (arith, c.requires.1, b)))
    (f.rest _ (le_refl _) ∙ at_in a.kept.now _ (omega (arith, c.requires.2, b)))
    c.settled.ensures)

pub returns : goal.returns
returns c = filled_all _ _ _ _ _ c.loop-p.invariant c.loop-p-test.false
