use native.Mathlib.Nat.{le_refl}
use Rattle.table_entries.proofs.Entries.{trim_entry}
use Rattle.table_entries.specs.Trim.{trimmed}
use native.Mathlib.Omega.{arith}
use Rattle.table_entries.proofs.Filled.{filled_more, filled_all}
use Rattle.point_darts.specs.Dart.{mark}
use Rattle.table_entries.proofs.entry.trim.Goals as goal

pub loop-i-preserved : goal.loop-i-preserved
unfolding mark
loop-i-preserved c =
    let f = c.loop-i.invariant in
    filled_more _ _ _ _ _ f _ c.loop-i-test.true (trim_entry c.args.links.now c.args.table.now c.loop-i.table _ _ (omega (
      arith,
      c.requires,
      c.loop-i-test.true,
    )) c.loop-i-test.true (f.rest _ (le_refl _)) c.mark_where.ensures)

pub returns : goal.returns
unfolding trimmed
returns c = filled_all _ _ _ _ _ c.loop-i.invariant (omega arith)
