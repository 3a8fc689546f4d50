use Rattle.point_darts.specs.Dart.{mark}
use Rattle.table_entries.proofs.Entries.{at_entry, at_end}
use mathlib.Core.Path.{sym}
use Rattle.table_entries.proofs.entry.get.Goals as goal

pub returns-then-i-table : goal.returns-then-i-table
returns-then-i-table c = sym (at_entry _ _ c.if-i-table.true)

pub returns-else-i-table : goal.returns-else-i-table
unfolding mark
returns-else-i-table c = sym (at_end _ _ c.if-i-table.false)
