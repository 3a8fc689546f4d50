use borrow.Author.Tests.{eq-eqb, ne_eqb}
use Rattle.point_darts.specs.Dart.{mark}
use Rattle.table_entries.proofs.Entries.{at_in}
use Rattle.check_call.specs.Label.{label_at}
use Rattle.check_call.proofs.labels.label_at.Goals as goal

pub returns-then-label : goal.returns-then-label
unfolding label_at mark
returns-then-label c = rw (← at_in _ _ c.requires, eq-eqb _ _ c.if-label.true)

pub returns-else-label : goal.returns-else-label
unfolding label_at mark
returns-else-label c = rw (← at_in _ _ c.requires, ne_eqb _ _ c.if-label.false)
