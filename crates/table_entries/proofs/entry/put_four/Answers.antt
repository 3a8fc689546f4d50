use Rattle.table_entries.proofs.Passed.{four_is}
use Rattle.table_entries.proofs.entry.put_four.Goals as goal

pub returns : goal.returns
returns c = four_is _ _ _ _ _ _ _ c.first_slot-i.ensures
