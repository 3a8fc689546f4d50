use Rattle.table_entries.proofs.Cleared.{cleared_four}
use Rattle.table_entries.proofs.entry.clear_four.Goals as goal

pub returns : goal.returns
returns c =
    cleared_four _ _ _ _ _ _ _ _ c.clear.ensures c.clear-2.ensures c.clear-3.ensures
    c.clear-4.ensures
