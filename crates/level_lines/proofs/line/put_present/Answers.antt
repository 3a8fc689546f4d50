use mathlib.Core.Path.{sym}
use Rattle.table_entries.proofs.Entries.{at_entry}
use Rattle.level_lines.proofs.Pointing.{present_is}
use Rattle.level_lines.proofs.line.put_present.Goals as goal

pub returns : goal.returns
returns c =
    present_is _ _ _ _ _ _ _ _ _ _ _ _ _ (sym (at_entry _ _ c.requires.0))
    c.where_present-east.ensures c.where_present-south.ensures c.where_present-west.ensures
    c.where_present-north.ensures c.put_four.ensures
