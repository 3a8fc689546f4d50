use Rattle.level_call.proofs.Tables.{plain_tables_lem}
use Rattle.level_call.proofs.plain.plain.Goals as goal

pub returns : goal.returns
returns c =
    plain_tables_lem _ _ _ _ _ _ c.nexts.ensures c.sides.ensures _ _ c.requires.0 c.draft.ensures c.others.ensures
