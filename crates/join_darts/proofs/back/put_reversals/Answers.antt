use mathlib.Core.Path.{◌∙◌}
use Rattle.table_entries.proofs.Passed.{pointed_is}
use Rattle.join_darts.proofs.back.put_reversals.Goals as goal

pub returns : goal.returns
returns c =
    let q = c.reversals-four.ensures in
    c.put_four.ensures ∙ pointed_is _ _ _ _ _ _ _ q.0 q.1 q.2 q.3
