use mathlib.Core.Path.{refl}
use Rattle.table_entries.proofs.Half.{half_all}
use Rattle.join_groups.proofs.group.take_one.Goals as goal

pub returns : goal.returns
returns c = half_all _ _ _ _ _ c.loop-name.invariant refl c.loop-name-test.false
