use mathlib.Core.Path.{refl}
use Rattle.table_entries.proofs.Same.{agreed, agreed_more, same_all, same_short}
use Rattle.table_entries.proofs.entry.same.Goals as goal

pub returns-then-right-n : goal.returns-then-right-n
returns-then-right-n c = same_short _ _ c.if-right-n.true

pub loop-i-init : goal.loop-i-init
unfolding agreed
loop-i-init c = refl

pub loop-i-preserved : goal.loop-i-preserved
loop-i-preserved c = agreed_more _ _ _ _ c.loop-i.invariant

pub returns : goal.returns
returns c = same_all _ _ _ _ c.loop-i.invariant c.if-right-n.false c.loop-i-test.false
