use mathlib.Core.Path.{refl}
use Prim.Native.Nat.{◌-◌}
use Rattle.paper.specs.Editor.{owned}
use Rattle.editor_answer.proofs.Owning.{owned_more, owned_all}
use Rattle.editor_answer.proofs.owners.are_owned.Goals as goal

pub loop-i-init : goal.loop-i-init
unfolding owned
loop-i-init c = refl

pub loop-i-preserved : goal.loop-i-preserved
loop-i-preserved c =
    owned_more _ c.loop-i.right _ c.loop-i.invariant _ c.is_editor-right.ensures c.loop-i-test.true

pub returns : goal.returns
returns c = owned_all _ _ _ c.loop-i.invariant c.loop-i-test.false
