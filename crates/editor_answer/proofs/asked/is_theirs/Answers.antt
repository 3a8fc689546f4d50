use Rattle.point_darts.specs.Dart.{mark}
use Rattle.editor_answer.proofs.Asking.{theirs_other, theirs_present}
use Rattle.editor_answer.proofs.asked.is_theirs.Goals as goal

pub returns-then-get-editor : goal.returns-then-get-editor
returns-then-get-editor c = theirs_other _ _ _ _ _ c.get.ensures c.if-get-editor.true

pub returns : goal.returns
unfolding mark
returns c = theirs_present _ _ _ _ _ c.get.ensures c.if-get-editor.false _ c.get-2.ensures
