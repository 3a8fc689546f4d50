use mathlib.Core.Path.{◌≡◌}
use mathlib.Core.Bool.{◌&&◌}
use lib.ListN.{drop}
use Rattle.laws.specs.Every.{every}
use Rattle.paper.specs.Editor.{is_editor, owned}
use Rattle.editor_answer.proofs.owners.are_owned.Given as goal

abbrev pub invariant-loop-i : goal.invariant-loop-i
invariant-loop-i l = (l.right && every is_editor (drop l.i l.owners)) ≡ owned l.owners
