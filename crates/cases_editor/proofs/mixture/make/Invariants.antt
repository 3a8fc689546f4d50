use Rattle.std.specs.Prelude.{◌≡◌, length}
use Rattle.cases_editor.proofs.mixture.make.Given as goal

abbrev pub invariant-loop-place : goal.invariant-loop-place
invariant-loop-place g l = length l.replies ≡ length l.initial.replies
