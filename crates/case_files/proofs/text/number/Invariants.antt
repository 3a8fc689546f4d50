use Rattle.std.specs.Prelude.{◌<◌}
use Rattle.case_files.proofs.text.number.Given as goal

abbrev pub invariant-loop-i : goal.invariant-loop-i
invariant-loop-i l = l.value < 1000000
