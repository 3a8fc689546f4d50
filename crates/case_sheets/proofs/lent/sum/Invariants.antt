use Rattle.std.specs.Prelude.{◌<◌}
use Rattle.case_sheets.proofs.lent.sum.Given as goal

abbrev pub invariant-loop-entry : goal.invariant-loop-entry
invariant-loop-entry l = l.sum < 1000003
