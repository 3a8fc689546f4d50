use Rattle.point_darts.specs.Dart.{reversal}
use Rattle.table_entries.proofs.Passed.{Passed}
use Rattle.join_darts.proofs.back.fill_reversals.Given as goal

abbrev pub invariant-loop-point : goal.invariant-loop-point
invariant-loop-point l = Passed l.fn.size.width l.fn.size.height (reversal l.fn.size.width) l.point l.initial.back l.back
