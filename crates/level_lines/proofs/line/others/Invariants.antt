use Rattle.point_darts.specs.Dart.{reversal}
use Rattle.table_entries.proofs.Passed.{Passed}
use Rattle.level_lines.specs.Line.{entry_of}
use Rattle.level_lines.proofs.line.others.Given as goal

abbrev pub invariant-loop-p : goal.invariant-loop-p
invariant-loop-p l = Passed l.size.width l.size.height (entry_of l.masks (reversal l.size.width)) l.p l.initial.other l.other
