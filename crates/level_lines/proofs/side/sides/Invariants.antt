use Rattle.table_entries.proofs.Passed.{Passed}
use Rattle.level_lines.specs.Line.{entry_of}
use Rattle.level_lines.specs.Side.{beheld}
use Rattle.level_lines.proofs.side.sides.Given as goal

abbrev pub invariant-loop-p : goal.invariant-loop-p
invariant-loop-p l = Passed l.size.width l.size.height (entry_of l.masks (beheld l.size.width l.framed)) l.p l.initial.side l.side
