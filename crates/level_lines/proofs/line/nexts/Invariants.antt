use Rattle.table_entries.proofs.Passed.{Passed}
use Rattle.level_lines.specs.Line.{onward, entry_of}
use Rattle.level_lines.proofs.line.nexts.Given as goal

abbrev pub invariant-loop-p : goal.invariant-loop-p
invariant-loop-p l =
    Passed l.size.width l.size.height (entry_of l.masks (onward l.size.width l.masks)) l.p l.initial.next l.next

abbrev pub invariant-loop-p-2 : goal.invariant-loop-p-2
invariant-loop-p-2 l =
    Passed l.size.width l.size.height (entry_of l.masks (onward l.size.width l.masks)) l.p l.initial.next l.next

abbrev pub invariant-loop-p-3 : goal.invariant-loop-p-3
invariant-loop-p-3 l =
    Passed l.size.width l.size.height (entry_of l.masks (onward l.size.width l.masks)) l.p l.initial.next l.next
