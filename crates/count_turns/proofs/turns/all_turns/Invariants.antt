use Rattle.point_rules.specs.Turn.{is_right, is_left}
use Rattle.table_entries.proofs.Filled.{Filled}
use Rattle.count_turns.specs.Turns.{turns_at}
use Rattle.count_turns.proofs.turns.all_turns.Given as goal

abbrev pub invariant-loop-d : goal.invariant-loop-d
invariant-loop-d l =
    Filled l.n (turns_at l.n l.next1 l.next3 l.other3 is_right is_left) l.d l.initial.right l.right
    × Filled l.n (turns_at l.n l.next1 l.next3 l.other3 is_left is_right) l.d l.initial.left l.left
