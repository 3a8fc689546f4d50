use Rattle.count_turns.proofs.Taking.{Going}
use Rattle.count_turns.proofs.turns.run.Given as goal

abbrev pub invariant-loop : goal.invariant-loop
invariant-loop l = Going l.steps l.next l.end l.start l.counter l.right l.left l.dart l.after
