use Rattle.join_groups.proofs.Walking.{Walking}
use Rattle.join_groups.proofs.share.meets.Given as goal

abbrev pub invariant-loop : goal.invariant-loop
invariant-loop l = Walking l.width l.side l.list l.from l.y l.initial.groups l.groups l.dart l.counter
