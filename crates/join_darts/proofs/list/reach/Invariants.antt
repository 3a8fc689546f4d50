use Prim.Native.Nat.{◌-◌}
use lib.ListN.{length}
use Rattle.paper.specs.Joining.{on}
use Rattle.join_darts.specs.Listed.{Walked}
use Rattle.join_darts.proofs.Narrowing.{Reached}
use Rattle.join_darts.proofs.list.reach.Given as goal

abbrev pub invariant-loop-dart : goal.invariant-loop-dart
invariant-loop-dart l = (g : Walked (length l.list) l.from l.list) → Reached g.test (on l.next) (length l.list) g.start l.dart

abbrev pub decreases-loop-dart : goal.decreases-loop-dart
decreases-loop-dart l = l.n - l.dart
