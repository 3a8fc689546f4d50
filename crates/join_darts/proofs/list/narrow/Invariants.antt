use Prim.Native.Nat.{◌-◌}
use lib.ListN.{length}
use Rattle.paper.specs.Joining.{on}
use Rattle.join_darts.specs.Listed.{Chained}
use Rattle.join_darts.proofs.Narrowing.{Narrowed}
use Rattle.join_darts.proofs.list.narrow.Given as goal

abbrev pub invariant-loop-dart : goal.invariant-loop-dart
invariant-loop-dart l =
    (g : Chained (length l.initial.list) l.first l.initial.list)
    → Narrowed g.test (on l.next) (length l.initial.list) l.initial.list l.start l.dart l.list

abbrev pub decreases-loop-dart : goal.decreases-loop-dart
decreases-loop-dart l = l.n - l.dart
