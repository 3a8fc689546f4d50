use Prim.Native.Nat.{◌-◌}
use lib.ListN.{length}
use Rattle.join_darts.specs.Links.{links}
use Rattle.join_shared.specs.Led.{led}
use Rattle.join_darts.specs.Listed.{Bounded}
use Rattle.join_shared.proofs.Treating.{Treated}
use Rattle.join_shared.proofs.shared.lead.Given as goal

abbrev pub invariant-loop-dart : goal.invariant-loop-dart
invariant-loop-dart l =
    (g : Bounded l.side l.initial.next l.a l.b (length l.initial.next) l.first l.list)
    → Treated (led l.side (links l.initial.next l.other) l.a l.b) g.test l.dart l.initial.next l.next

abbrev pub decreases-loop-dart : goal.decreases-loop-dart
decreases-loop-dart l = l.n - l.dart
