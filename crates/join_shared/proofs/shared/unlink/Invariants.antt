use mathlib.Core.Bool.{cond}
use Prim.Native.Nat.{◌-◌}
use lib.ListN.{length}
use Rattle.point_darts.specs.Dart.{mark}
use Rattle.paper.specs.Joining.{at, shared}
use Rattle.join_darts.specs.Listed.{Bounded, Chained}
use Rattle.join_shared.proofs.Treating.{Treated}
use Rattle.join_shared.proofs.Counting.{Counted}
use Rattle.join_shared.proofs.shared.unlink.Given as goal

abbrev pub invariant-loop-dart : goal.invariant-loop-dart
invariant-loop-dart l =
    ((g : Bounded l.side l.initial.next l.a l.b (length l.initial.next) l.first l.list)
    → Treated (λ d. cond (shared l.side (at l.other) l.a l.b d) mark (at l.initial.next d)) g.test l.dart l.initial.next l.next)
    × ((g : Chained (length l.initial.next) l.first l.list)
    → Counted g.test (shared l.side (at l.other) l.a l.b) (length l.initial.next) l.dart l.gone)

abbrev pub decreases-loop-dart : goal.decreases-loop-dart
decreases-loop-dart l = l.n - l.dart
