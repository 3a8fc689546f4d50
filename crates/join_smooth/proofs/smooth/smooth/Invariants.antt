use Prim.Native.Nat.{◌-◌}
use Rattle.point_darts.specs.Dart.{slots}
use Rattle.paper.specs.Joining.{smooth, smooths}
use Rattle.join_darts.specs.Links.{links}
use Rattle.join_darts.specs.Visited.{Visited}
use Rattle.join_darts.proofs.Going.{Going}
use Rattle.join_smooth.proofs.Splicing.{smooths_none, smooths_more}
use Rattle.join_smooth.proofs.smooth.smooth.Given as goal

abbrev pub invariant-loop-dart : goal.invariant-loop-dart
invariant-loop-dart l =
    (g : Visited smooths smooth (links l.initial.next l.initial.other) (slots l.fn.size.width l.fn.size.height) l.first l.list)
    → Going smooths smooth smooths_none smooths_more l.fn.size.width l.fn.size.height (links l.initial.next l.initial.other) l.first
    l.list
    g
    l.dart
    (links l.next l.other)

abbrev pub decreases-loop-dart : goal.decreases-loop-dart
decreases-loop-dart l = l.n - l.dart
