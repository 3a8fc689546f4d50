use Prim.Native.Nat.{◌-◌}
use Rattle.point_darts.specs.Dart.{slots}
use Rattle.paper.specs.Joining.{on, close, closes}
use Rattle.join_darts.specs.Links.{links}
use Rattle.join_darts.specs.Visited.{Visited}
use Rattle.join_darts.proofs.Going.{Going}
use Rattle.join_close.proofs.Closing.{closes_none, closes_more}
use Rattle.join_close.proofs.close.close.Given as goal

abbrev pub invariant-loop-dart : goal.invariant-loop-dart
invariant-loop-dart l =
    (g : Visited (closes (on l.lines) l.tops) (close (on l.lines) l.tops) (links l.initial.next l.initial.other)
    (slots l.fn.size.width l.fn.size.height) l.first l.list)
    → Going (closes (on l.lines) l.tops) (close (on l.lines) l.tops) (closes_none (on l.lines) l.tops) (closes_more (on l.lines) l.tops)
    l.fn.size.width
    l.fn.size.height
    (links l.initial.next l.initial.other)
    l.first
    l.list
    g
    l.dart
    (links l.next l.other)

abbrev pub decreases-loop-dart : goal.decreases-loop-dart
decreases-loop-dart l = l.n - l.dart
