use Prim.Native.Nat.{◌+◌}
use Rattle.point_darts.specs.Dart.{dart}
use Rattle.table_forest.proofs.Reach.{Reached}
use Rattle.level_pieces.specs.Piece.{toward}
use Rattle.level_pieces.proofs.points.top_points.Given as goal

abbrev pub invariant-loop-p : goal.invariant-loop-p
invariant-loop-p l = Reached l.n (λ q. toward l.side (dart q 2) q 1) (λ q. toward l.side (dart q 3) q (l.size.width + 1)) l.p l.top

abbrev pub invariant-loop-p-2 : goal.invariant-loop-p-2
invariant-loop-p-2 l =
    Reached l.n (λ q. toward l.side (dart q 2) q 1) (λ q. toward l.side (dart q 3) q (l.size.width + 1)) l.p l.top
