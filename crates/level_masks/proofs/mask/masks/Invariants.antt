use Rattle.point_darts.specs.Dart.{points}
use Rattle.point_darts.specs.Point.{present}
use Rattle.table_entries.proofs.Filled.{Filled}
use Rattle.level_masks.specs.Mask.{around}
use Rattle.level_masks.proofs.mask.masks.Given as goal

abbrev pub invariant-loop-p : goal.invariant-loop-p
invariant-loop-p l = Filled (points l.size.width l.size.height) (λ q. present (around l.size.width l.framed q)) l.p l.initial.masks l.masks
