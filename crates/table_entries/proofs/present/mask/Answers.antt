use native.Mathlib.Omega.{arith}
use Rattle.point_darts.specs.Dart.{dart}
use Rattle.table_entries.proofs.Masked.{read_dart}
use Rattle.table_entries.proofs.present.mask.Goals as goal

pub returns : goal.returns
unfolding dart
returns c =
    let e = c.first_slot-i.ensures in
    c.mask_of.ensures _ _ (read_dart _ _ 0 _ (omega arith) (omega arith)) (read_dart _ _ 1 _ (omega arith) (omega arith))
    (read_dart _ _ 2 _ (omega arith) (omega arith)) (read_dart _ _ 3 _ (omega arith) (omega arith))
