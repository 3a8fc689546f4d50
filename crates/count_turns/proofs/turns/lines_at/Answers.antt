use native.Mathlib.Omega.{arith}
use Rattle.point_darts.specs.Dart.{dart}
use Rattle.count_turns.proofs.Taking.{mask_past}
use Rattle.count_turns.proofs.turns.lines_at.Goals as goal

pub mask-requires : goal.mask-requires
unfolding dart
mask-requires c =
    let (p, e) = c.requires.0 in
    (omega (arith, c.requires.1), omega arith)

pub returns : goal.returns
returns c = mask_past c.args.table.now _ (rw c.first_slot.ensures at c.if-first_slot-table.false)
