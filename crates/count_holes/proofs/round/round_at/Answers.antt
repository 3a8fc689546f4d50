use Prim.Native.Nat.{◌+◌, ◌<◌}
use native.Mathlib.Omega.{arith}
use lib.ListN.{length}
use Rattle.point_darts.specs.Dart.{mark, dart}
use Rattle.count_holes.proofs.Rounding.{round_own, round_none}
use Rattle.count_holes.proofs.round.round_at.Goals.{After-first_slot}
use Rattle.count_holes.proofs.round.round_at.Goals.at as at
use Rattle.count_holes.proofs.round.round_at.Goals as goal

-- The slot of the dart that leads back is in the table.
module _ (f : After-first_slot) where
  back_in : f.first_slot.result + 2 < length f.args.side.now
  unfolding dart
  back_in = omega (arith, f.first_slot.ensures, f.requires.0)

pub overflow_add-p : goal.overflow_add-p
unfolding mark dart
overflow_add-p c = omega (arith, c.requires.0)

pub overflow_add-round : goal.overflow_add-round
unfolding mark
overflow_add-round c = omega (arith, back_in c, c.requires.1)

pub offset_bounds-side-first_slot : goal.offset_bounds-side-first_slot
unfolding mark
offset_bounds-side-first_slot c = omega (arith, back_in c, c.requires.1)

pub bounds-side-first_slot : goal.bounds-side-first_slot
bounds-side-first_slot c = omega (arith, back_in (at.bounds-side-first_slot c).After-first_slot)

pub returns-then-tops-p : goal.returns-then-tops-p
returns-then-tops-p c =
    round_own _ _ _ c.if-tops-p.true _ c.first_slot.ensures (back_in (at.returns-then-tops-p c).After-first_slot)

pub returns-else-tops-p : goal.returns-else-tops-p
unfolding mark
returns-else-tops-p c = round_none _ _ _ c.if-tops-p.false
