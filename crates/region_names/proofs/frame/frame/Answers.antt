use Prim.Native.Nat.{◌+◌, ◌*◌, ◌≤◌}
use native.Mathlib.Omega.{arith}
use Rattle.point_darts.specs.Dart.{mark, points}
use Rattle.point_darts.proofs.Fit.{cells_fit, points_fit, frame_fit}
use Rattle.region_names.proofs.Surround.{framing_none, framing_cells, framing_room, framing_row, framing_all}
use Rattle.region_names.proofs.frame.frame.Goals.{In-loop}
use Rattle.region_names.proofs.frame.frame.Goals.at as at
use Rattle.region_names.proofs.frame.frame.Goals as goal

-- The row at hand: its cells are on the sheet, its names in the table.
module _ (l : In-loop) where
  cells_in : l.loop.from + l.args.size.width ≤ l.args.size.width * l.args.size.height
  cells_in = framing_cells _ _ _ _ _ _ _ l.loop.invariant l.loop-test.true

  names_in : l.loop.to + l.args.size.width ≤ points l.args.size.width l.args.size.height
  names_in = framing_room _ _ _ _ _ _ _ l.loop.invariant l.loop-test.true

pub loop-init : goal.loop-init
loop-init c =
    framing_none _ _ _ _ _ c.requires.2 c.clear.ensures

pub frame_row-requires : goal.frame_row-requires
unfolding mark
frame_row-requires c =
    let q = c.requires in
    let long = c.loop.invariant.filled.long in (
      omega (arith, cells_in (at.frame_row-requires c).In-loop, q.0),
      omega (arith, cells_fit _ _ c.args.size.limited, q.0),
      λ k b. q.1 k (omega (arith, q.0)),
      omega (arith, names_in (at.frame_row-requires c).In-loop, long),
      omega (arith, frame_fit _ _ c.args.size.limited, long),
    )

pub overflow_add-to-in-loop-2 : goal.overflow_add-to-in-loop-2
overflow_add-to-in-loop-2 c =
    omega (arith, names_in (at.overflow_add-to-in-loop-2 c).In-loop, points_fit _ _ c.args.size.limited)

pub loop-preserved : goal.loop-preserved
loop-preserved c =
    framing_row _ _ _ _ _ _ _ c.loop.invariant c.requires.0 c.loop-test.true _
    c.frame_row.ensures

pub returns : goal.returns
returns c = framing_all _ _ _ _ _ _ _ c.loop.invariant c.loop-test.false
