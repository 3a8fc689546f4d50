use mathlib.Core.Path.{◌≡◌, ◌∙◌}
use Prim.Native.Nat.{◌+◌, ◌*◌, ◌≤◌, ◌<◌}
use native.Mathlib.Omega.{arith}
use lib.ListN.{length, length-set}
use Rattle.point_darts.specs.Dart.{mark, points, slots, dart}
use Rattle.point_darts.proofs.Fit.{cells_fit, points_fit}
use Rattle.region_parents.proofs.Corner.{parented_none, corners_in, names_in, parented_row, parented_all}
use Rattle.region_parents.proofs.parent.find_parents.Goals.{In-loop}
use Rattle.region_parents.proofs.parent.find_parents.Goals.at as at
use Rattle.region_parents.proofs.parent.find_parents.Goals as goal

-- The row at hand: its corners are points, its names in the table.
module _ (l : In-loop) where
  corners : l.loop.corner + l.args.size.width < points l.args.size.width l.args.size.height
  corners = corners_in _ _ _ _ _ _ _ _ _ l.loop.invariant l.loop-test.true

  names : l.loop.name + l.args.size.width ≤ l.args.size.width * l.args.size.height + 1
  names = names_in _ _ _ _ _ _ _ _ _ l.loop.invariant l.loop-test.true

  long : length l.loop.parents ≡ l.args.size.width * l.args.size.height + 1
  long = l.loop.invariant.half.long ∙ rw length-set l.requires.2

pub loop-init : goal.loop-init
unfolding mark
loop-init c =
    parented_none _ _ _ _ c.args.parents.now (omega (arith, c.requires.2))

pub parents_row-requires : goal.parents_row-requires
unfolding mark dart slots
parents_row-requires c =
    let q = c.requires in (
      omega (arith, corners (at.parents_row-requires c).In-loop, q.3),
      omega (arith, points_fit _ _ c.args.size.limited, q.3),
      omega (arith, corners (at.parents_row-requires c).In-loop, q.0),
      q.1,
      omega (arith, names (at.parents_row-requires c).In-loop, long (at.parents_row-requires c).In-loop),
      omega (arith, cells_fit _ _ c.args.size.limited, long (at.parents_row-requires c).In-loop),
    )

pub overflow_add-corner : goal.overflow_add-corner
overflow_add-corner c =
    omega (arith, corners (at.overflow_add-corner c).In-loop, points_fit _ _ c.args.size.limited)

pub overflow_add-corner-in-loop : goal.overflow_add-corner-in-loop
overflow_add-corner-in-loop c =
    omega (arith, corners (at.overflow_add-corner-in-loop c).In-loop, points_fit _ _ c.args.size.limited)

pub overflow_add-name : goal.overflow_add-name
overflow_add-name c =
    omega (arith, names (at.overflow_add-name c).In-loop, cells_fit _ _ c.args.size.limited)

pub loop-preserved : goal.loop-preserved
loop-preserved c =
    parented_row _ _ _ _ _ _ _ _ _ c.loop.invariant c.loop-test.true (rw length-set c.requires.2) _
    c.parents_row.ensures

pub returns : goal.returns
returns c =
    parented_all _ _ _ _ _ _ _ _ _ c.loop.invariant (rw length-set c.requires.2)
    c.loop-test.false
