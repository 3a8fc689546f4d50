use mathlib.Core.Path.{sym, ◌∙◌}
use Prim.Native.Nat.{◌≤◌}
use native.Mathlib.Omega.{arith}
use lib.ListN.{length}
use lib.Seq.{length-take-le}
use Rattle.point_darts.specs.Dart.{slots}
use Rattle.count_holes.proofs.holes.holes.Goals.{After-points-n}
use Rattle.count_holes.proofs.holes.holes.Goals.at as at
use Rattle.count_holes.proofs.holes.holes.Goals as goal

-- The work table has room for the tops.
room : (c : After-points-n) → c.points-n.result ≤ length c.args.work.now
unfolding slots
room c = omega (arith, c.points-n.ensures, c.requires.1)

pub slice_bounds-find-end : goal.slice_bounds-find-end
slice_bounds-find-end c = room c

pub slice_bounds-find-end-2 : goal.slice_bounds-find-end-2
slice_bounds-find-end-2 c = sym (length-take-le _ _ (room (at.slice_bounds-find-end-2 c).After-points-n))

pub find-count-requires : goal.find-count-requires
find-count-requires c =
    let q = c.requires in
    (q.0, length-take-le _ _ (room (at.find-count-requires c).After-points-n) ∙ c.points-n.ensures, q.2)
