use mathlib.Core.Path.{sym, ◌∙◌}
use Prim.Native.Nat.{◌≤◌}
use native.Mathlib.Omega.{arith}
use lib.ListN.{length}
use lib.Seq.{length-take-le, length_front}
use Rattle.point_darts.specs.Dart.{slots}
use Rattle.paper.specs.Level.{tops}
use Rattle.paper.specs.Joining.{on}
use Rattle.count_holes.specs.Round.{pieces}
use Rattle.count_holes.proofs.Counting.{trimmed_counts}
use Rattle.count_holes.proofs.holes.all_holes.Goals.{After-points-n}
use Rattle.count_holes.proofs.holes.all_holes.Goals.at as at
use Rattle.count_holes.proofs.holes.all_holes.Goals as goal

-- The work table has room for the tops.
room : (c : After-points-n) → c.points-n.result ≤ length c.args.work.now
unfolding slots
room c = omega (arith, c.points-n.ensures, c.requires.1)

pub slice_bounds-find_all-end : goal.slice_bounds-find_all-end
slice_bounds-find_all-end c = room (at.slice_bounds-find_all-end c).After-points-n

pub slice_bounds-find_all-end-2 : goal.slice_bounds-find_all-end-2
slice_bounds-find_all-end-2 c = sym (length-take-le _ _ (room (at.slice_bounds-find_all-end-2 c).After-points-n))

pub find_all-requires : goal.find_all-requires
find_all-requires c =
    let q = c.requires in
    (q.0, omega (arith, q.4, q.3), length-take-le _ _ (room (at.find_all-requires c).After-points-n) ∙ c.points-n.ensures)

pub returns : goal.returns
returns c =
    let a = c.args in
    let q = c.requires in
    let long = length_front a.work.now c.find_all.new.top c.points-n.result c.find_all.auto.top in
    let rounds = pieces a.side.now (tops a.size.width a.size.height (on a.side.now)) in
    (trimmed_counts rounds _ _ (rw q.4 at c.find_all.ensures.0) q.2 _ c.trim.ensures, rw long at c.clear.ensures)
