use mathlib.Core.Path.{sym, ap, ◌∙◌}
use Prim.Native.Nat.{◌≤◌}
use native.Mathlib.Omega.{arith}
use lib.ListN.{length, take}
use lib.Seq.{length-take-le}
use Rattle.point_darts.specs.Dart.{slots}
use Rattle.paper.specs.Enclosure.{parents}
use Rattle.paper.specs.Joining.{on}
use Rattle.region_parents.proofs.Rise.{tops_rising}
use Rattle.join_rule.proofs.Applying.{pair_cleared}
use Rattle.join_rule.proofs.apply.find_parents.Goals.{After-points-n}
use Rattle.join_rule.proofs.apply.find_parents.Goals.at as at
use Rattle.join_rule.proofs.apply.find_parents.Goals as goal

-- The tops are a front of the table.
tops_room : (c : After-points-n) → c.points-n.result ≤ length c.args.back.now
unfolding slots
tops_room c = omega (arith, c.requires.2, c.points-n.ensures)

pub slice_bounds-find_parents-end : goal.slice_bounds-find_parents-end
slice_bounds-find_parents-end c = tops_room c

pub slice_bounds-find_parents-end-2 : goal.slice_bounds-find_parents-end-2
slice_bounds-find_parents-end-2 c = sym (length-take-le _ _ (tops_room (at.slice_bounds-find_parents-end-2 c).After-points-n))

pub find_parents-requires : goal.find_parents-requires
find_parents-requires c =
    let q = c.requires in
    let a = c.args in
    let e = c.points-n.ensures in (
      length-take-le _ _ (tops_room (at.find_parents-requires c).After-points-n) ∙ e,
      tops_rising _ _ (on a.side1.now) _ (ap (λ n. take n a.back.now) e ∙ q.3),
      q.1,
      q.0,
    )

pub returns : goal.returns
unfolding parents
returns c = (
  rw (c.points-n.ensures, c.requires.3) at c.find_parents.ensures,
  pair_cleared _ _ _ _ c.clear.ensures c.clear-2.ensures,
)
