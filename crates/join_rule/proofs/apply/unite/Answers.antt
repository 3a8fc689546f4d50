use mathlib.Core.Path.{◌≡◌, refl, sym, ◌∙◌}
use Prim.Native.Nat.{◌≤◌}
use native.Mathlib.Omega.{arith}
use lib.ListN.{length}
use lib.Seq.{length-take-le}
use Rattle.point_darts.specs.Dart.{slots}
use Rattle.paper.specs.Joining.{rest1, rest3}
use Rattle.paper_laws.proofs.Marks.{within_fits}
use Rattle.table_lengths.proofs.Tested.{stated_slots}
use Rattle.table_entries.proofs.Front.{front_back}
use Rattle.join_darts.specs.Listed.{bounds, Chained}
use Rattle.join_darts.proofs.Listing.{bounded_on}
use Rattle.join_rule.proofs.Applying.{all_joined}
use Rattle.join_rule.proofs.Visiting.{list_visits}
use Rattle.join_rule.proofs.apply.unite.Goals.{After-list_darts-first, After-narrow-first3, After-points-n}
use Rattle.join_rule.proofs.apply.unite.Goals.at as at
use Rattle.join_rule.proofs.apply.unite.Goals as goal

-- The list is as long as the work table that it stands in.
list_long : (c : After-list_darts-first)
    → length c.list_darts-first.new.list ≡ slots c.args.size.width c.args.size.height
list_long c =
    let z = stated_slots _ _ _ _ c.requires.sizes in
    c.list_darts-first.auto.list ∙ z.1.1.1.1.1.0

-- It has the darts of a and b.
abbrev lined_bounds : (c : After-list_darts-first)
    → Chained (length c.list_darts-first.new.list) c.list_darts-first.result c.list_darts-first.new.list
lined_bounds c =
    let a = c.args in
    record {
      test = bounds a.side1.now a.a a.b;
      list = rw c.list_darts-first.auto.list c.list_darts-first.ensures;
    }

narrow_long : (c : After-narrow-first3)
    → length c.narrow-first3.new.list
    ≡ slots c.args.size.width c.args.size.height
narrow_long c = c.narrow-first3.auto.list ∙ list_long (at.After-narrow-first3 c).After-list_darts-first

-- The table of reversals has room for the tops.
work_room : (c : After-points-n)
    → c.points-n.result ≤ length c.remove_plain_shared-gone.new.back
unfolding slots
work_room c =
    let z = stated_slots _ _ _ _ c.requires.sizes in
    omega (arith, c.remove_plain_shared-gone.auto.back, z.1.1.1.1.0, c.points-n.ensures)

pub list_darts-first-requires : goal.list_darts-first-requires
list_darts-first-requires c =
    let q = c.requires in
    let z = stated_slots _ _ _ _ q.sizes in
    (z.1.0 ∙ sym z.1.1.1.1.1.0, omega (arith, z.1.1.1.1.1.0, within_fits _ _ q.size))

pub remove_plain_shared-gone-requires : goal.remove_plain_shared-gone-requires
remove_plain_shared-gone-requires c =
    let q = c.requires in
    let z = stated_slots _ _ _ _ q.sizes in (
      q.first,
      q.second,
      z.1.0,
      list_long (at.remove_plain_shared-gone-requires c).After-list_darts-first,
      z.0,
      z.1.1.1.1.0,
      rw z.1.1.1.1.1.0 at c.list_darts-first.ensures,
      q.plain,
    )

pub narrow-first3-requires : goal.narrow-first3-requires
narrow-first3-requires c =
    let q = c.requires in
    let z = stated_slots _ _ _ _ q.sizes in
    let e = list_long (at.narrow-first3-requires c).After-list_darts-first in (
      omega (arith, e, within_fits _ _ q.size),
      z.1.1.0 ∙ sym e,
      lined_bounds (at.narrow-first3-requires c).After-list_darts-first,
    )

pub remove_shared-requires : goal.remove_shared-requires
remove_shared-requires c =
    let q = c.requires in
    let l = (at.remove_shared-requires c).After-list_darts-first in
    let z = stated_slots _ _ _ _ q.sizes in (
      within_fits _ _ q.size,
      q.first,
      q.second,
      z.1.0,
      narrow_long (at.remove_shared-requires c).After-narrow-first3,
      z.1.1.0,
      z.1.1.1.0,
      bounded_on _ _ _ _ _ _ _ (rw (list_long l) at (c.narrow-first3.ensures (lined_bounds l))),
      q.curves,
      q.bare,
    )

pub slice_bounds-settle-end : goal.slice_bounds-settle-end
slice_bounds-settle-end c = work_room (at.slice_bounds-settle-end c).After-points-n

pub slice_bounds-settle-end-2 : goal.slice_bounds-settle-end-2
slice_bounds-settle-end-2 c = sym (length-take-le _ _ (work_room (at.slice_bounds-settle-end-2 c).After-points-n))

pub settle-requires : goal.settle-requires
unfolding rest1 rest3
settle-requires c =
    let q = c.requires in
    let l = (at.settle-requires c).After-list_darts-first in
    let z = stated_slots _ _ _ _ q.sizes in (
      c.remove_plain_shared-gone.auto.next ∙ z.0,
      z.1.0,
      c.remove_shared.auto.next ∙ z.1.1.0,
      length-take-le _ _ (work_room (at.settle-requires c).After-points-n) ∙ c.points-n.ensures,
      narrow_long (at.settle-requires c).After-narrow-first3,
      list_visits _ _ _ _ _ _ _ q.still (rw (list_long l) at (c.narrow-first3.ensures (lined_bounds l))) _ _
          c.remove_plain_shared-gone.ensures.0 c.remove_shared.ensures,
    )

pub returns : goal.returns
returns c =
    let z = stated_slots _ _ _ _ c.requires.sizes in
    let steps = all_joined _ _ _ _ _ _ _ _ _ _ c.requires.first c.requires.second z.1.0 c.requires.sided _ _ _ _ _ _ _
    c.remove_plain_shared-gone.ensures.0 c.remove_shared.ensures c.settle.ensures.0 c.settle.ensures.1 _
    (c.remove_plain_shared-gone.ensures.1 ∙ c.requires.sums.twice) c.add_totals.ensures in (
      steps.0,
      rw (← c.points-n.ensures)
          (front_back _ _ _ refl (work_room (at.returns c).After-points-n) _ c.settle.auto.top)
          ∙ c.settle.ensures.2
          ∙ steps.1,
    )
