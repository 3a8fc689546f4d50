use mathlib.Core.Path.{◌≡◌, refl, sym, ap, ◌∙◌}
use mathlib.Core.List.{◌++◌}
use Prim.Native.Nat.{◌*◌}
use native.Mathlib.Omega.{arith}
use lib.ListN.{length, drop}
use Rattle.point_darts.proofs.Fit.{cells_fit}
use Rattle.paper.specs.Order.{stop}
use Rattle.table_entries.proofs.Cleared.{cleared_same}
use Rattle.table_entries.proofs.Front.{front_in, front_long, front_kept}
use Rattle.table_lengths.proofs.Tested.{stated_slots}
use Rattle.region_names.proofs.Room.{cells_part}
use Rattle.join_rule.proofs.Readiness.{front_cleared, rest_cleared}
use Rattle.join_list.proofs.Ending.{stop_ended, open_pair, regrouped_stated}
use Rattle.join_list.proofs.each.join_all.Goals.{After-regroup-end}
use Rattle.join_list.proofs.each.join_all.Goals.at as at
use Rattle.join_list.proofs.each.join_all.Goals as goal

-- the work table that is lent at its front keeps its length
fronted : (r : After-regroup-end)
    → length (r.regroup-end.new.groups ++ drop (r.args.size.width * r.args.size.height) r.args.work_a.now) ≡ length r.args.work_a.now
fronted r =
    let z = (stated_slots _ _ _ _ r.requires.1.sizes).1.1.1.1.0 in
    front_kept _ _ r.args.work_a.now z (cells_part _ _) r.regroup-end.new.groups r.regroup-end.auto.groups
    ∙ sym z

pub join_short-requires : goal.join_short-requires
join_short-requires c =
    let q = c.requires in
    (q.0, open_pair _ _ _ _ _ _ _ q.1, front_cleared _ _ _ _ q.2)

pub returns-then-names-lt-LONG : goal.returns-then-names-lt-LONG
returns-then-names-lt-LONG c =
    let (p, q) = c.join_short.ensures in
    (p, rest_cleared _ _ _ _ c.requires.2 _ _ q)

pub overflow_mul-n : goal.overflow_mul-n
overflow_mul-n c =
    omega (arith, cells_fit _ _ c.requires.1.size)

pub slice_bounds-regroup-end : goal.slice_bounds-regroup-end
slice_bounds-regroup-end c =
    front_in _ _ c.args.work_a.now (stated_slots _ _ _ _ c.requires.1.sizes).1.1.1.1.0 (cells_part _ _)

pub slice_bounds-regroup-end-2 : goal.slice_bounds-regroup-end-2
slice_bounds-regroup-end-2 c =
    sym (front_long _ _ c.args.work_a.now (stated_slots _ _ _ _ c.requires.1.sizes).1.1.1.1.0 (cells_part _ _))

pub regroup-end-requires : goal.regroup-end-requires
regroup-end-requires c =
    let o = c.requires.1 in
    let z = stated_slots _ _ _ _ o.sizes in
    let k = z.1.1.1.1 in (
      c.requires.0,
      z.1.0,
      front_long _ _ c.args.work_a.now k.0 (cells_part _ _),
      k.1.0,
      k.1.1.0,
      k.1.1.1.0,
      (_, o.drawn, refl, refl),
    )

pub draw_names-requires : goal.draw_names-requires
draw_names-requires c =
    let o = c.requires.1 in
    let k = c.regroup-end.auto in
    let g = c.regroup-end.ensures _ o.drawn refl refl in (
      regrouped_stated _ _ _ _ _ _ _ _ _ _ _ _ _ _ _ _ _ _ o.sizes k.cells (fronted (at.draw_names-requires c).After-regroup-end)
          k.list k.first k.last,
      record { labels = g.labels; round = g.round },
    )

pub returns : goal.returns
returns c =
    let o = c.requires.1 in
    let k = c.regroup-end.auto in
    let g = c.regroup-end.ensures _ o.drawn refl refl in
    let p = c.draw_names.ensures in (
      stop_ended _ _ _ _ (ap (stop _ _) (p.0 (record { labels = g.labels; round = g.round })) ∙ g.stops) _ c.told.ensures,
      p.1 ∙ cleared_same _ _ _ _ _ _ _ _ (fronted (at.returns c).After-regroup-end) k.list k.first k.last,
    )
