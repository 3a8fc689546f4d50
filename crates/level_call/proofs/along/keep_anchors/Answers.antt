use mathlib.Core.Path.{sym, ◌∙◌}
use Rattle.table_entries.proofs.Front.{front_in, front_long, front_back, back_in, back_long}
use Rattle.region_names.proofs.Room.{points_part}
use Rattle.region_parents.proofs.Rise.{tops_rising}
use Rattle.level_call.proofs.along.keep_anchors.Goals as goal

pub slice_bounds-top_points-end : goal.slice_bounds-top_points-end
slice_bounds-top_points-end c =
    let a = c.args in
    let e = c.points-n.ensures in
    front_in _ _ a.scratch.now c.requires.2 (points_part _ _ _ e)

pub slice_bounds-top_points-end-2 : goal.slice_bounds-top_points-end-2
slice_bounds-top_points-end-2 c =
    let a = c.args in
    let e = c.points-n.ensures in
    sym (front_long _ _ a.scratch.now c.requires.2 (points_part _ _ _ e))

pub top_points-requires : goal.top_points-requires
top_points-requires c =
    let a = c.args in
    let e = c.points-n.ensures in
    (c.requires.0, front_long _ _ a.scratch.now c.requires.2 (points_part _ _ _ e) ∙ e)

pub slice_bounds-keeps-end : goal.slice_bounds-keeps-end
slice_bounds-keeps-end c =
    let t = c.top_points in
    let a = c.args in
    let e = c.points-n.ensures in
    back_in _ _ a.scratch.now c.requires.2 (points_part _ _ _ e) t.new.top t.auto.top

pub slice_bounds-keeps-end-2 : goal.slice_bounds-keeps-end-2
slice_bounds-keeps-end-2 c =
    let t = c.top_points in
    let a = c.args in
    let e = c.points-n.ensures in
    sym (back_long _ _ a.scratch.now c.requires.2 (points_part _ _ _ e) t.new.top t.auto.top)

pub keeps-requires : goal.keeps-requires
keeps-requires c =
    let t = c.top_points in
    let a = c.args in
    let e = c.points-n.ensures in
    let l = back_long _ _ a.scratch.now c.requires.2 (points_part _ _ _ e) t.new.top t.auto.top in
    let f = front_back _ _ a.scratch.now c.requires.2 (points_part _ _ _ e) t.new.top t.auto.top in
    (c.requires.1, l ∙ e, c.requires.3, tops_rising _ _ _ _ (f ∙ t.ensures))
