use mathlib.Core.Path.{sym, ◌∙◌}
use Rattle.table_entries.proofs.Front.{front_in, front_long, front_back, back_in, back_long}
use Rattle.region_names.proofs.Room.{points_part}
use Rattle.region_parents.proofs.Rise.{tops_rising}
use Rattle.drawing.proofs.parts.keep_points.Goals as goal

pub slice_bounds-top_points-end : goal.slice_bounds-top_points-end
slice_bounds-top_points-end c =
    let e = c.points-n.ensures in
    front_in _ _ c.args.top.now c.requires.2 (points_part _ _ _ e)

pub slice_bounds-top_points-end-2 : goal.slice_bounds-top_points-end-2
slice_bounds-top_points-end-2 c =
    let e = c.points-n.ensures in
    sym (front_long _ _ c.args.top.now c.requires.2 (points_part _ _ _ e))

pub top_points-requires : goal.top_points-requires
top_points-requires c =
    let e = c.points-n.ensures in
    (c.requires.0, front_long _ _ c.args.top.now c.requires.2 (points_part _ _ _ e) ∙ e)

pub slice_bounds-keeps-end : goal.slice_bounds-keeps-end
slice_bounds-keeps-end c =
    let e = c.points-n.ensures in
    sym (front_long _ _ c.args.lines.now c.requires.1 (points_part _ _ _ e))

pub slice_bounds-keeps-end-2 : goal.slice_bounds-keeps-end-2
slice_bounds-keeps-end-2 c =
    let e = c.points-n.ensures in
    back_in _ _ c.args.top.now c.requires.2 (points_part _ _ _ e) c.top_points.new.top
    c.top_points.auto.top

pub slice_bounds-keeps-end-3 : goal.slice_bounds-keeps-end-3
slice_bounds-keeps-end-3 c =
    let e = c.points-n.ensures in
    sym (back_long _ _ c.args.top.now c.requires.2 (points_part _ _ _ e) c.top_points.new.top
    c.top_points.auto.top)

pub slice_bounds-keeps-end-4 : goal.slice_bounds-keeps-end-4
slice_bounds-keeps-end-4 c =
    let e = c.points-n.ensures in
    front_in _ _ c.args.kept.now c.requires.3 (points_part _ _ _ e)

pub slice_bounds-keeps-end-5 : goal.slice_bounds-keeps-end-5
slice_bounds-keeps-end-5 c =
    let e = c.points-n.ensures in
    sym (front_long _ _ c.args.kept.now c.requires.3 (points_part _ _ _ e))

pub keeps-requires : goal.keeps-requires
keeps-requires c =
    let e = c.points-n.ensures in
    let l = back_long _ _ c.args.top.now c.requires.2 (points_part _ _ _ e) c.top_points.new.top
    c.top_points.auto.top in (
      front_long _ _ c.args.lines.now c.requires.1 (points_part _ _ _ e) ∙ e,
      l ∙ e,
      front_long _ _ c.args.kept.now c.requires.3 (points_part _ _ _ e) ∙ e,
      tops_rising _ _ _ _
          (front_back _ _ c.args.top.now c.requires.2 (points_part _ _ _ e) c.top_points.new.top
          c.top_points.auto.top
          ∙ c.top_points.ensures),
    )
