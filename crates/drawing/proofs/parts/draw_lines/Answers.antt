use mathlib.Core.Path.{sym, ap, ◌∙◌}
use Prim.Native.Nat.{◌+◌}
use Rattle.table_entries.proofs.Front.{front_in, front_long, back_in, back_long}
use Rattle.region_names.proofs.Room.{points_part, surround_part}
use Rattle.drawing.proofs.parts.draw_lines.Goals as goal

pub slice_bounds-masks-end : goal.slice_bounds-masks-end
slice_bounds-masks-end c =
    sym (front_long _ _ c.args.round.now c.requires.0 (surround_part _ _ _ c.points-points.ensures))

pub slice_bounds-masks-end-2 : goal.slice_bounds-masks-end-2
slice_bounds-masks-end-2 c =
    front_in _ _ c.args.lines.now c.requires.1 (points_part _ _ _ c.points-points.ensures)

pub slice_bounds-masks-end-3 : goal.slice_bounds-masks-end-3
slice_bounds-masks-end-3 c =
    sym (front_long _ _ c.args.lines.now c.requires.1 (points_part _ _ _ c.points-points.ensures))

pub masks-requires : goal.masks-requires
masks-requires c =
    let e = c.points-points.ensures in (
      front_long _ _ c.args.round.now c.requires.0 (surround_part _ _ _ e) ∙ ap (λ n. n + c.args.size.width + 2) e,
      front_long _ _ c.args.lines.now c.requires.1 (points_part _ _ _ e) ∙ e,
    )

pub slice_bounds-nexts-end : goal.slice_bounds-nexts-end
slice_bounds-nexts-end c =
    back_in _ _ c.args.lines.now c.requires.1 (points_part _ _ _ c.points-points.ensures) c.masks.new.masks
    c.masks.auto.masks

pub slice_bounds-nexts-end-2 : goal.slice_bounds-nexts-end-2
slice_bounds-nexts-end-2 c =
    sym (back_long _ _ c.args.lines.now c.requires.1 (points_part _ _ _ c.points-points.ensures) c.masks.new.masks
    c.masks.auto.masks)

pub nexts-requires : goal.nexts-requires
nexts-requires c =
    let l = back_long _ _ c.args.lines.now c.requires.1 (points_part _ _ _ c.points-points.ensures) c.masks.new.masks
    c.masks.auto.masks in
    (l ∙ c.points-points.ensures, c.requires.2)

pub slice_bounds-sides-end : goal.slice_bounds-sides-end
slice_bounds-sides-end c =
    sym (front_long _ _ c.args.round.now c.requires.0 (surround_part _ _ _ c.points-points.ensures))

pub slice_bounds-sides-end-2 : goal.slice_bounds-sides-end-2
slice_bounds-sides-end-2 c =
    back_in _ _ c.args.lines.now c.requires.1 (points_part _ _ _ c.points-points.ensures) c.masks.new.masks
    c.masks.auto.masks

pub slice_bounds-sides-end-3 : goal.slice_bounds-sides-end-3
slice_bounds-sides-end-3 c =
    sym (back_long _ _ c.args.lines.now c.requires.1 (points_part _ _ _ c.points-points.ensures) c.masks.new.masks
    c.masks.auto.masks)

pub sides-requires : goal.sides-requires
sides-requires c =
    let e = c.points-points.ensures in
    let l = back_long _ _ c.args.lines.now c.requires.1 (points_part _ _ _ c.points-points.ensures) c.masks.new.masks
    c.masks.auto.masks in (
      front_long _ _ c.args.round.now c.requires.0 (surround_part _ _ _ e) ∙ ap (λ n. n + c.args.size.width + 2) e,
      l ∙ e,
      c.requires.3,
    )
