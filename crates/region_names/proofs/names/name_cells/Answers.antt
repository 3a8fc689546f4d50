use mathlib.Core.Path.{sym, ap, ◌∙◌}
use Prim.Native.Nat.{◌+◌}
use native.Mathlib.Omega.{arith}
use Rattle.sheet_size.proofs.Limit.{within_limits}
use Rattle.point_darts.proofs.Fit.{cells_fit, points_fit}
use Rattle.table_entries.proofs.Front.{front_in, front_long, front_back, back_in, back_long}
use Rattle.region_names.proofs.Room.{cells_part, surround_part, firsts_down, firsts_names}
use Rattle.region_names.proofs.names.name_cells.Goals as goal

pub overflow_mul-cells : goal.overflow_mul-cells
overflow_mul-cells c = omega (arith, cells_fit _ _ c.args.size.limited)

pub overflow_add-around : goal.overflow_add-around
overflow_add-around c =
    let e = c.args.size.limited in
    omega (arith, c.points.ensures, points_fit _ _ e, (within_limits _ _ e).width_most)

pub overflow_add-around-2 : goal.overflow_add-around-2
overflow_add-around-2 c =
    let e = c.args.size.limited in
    omega (arith, c.points.ensures, points_fit _ _ e, (within_limits _ _ e).width_most)

pub slice_bounds-first_cells-end : goal.slice_bounds-first_cells-end
slice_bounds-first_cells-end c =
    front_in _ _ c.args.first.now c.requires.1 (cells_part _ _)

pub slice_bounds-first_cells-end-2 : goal.slice_bounds-first_cells-end-2
slice_bounds-first_cells-end-2 c =
    sym (front_long _ _ c.args.first.now c.requires.1 (cells_part _ _))

pub first_cells-requires : goal.first_cells-requires
first_cells-requires c =
    let q = c.requires in
    (q.0, front_long _ _ c.args.first.now q.1 (cells_part _ _))

pub slice_bounds-frame-end : goal.slice_bounds-frame-end
slice_bounds-frame-end c =
    let f = c.first_cells in
    back_in _ _ c.args.first.now c.requires.1 (cells_part _ _) f.new.first f.auto.first

pub slice_bounds-frame-end-2 : goal.slice_bounds-frame-end-2
slice_bounds-frame-end-2 c =
    let f = c.first_cells in
    sym (back_long _ _ c.args.first.now c.requires.1 (cells_part _ _) f.new.first f.auto.first)

pub slice_bounds-frame-end-3 : goal.slice_bounds-frame-end-3
slice_bounds-frame-end-3 c =
    front_in _ _ c.args.round.now c.requires.2 (surround_part _ _ _ c.points.ensures)

pub slice_bounds-frame-end-4 : goal.slice_bounds-frame-end-4
slice_bounds-frame-end-4 c =
    sym (front_long _ _ c.args.round.now c.requires.2 (surround_part _ _ _ c.points.ensures))

pub frame-requires : goal.frame-requires
frame-requires c =
    let q = c.requires in
    let l = c.args.first.now in
    let f = c.first_cells in
    let e = c.points.ensures in (
      back_long _ _ l q.1 (cells_part _ _) f.new.first f.auto.first,
      firsts_down _ _ c.args.sheet.now _ _
          (front_back _ _ l q.1 (cells_part _ _) f.new.first f.auto.first)
          f.ensures,
      front_long _ _ c.args.round.now q.2 (surround_part _ _ _ e) ∙ ap (λ n. n + c.args.size.width + 2) e,
    )

pub returns : goal.returns
returns c =
    let q = c.requires in
    let f = c.first_cells in
    let g = c.frame in
    let e = c.points.ensures in
    firsts_names _ _ _ _ _
    (front_back _ _ c.args.first.now q.1 (cells_part _ _) f.new.first f.auto.first)
    f.ensures _ _
    (rw (← e) (front_back _ _ c.args.round.now q.2 (surround_part _ _ _ e) g.new.names g.auto.names))
    g.ensures
