use mathlib.Core.Path.{sym}
use native.Mathlib.Omega.{arith}
use Rattle.point_darts.proofs.Fit.{cells_fit}
use Rattle.table_entries.proofs.Front.{front_in, front_long, front_back, back_in, back_long}
use Rattle.check_call.proofs.Agreeing.{names_part, totals_is_drawing}
use Rattle.check_call.proofs.agree.totals_agree.Goals as goal

pub overflow_mul-names : goal.overflow_mul-names
overflow_mul-names c = omega (arith, cells_fit _ _ c.args.size.limited)

pub overflow_add-names : goal.overflow_add-names
overflow_add-names c = omega (arith, cells_fit _ _ c.args.size.limited)

pub slice_bounds-draw_totals-end : goal.slice_bounds-draw_totals-end
slice_bounds-draw_totals-end c =
    front_in _ _ c.args.c.now c.requires.3 (names_part _ _)

pub slice_bounds-draw_totals-end-2 : goal.slice_bounds-draw_totals-end-2
slice_bounds-draw_totals-end-2 c =
    sym (front_long _ _ c.args.c.now c.requires.3 (names_part _ _))

pub slice_bounds-draw_totals-end-3 : goal.slice_bounds-draw_totals-end-3
slice_bounds-draw_totals-end-3 c =
    front_in _ _ c.args.d.now c.requires.4 (names_part _ _)

pub slice_bounds-draw_totals-end-4 : goal.slice_bounds-draw_totals-end-4
slice_bounds-draw_totals-end-4 c =
    sym (front_long _ _ c.args.d.now c.requires.4 (names_part _ _))

pub draw_totals-requires : goal.draw_totals-requires
draw_totals-requires c =
    let q = c.requires in (
      q.0,
      q.1,
      front_long _ _ c.args.c.now q.3 (names_part _ _),
      front_long _ _ c.args.d.now q.4 (names_part _ _),
      q.2,
    )

pub slice_bounds-both_same-end : goal.slice_bounds-both_same-end
slice_bounds-both_same-end c =
    back_in _ _ c.args.c.now c.requires.3 (names_part _ _) c.draw_totals.new.cells c.draw_totals.auto.cells

pub slice_bounds-both_same-end-2 : goal.slice_bounds-both_same-end-2
slice_bounds-both_same-end-2 c =
    sym (back_long _ _ c.args.c.now c.requires.3 (names_part _ _) c.draw_totals.new.cells c.draw_totals.auto.cells)

pub slice_bounds-both_same-end-3 : goal.slice_bounds-both_same-end-3
slice_bounds-both_same-end-3 c =
    back_in _ _ c.args.d.now c.requires.4 (names_part _ _) c.draw_totals.new.borders c.draw_totals.auto.borders

pub slice_bounds-both_same-end-4 : goal.slice_bounds-both_same-end-4
slice_bounds-both_same-end-4 c =
    sym (back_long _ _ c.args.d.now c.requires.4 (names_part _ _) c.draw_totals.new.borders
    c.draw_totals.auto.borders)

pub returns : goal.returns
returns c =
    totals_is_drawing _ _ _ _ _ _ _ _ _ _ c.draw_totals.ensures
    (front_back _ _ c.args.c.now c.requires.3 (names_part _ _) c.draw_totals.new.cells c.draw_totals.auto.cells)
    (front_back _ _ c.args.d.now c.requires.4 (names_part _ _) c.draw_totals.new.borders
    c.draw_totals.auto.borders)
    c.both_same.ensures
