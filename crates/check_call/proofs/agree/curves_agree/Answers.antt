use mathlib.Core.Path.{sym, ap, ◌∙◌}
use mathlib.Core.Bool.{not}
use native.Mathlib.Omega.{arith}
use Rattle.point_darts.proofs.Fit.{cells_fit}
use Rattle.table_entries.proofs.Front.{front_in, front_long, front_back, back_in, back_long}
use Rattle.drawing.proofs.Whole.{tops_rising}
use Rattle.check_call.proofs.Agreeing.{names_part, runs_agreed, curves_no, curves_yes}
use Rattle.check_call.proofs.agree.curves_agree.Goals as goal

pub draw_curves-requires : goal.draw_curves-requires
draw_curves-requires c =
    let q = c.requires in (
      c.keep_points.auto.kept ∙ q.3,
      q.4,
      q.2,
      q.5,
      runs_agreed _ _ _ _ q.6 _ _ _ c.args.size.limited q.7 c.keep_points.ensures,
    )

pub overflow_mul-names : goal.overflow_mul-names
overflow_mul-names c =
    omega (arith, cells_fit _ _ c.args.size.limited)

pub overflow_add-names : goal.overflow_add-names
overflow_add-names c =
    omega (arith, cells_fit _ _ c.args.size.limited)

pub slice_bounds-draw_parents-end : goal.slice_bounds-draw_parents-end
slice_bounds-draw_parents-end c =
    front_in _ _ c.keep_points.new.kept (c.keep_points.auto.kept ∙ c.requires.3) (names_part _
    _)

pub slice_bounds-draw_parents-end-2 : goal.slice_bounds-draw_parents-end-2
slice_bounds-draw_parents-end-2 c =
    sym (front_long _ _ c.keep_points.new.kept (c.keep_points.auto.kept ∙ c.requires.3)
    (names_part _ _))

pub draw_parents-requires : goal.draw_parents-requires
draw_parents-requires c = (
  c.keep_points.auto.top ∙ c.requires.1,
  tops_rising _ _ _ _ _ _ c.keep_points.ensures,
  front_long _ _ c.keep_points.new.kept (c.keep_points.auto.kept ∙ c.requires.3)
      (names_part _ _),
  c.requires.0,
)

pub returns-then-not-both_same : goal.returns-then-not-both_same
returns-then-not-both_same c =
    curves_no _ _ _ _ _ _ _ _ _ _ _ _ c.keep_points.ensures c.draw_curves.ensures _ c.both_same.ensures
    (ap not c.if-not-both_same.true)

pub slice_bounds-same-end : goal.slice_bounds-same-end
slice_bounds-same-end c =
    back_in _ _ c.keep_points.new.kept (c.keep_points.auto.kept ∙ c.requires.3) (names_part _ _)
    c.draw_parents.new.parents c.draw_parents.auto.parents

pub slice_bounds-same-end-2 : goal.slice_bounds-same-end-2
slice_bounds-same-end-2 c =
    sym (back_long _ _ c.keep_points.new.kept (c.keep_points.auto.kept ∙ c.requires.3)
    (names_part _ _) c.draw_parents.new.parents c.draw_parents.auto.parents)

pub returns : goal.returns
returns c =
    curves_yes _ _ _ _ _ _ _ _ _ _ _ _ c.keep_points.ensures c.draw_curves.ensures _ c.both_same.ensures
    (ap not c.if-not-both_same.false) _ _ _ (front_back _ _ c.keep_points.new.kept
    (c.keep_points.auto.kept ∙ c.requires.3) (names_part _ _) c.draw_parents.new.parents
    c.draw_parents.auto.parents) c.draw_parents.ensures c.same.ensures
