use mathlib.Core.Path.{refl, ◌∙◌}
use Rattle.table_lengths.proofs.Tested.{stated_names, stated_slots}
use Rattle.table_entries.proofs.Cleared.{cleared_same}
use Rattle.region_totals.proofs.Paper.{framed_below}
use Rattle.drawing.proofs.Whole.{drawing_runs, drawing_whole, tops_rising}
use Rattle.drawing.proofs.draw.draw_names.Goals as goal

pub draw_lines-requires : goal.draw_lines-requires
draw_lines-requires c =
    let p = c.requires in
    let d = stated_slots _ _ _ _ p.0 in
    let w = d.1.1.1.1 in
    (w.1.0, w.0, d.0, d.1.0)

pub draw_totals-requires : goal.draw_totals-requires
draw_totals-requires c =
    let p = c.requires in
    let n = stated_names _ _ _ _ p.0 in
    let w = (stated_slots _ _ _ _ p.0).1.1.1.1 in
    (w.1.0, rw p.1.round (framed_below _ _ _), n.1.0, n.1.1.0, w.1.1.0)

pub keep_points-requires : goal.keep_points-requires
keep_points-requires c =
    let p = c.requires in
    let d = stated_slots _ _ _ _ p.0 in
    let w = d.1.1.1.1 in (
      c.draw_lines.auto.side1 ∙ d.1.0,
      c.draw_lines.auto.lines ∙ w.0,
      w.1.0,
      c.draw_totals.auto.odd ∙ w.1.1.0,
    )

pub draw_curves-requires : goal.draw_curves-requires
draw_curves-requires c =
    let p = c.requires in
    let d = stated_slots _ _ _ _ p.0 in (
      c.keep_points.auto.kept ∙ c.draw_totals.auto.odd ∙ d.1.1.1.1.1.1.0,
      d.1.1.0,
      d.1.1.1.0,
      c.draw_lines.auto.next1 ∙ d.0,
      drawing_runs _ _ _ c.args.size.limited _ _ _ _ _ _ p.1.round c.draw_lines.ensures c.keep_points.ensures,
    )

pub draw_parents-requires : goal.draw_parents-requires
draw_parents-requires c =
    let p = c.requires in
    let d = stated_slots _ _ _ _ p.0 in (
      c.keep_points.auto.top ∙ d.1.1.1.1.1.0,
      tops_rising _ _ _ _ _ _ c.keep_points.ensures,
      (stated_names _ _ _ _ p.0).0,
      c.draw_lines.auto.side1 ∙ d.1.0,
    )

pub returns : goal.returns
returns c = (
  λ f. drawing_whole _ _ _ c.args.size.limited _ _ _ _ _ _ f.round c.draw_lines.ensures c.keep_points.ensures
      _ _ _ _ _ c.draw_curves.ensures c.draw_parents.ensures c.draw_totals.ensures,
  c.clear_four.ensures
      ∙ cleared_same _ _ _ _ _ _ _ _ c.draw_lines.auto.lines c.keep_points.auto.top
      (c.keep_points.auto.kept ∙ c.draw_totals.auto.odd) refl,
)
