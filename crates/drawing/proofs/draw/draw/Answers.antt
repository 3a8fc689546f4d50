use mathlib.Core.Path.{refl, ◌∙◌}
use Rattle.std.specs.Prelude.{Ok, Err}
use Rattle.answer.specs.Answer.{number_of}
use Rattle.answer.proofs.Outcome.{told_on}
use Rattle.table_entries.proofs.Cleared.{cleared_same}
use Rattle.drawing.proofs.Refusing.{all_fit, stated_still, refused, done}
use Rattle.drawing.proofs.draw.draw.Goals as goal

pub returns-in_err-size : goal.returns-in_err-size
unfolding number_of
returns-in_err-size c =
    let r = c.in_err-size in
    told_on (Err _) c.from_residual.result _ refl c.from_residual.ensures.1 _ _ _
    (refused _ _ _ _ _ (Err _) r.ensures.number)

pub name_cells-requires : goal.name_cells-requires
unfolding number_of
name_cells-requires c =
    let r = c.in_ok-size.ensures in
    let f = all_fit _ _ _ _ _ r.number in
    let w = f.darts.1.1.1.1 in
    rw (r.size.0, r.size.1)
    (f.sheet, w.0, w.1.0)

pub draw_names-requires : goal.draw_names-requires
unfolding number_of
draw_names-requires c =
    let r = c.in_ok-size.ensures in
    let f = all_fit _ _ _ _ _ r.number in (
      rw (r.size.0, r.size.1)
          (stated_still _ _ _ _ _ _ _ _ f.lent c.name_cells.auto.first c.name_cells.auto.round),
      record { labels = _; round = c.name_cells.ensures },
    )

pub returns : goal.returns
unfolding number_of
returns c =
    let r = c.in_ok-size.ensures in
    done _ _ _ _ _ (Ok tt) r.number refl _ _ r.size _ _
    (c.draw_names.ensures.0 (record { labels = _; round = c.name_cells.ensures }))
    (c.draw_names.ensures.1
    ∙ cleared_same _ _ _ _ _ _ _ _ c.name_cells.auto.first c.name_cells.auto.round refl refl)
