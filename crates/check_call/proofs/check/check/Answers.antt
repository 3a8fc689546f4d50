use mathlib.Core.Path.{refl, ◌∙◌}
use Rattle.std.specs.Prelude.{Ok, Err}
use Rattle.answer.specs.Answer.{number_of}
use Rattle.answer.proofs.Outcome.{told_on}
use Rattle.table_entries.proofs.Cleared.{cleared_same}
use Rattle.check_call.proofs.Checked.{check_refused, check_ready, check_found}
use Rattle.check_call.proofs.check.check.Goals as goal

pub returns-in_err-size : goal.returns-in_err-size
unfolding number_of
returns-in_err-size c =
    told_on (Err _) c.from_residual.result _ refl c.from_residual.ensures.1 _ _ _
    (check_refused _ _ _ _ (Err _) c.in_err-size.ensures.number)

pub is_drawing-drawing-requires : goal.is_drawing-drawing-requires
unfolding number_of
is_drawing-drawing-requires c =
    let r = c.in_ok-size.ensures in
    rw (r.size.0, r.size.1) (check_ready _ _ _ _ (Ok tt) r.number refl)

pub returns : goal.returns
unfolding number_of
returns c =
    let r = c.in_ok-size.ensures in
    let l = c.is_drawing-drawing.auto in
    check_found _ _ _ _ (Ok tt) r.number refl _ _ r.size _
    (c.clear_four.ensures ∙ cleared_same _ _ _ _ _ _ _ _ l.work_a l.work_b l.work_c l.work_d) _ c.is_drawing-drawing.ensures _
    c.found.ensures
