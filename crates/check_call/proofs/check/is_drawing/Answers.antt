use mathlib.Core.Path.{ap, ◌∙◌}
use mathlib.Core.Bool.{not}
use Rattle.table_lengths.proofs.Tested.{stated_slots}
use Rattle.drawing.specs.Parts.{round_of}
use Rattle.region_totals.proofs.Paper.{framed_below}
use Rattle.check_call.proofs.Agreeing.{agreeing, is_drawing_no, totals_no, is_drawing_yes}
use Rattle.check_call.proofs.check.is_drawing.Goals as goal

pub recover_names-requires : goal.recover_names-requires
recover_names-requires c =
    let q = c.requires in
    let s = stated_slots _ _ _ _ q in
    let w = s.1.1.1.1 in
    (s.1.0, w.0, w.1.0, w.1.1.0)

pub totals_agree-requires : goal.totals_agree-requires
unfolding round_of
totals_agree-requires c =
    let q = c.requires in
    let k = c.recover_names.auto in
    let w = (stated_slots _ _ _ _ q).1.1.1.1 in (
      k.a ∙ w.0,
      rw c.recover_names.ensures (framed_below _ _ _),
      k.b ∙ w.1.0,
      k.c ∙ w.1.1.0,
      w.1.1.1.0,
    )

pub returns-then-not-totals_agree : goal.returns-then-not-totals_agree
returns-then-not-totals_agree c =
    totals_no _ _ _ c.args.size.limited _ (c.totals_agree.ensures _ c.recover_names.ensures) (ap not c.if-not-totals_agree.true)

pub lines_agree-requires : goal.lines_agree-requires
lines_agree-requires c =
    let q = c.requires in
    let k = c.recover_names.auto in
    let m = c.totals_agree.auto in
    let w = (stated_slots _ _ _ _ q).1.1.1.1 in (
      k.a ∙ w.0,
      m.b ∙ k.b ∙ w.1.0,
      m.c ∙ k.c ∙ w.1.1.0,
      m.d ∙ w.1.1.1.0,
      c.recover_names.ensures,
    )

pub returns-then-not-lines_agree : goal.returns-then-not-lines_agree
returns-then-not-lines_agree c =
    is_drawing_no _ _ _ c.args.size.limited _ c.lines_agree.ensures.0 (ap not c.if-not-lines_agree.true)

pub curves_agree-requires : goal.curves_agree-requires
curves_agree-requires c =
    let q = c.requires in
    let s = stated_slots _ _ _ _ q in
    let k = c.recover_names.auto in
    let m = c.totals_agree.auto in
    let j = c.lines_agree.auto in
    let w = s.1.1.1.1 in
    let a = c.lines_agree.ensures in (
      s.1.0,
      k.a ∙ w.0,
      j.b ∙ m.b ∙ k.b ∙ w.1.0,
      j.c ∙ m.c ∙ k.c ∙ w.1.1.0,
      j.d ∙ m.d ∙ w.1.1.1.0,
      s.0,
      agreeing _ _ _ _ _ a.0 (ap not c.if-not-lines_agree.false),
      a.1,
    )

pub returns : goal.returns
returns c =
    let a = c.lines_agree.ensures in
    is_drawing_yes _ _ _ c.args.size.limited _ a.0 (ap not c.if-not-lines_agree.false) _
    (c.totals_agree.ensures _ c.recover_names.ensures)
    (ap not c.if-not-totals_agree.false) _ _ a.1 c.curves_agree.ensures
