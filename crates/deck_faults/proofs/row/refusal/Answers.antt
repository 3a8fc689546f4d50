use mathlib.Core.Bool.{cond}
use mathlib.Core.Path.{◌≡◌, sym, ◌∙◌}
use native.Mathlib.Omega.{arith}
use lib.Seq.{slice}
use Rattle.std.proofs.lemmas.Result.{err_from_is_err_and}
use Rattle.laws.specs.Every.{every}
use Rattle.deck_card.specs.Card.{columns, places, long, blank, lowest, highest, visible, from_to}
use Rattle.deck_card.proofs.Parts.{measured_is, part_held, whole_is}
use Rattle.deck_card.proofs.Table.{part_slice}
use Rattle.deck_faults.specs.Fault.{row}
use Rattle.deck_faults.proofs.Forms.{row_formed, row_is, form_none}
use Rattle.deck_faults.proofs.row.refusal.Goals.{After-all_between, After-all_between-2}
use Rattle.deck_faults.proofs.row.refusal.Goals.at as at
use Rattle.deck_faults.proofs.row.refusal.Goals as goal

-- what is left to judge: the cells, and the blanks after them
cells-decide : (c : After-all_between)
    → let s = c.args in
    row s.cells s.number s.card.now
    ≡ cond c.all_between.result (cond (every (from_to blank blank) (slice s.cells columns s.card.now)) 0 24) 23
unfolding lowest highest visible
cells-decide c =
    let s = c.args in
    let e = sym c.in_ok-refusal.ensures in
    let w = (form_none s.number s.card.now e).whole_is in
    let p = c.part.ensures.0 ∙ part_held s.cells s.card.now c.requires w in
    simp (row_is s.cells s.number s.card.now e, ← p, ← c.all_between.ensures)

blanks-decide : (c : After-all_between-2)
    → let s = c.args in
    row s.cells s.number s.card.now ≡ cond c.all_between-2.result 0 24
unfolding columns blank
blanks-decide c =
    let s = c.args in
    simp (
      cells-decide (at.After-all_between-2 c).After-all_between,
      c.if-not-all_between.false,
      ← (part_slice s.cells columns s.card.now),
      ← c.all_between-2.ensures,
    )

pub returns-in_err-refusal : goal.returns-in_err-refusal
returns-in_err-refusal c =
    let p = err_from_is_err_and c.from_residual.result c.from_residual.ensures.1 in
    rw (p.1, p.2) (row_formed _ _ _ _ c.in_err-refusal.ensures)

pub returns-then-not-all_between : goal.returns-then-not-all_between
returns-then-not-all_between c = rw (cells-decide (at.returns-then-not-all_between c).After-all_between, c.if-not-all_between.true)

pub slice_bounds-all_between-count : goal.slice_bounds-all_between-count
unfolding columns
slice_bounds-all_between-count c =
    (measured_is c.args.cells c.requires).most

pub slice_bounds-all_between-start : goal.slice_bounds-all_between-start
unfolding columns
slice_bounds-all_between-start c =
    (measured_is c.args.cells c.requires).most

pub slice_bounds-all_between-end : goal.slice_bounds-all_between-end
unfolding columns places long
slice_bounds-all_between-end c =
    let s = c.args in
    let f = form_none s.number s.card.now (sym c.in_ok-refusal.ensures) in
    let n = (whole_is s.card.now f.whole_is).length_is in
    omega arith

pub returns-then-not-all_between-2 : goal.returns-then-not-all_between-2
returns-then-not-all_between-2 c = rw (blanks-decide (at.returns-then-not-all_between-2 c).After-all_between-2, c.if-not-all_between-2.true)

pub returns : goal.returns
returns c = rw (blanks-decide (at.returns c).After-all_between-2, c.if-not-all_between-2.false)
