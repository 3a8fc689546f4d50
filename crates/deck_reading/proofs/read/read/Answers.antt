use mathlib.Core.Path.{sym}
use Rattle.std.proofs.lemmas.Result.{err_from_is_err_and}
use Rattle.deck_card.specs.Outcome.{read_outcome}
use Rattle.deck_reading.specs.Reading.{room}
use Rattle.deck_reading.proofs.Outcomes.{reading_table, reading_refused, reading_sheet}
use Rattle.deck_reading.proofs.read.read.Goals as goal

pub returns-then-cells-ne-CELLS : goal.returns-then-cells-ne-CELLS
unfolding read_outcome room
returns-then-cells-ne-CELLS c = reading_table c.args.deck.now c.args.cells.now c.if-cells-ne-CELLS.true

pub returns-in_err-size : goal.returns-in_err-size
unfolding read_outcome room
returns-in_err-size c =
    let p = err_from_is_err_and c.from_residual.result c.from_residual.ensures.1 in
    let e = c.in_err-size.ensures in
    rw (p.1, p.2, e) (reading_refused c.args.deck.now c.args.cells.now _ _ c.if-cells-ne-CELLS.false (sym e))

pub fill-requires-clause-has_room : goal.fill-requires-clause-has_room
unfolding room
fill-requires-clause-has_room c = c.if-cells-ne-CELLS.false

pub returns : goal.returns
unfolding read_outcome room
returns c =
    let e = c.in_ok-size.ensures in
    rw c.fill.ensures (reading_sheet c.args.deck.now c.args.cells.now _ _ c.if-cells-ne-CELLS.false (sym e))
