use mathlib.Core.Path.{◌≡◌, sym, ap, ◌∙◌}
use lib.ListN.{take}
use Rattle.std.proofs.Common.{rules}
use Rattle.std.proofs.lemmas.Result.{err_from_is_err_and}
use Rattle.std.specs.Prelude.{Result, Ok}
use Rattle.sheet_size.specs.declared.Size.{Size}
use Rattle.deck_card.specs.declared.answer.Fault.{Fault}
use Rattle.deck_card.specs.Card.{columns, places, long}
use Rattle.deck_card.specs.Outcome.{fault_told}
use Rattle.deck_card.proofs.Table.{rest_all}
use Rattle.deck_faults.specs.Fault.{header}
use Rattle.deck_reading.proofs.Verdicts.{at_card, at_none, judged_stop, judged_go, header_whole}
use Rattle.deck_reading.proofs.judge.judged.Goals.{After-size, In_ok-size}
use Rattle.deck_reading.proofs.judge.judged.Goals.at as at
use Rattle.deck_reading.proofs.judge.judged.Goals as goal

-- the fault of the header
fault : (c : After-size) → fault_told c.size.result ≡ header (take long c.args.deck.now)
fault c = rw (← c.next.ensures) c.size.ensures.fault

-- it has none
sound : (c : In_ok-size) → c.size.result ≡ Ok c.in_ok-size.size
sound c = at_none c.size.result c.map_err.result _ c.map_err.ensures.cases _ c.in_ok-size.was

none : (c : In_ok-size) → header (take long c.args.deck.now) ≡ 0
none c = sym (fault (at.In_ok-size c).After-size) ∙ ap (λ (r : Result Size Fault). fault_told r) (sound c)

pub returns-in_err-size : goal.returns-in_err-size
returns-in_err-size c =
    let p = err_from_is_err_and c.from_residual.result c.from_residual.ensures.1 in
    let r = fault (at.returns-in_err-size c).After-size in
    let (n, e) =
    at_card c.size.result c.map_err.result _ c.map_err.ensures.cases 1 (λ e y q. search rules) _ c.in_err-size.was in
    rw (p.1, p.2) (e ∙ rw r (judged_stop c.args.deck.now (rw (← r) n)))

pub slice_bounds-rows-count : goal.slice_bounds-rows-count
unfolding columns places long
slice_bounds-rows-count c = header_whole c.args.deck.now (none (at.slice_bounds-rows-count c).In_ok-size)

pub slice_bounds-rows-start : goal.slice_bounds-rows-start
unfolding columns places long
slice_bounds-rows-start c = header_whole c.args.deck.now (none (at.slice_bounds-rows-start c).In_ok-size)

pub returns : goal.returns
unfolding columns places long
returns c =
    let d = c.args.deck.now in
    let n = rw (sound (at.returns c).In_ok-size) at c.size.ensures.named in
    rw (c.rows.ensures, rest_all long d, n.0, n.1, c.next.ensures) (judged_go d (none (at.returns c).In_ok-size))
