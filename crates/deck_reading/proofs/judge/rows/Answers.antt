use mathlib.Core.Path.{◌≡◌, sym, ap, ◌∙◌}
use Prim.Native.Nat.{◌+◌, ◌-◌, ◌≤◌}
use native.Mathlib.Omega.{arith}
use lib.ListN.{length, take}
use Rattle.std.proofs.Common.{rules}
use Rattle.std.proofs.lemmas.Result.{err_from_is_err_and}
use Rattle.std.specs.Prelude.{Result}
use Rattle.deck_card.specs.declared.answer.Fault.{Fault}
use Rattle.deck_card.specs.Card.{columns, places, long}
use Rattle.deck_card.specs.Outcome.{fault_told}
use Rattle.deck_card.proofs.Table.{rest_all}
use Rattle.deck_layout.specs.Layout.{row_cards, held}
use Rattle.deck_layout.proofs.Sizes.{held_measured, cards_few}
use Rattle.deck_faults.specs.Fault.{row}
use Rattle.deck_reading.specs.Judging.{rows}
use Rattle.deck_reading.proofs.Verdicts.{at_card, at_none, rows_stop, rows_go, rows_surplus, rows_end, row_whole}
use Rattle.deck_reading.proofs.judge.rows.Goals.{After-refusal, In_ok-map_err}
use Rattle.deck_reading.proofs.judge.rows.Goals.at as at
use Rattle.deck_reading.proofs.judge.rows.Goals as goal

-- the fault of the next card
fault : (c : After-refusal)
    → let k = c.loop-card.card-counter in
    fault_told c.refusal.result ≡ row (held c.args.size.width k) k (take long c.loop-card.rest.now)
fault c = rw (← c.next.ensures, ← c.held-held.ensures) c.refusal.ensures

-- it has none, so it is there as a whole
none : (c : In_ok-map_err)
    → let k = c.loop-card.card-counter in
    row (held c.args.size.width k) k (take long c.loop-card.rest.now) ≡ 0
none c =
    sym (fault (at.In_ok-map_err c).After-refusal)
    ∙ ap (λ (r : Result (Unit {0}) Fault). fault_told r)
    (at_none c.refusal.result c.map_err.result _ c.map_err.ensures.cases _ c.in_ok-map_err.was)

left : (c : In_ok-map_err) → long ≤ length c.loop-card.rest.now
left c = row_whole c.args.size.width c.args.size.height c.loop-card.card-counter c.loop-card.rest.now (none c)

pub overflow_add-end : goal.overflow_add-end
overflow_add-end c = omega (arith, cards_few c.args.size.width c.args.size.height c.args.size.limited)

pub loop-card-init : goal.loop-card-init
loop-card-init c =
    let e : c.row_cards-end.result + 2 - 2 ≡ row_cards c.args.size.width c.args.size.height = omega arith in
    rw e

pub refusal-requires : goal.refusal-requires
refusal-requires c =
    rw c.held-held.ensures
    (held_measured c.args.size.width c.args.size.height c.args.size.limited c.loop-card.card-counter)

pub returns-in_err-map_err : goal.returns-in_err-map_err
returns-in_err-map_err c =
    let l = c.loop-card in
    let k = l.card-counter in
    let p = err_from_is_err_and c.from_residual.result c.from_residual.ensures.1 in
    let r = fault (at.returns-in_err-map_err c).After-refusal in
    let (n, e) =
    at_card c.refusal.result c.map_err.result _ c.map_err.ensures.cases k (λ e y q. search rules) _ c.in_err-map_err.was in
    rw (p.1, p.2)
    (e ∙ rw r (rows_stop c.args.size.width c.args.size.height k l.rest.now _ (omega arith) (rw (← r) n)) ∙ l.invariant)

pub slice_bounds-rest-count : goal.slice_bounds-rest-count
unfolding columns places long
slice_bounds-rest-count c = left (at.slice_bounds-rest-count c).In_ok-map_err

pub slice_bounds-rest-start : goal.slice_bounds-rest-start
unfolding columns places long
slice_bounds-rest-start c = left (at.slice_bounds-rest-start c).In_ok-map_err

pub loop-card-preserved : goal.loop-card-preserved
unfolding columns places long
loop-card-preserved c =
    let w = c.args.size.width in
    let h = c.args.size.height in
    let l = c.loop-card in
    let k = l.card-counter in
    let n = c.row_cards-end.result + 2 in
    let e : n - (k + 1) ≡ n - k - 1 = omega arith in
    rw e
    (ap (rows w h (n - k - 1) (k + 1)) (rest_all long l.rest.now)
    ∙ rows_go w h k l.rest.now (n - k) (omega arith) (none (at.loop-card-preserved c).In_ok-map_err)
    ∙ l.invariant)

pub returns-then-not-is_empty : goal.returns-then-not-is_empty
returns-then-not-is_empty c =
    let l = c.loop-card in
    let e : c.row_cards-end.result + 2 ≡ l.card-counter = omega arith in
    rw e
    (rows_surplus c.args.size.width c.args.size.height l.card-counter l.rest.now _ (omega arith)
    (sym c.is_empty.ensures ∙ c.if-not-is_empty.true)
    ∙ l.invariant)

pub returns : goal.returns
returns c =
    let l = c.loop-card in
    rows_end c.args.size.width c.args.size.height l.card-counter l.rest.now _ (omega arith)
    (sym c.is_empty.ensures ∙ c.if-not-is_empty.false)
    ∙ l.invariant
