use mathlib.Core.Path.{◌≡◌, refl, sym, ap, ◌∙◌}
use Rattle.std.proofs.Common.{of_calls}
use Rattle.paper.specs.Order.{placed}
use Rattle.answer.specs.Answer.{number_of}
use Rattle.join_list.specs.Answer.{list_number, list_values}
use Rattle.join_list.proofs.Ending.{told_placed, handed_on}
use Rattle.join_call.proofs.ByList.{list_stops, list_open, list_ends}
use Rattle.join_call.proofs.list.join_list.Goals.{After-map_err}
use Rattle.join_call.proofs.list.join_list.Goals.at as at
use Rattle.join_call.proofs.list.join_list.Goals as goal

-- what is answered before the entries, with the place 0
mapped : (c : After-map_err) → (list_number c.map_err.result ≡ number_of c.judged.result)
    × (list_values c.map_err.result ≡ placed (number_of c.judged.result) 0)
mapped c = told_placed 0 _ (λ x q l. search of_calls) c.judged.result c.map_err.result c.map_err.ensures.cases

pub returns-in_err-map_err : goal.returns-in_err-map_err
returns-in_err-map_err c =
    let (n, e) = handed_on _ c.from_residual.result _ c.in_err-map_err.was c.from_residual.ensures.1 in
    rw e
    (list_stops _ _ _ _ _ _ _ c.check-checked.ensures _ c.judged.ensures _ (mapped (at.returns-in_err-map_err c).After-map_err) n)

pub invariant_of-join_all : goal.invariant_of-join_all
unfolding list_number
invariant_of-join_all c =
    let z = sym (mapped (at.invariant_of-join_all c).After-map_err).0 ∙ ap list_number c.in_ok-map_err.was in
    let o = list_open _ _ _ c.args.names.now _ _ _ c.check-checked.ensures _ c.judged.ensures z _ _ _ _ refl in
    record { limited = o.1.size }

pub join_all-requires : goal.join_all-requires
unfolding list_number
join_all-requires c =
    let z = sym (mapped (at.join_all-requires c).After-map_err).0 ∙ ap list_number c.in_ok-map_err.was in
    list_open _ _ _ c.args.names.now _ _ _ c.check-checked.ensures _ c.judged.ensures z _ _ _ _ refl

pub returns : goal.returns
unfolding list_number
returns c =
    let z = sym (mapped (at.returns c).After-map_err).0 ∙ ap list_number c.in_ok-map_err.was in
    let p = c.join_all.ensures in
    list_ends _ _ _ _ _ _ _ c.check-checked.ensures _ c.judged.ensures z _ _ _ _ refl _ _ _ p.0 p.1
