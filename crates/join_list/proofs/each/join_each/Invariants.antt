use lib.ListN.{length}
use Rattle.join_rule.specs.Apply.{found}
use Rattle.join_list.proofs.Going.{Going}
use Rattle.join_list.proofs.each.join_each.Given as goal

abbrev pub invariant-loop-rest : goal.invariant-loop-rest
invariant-loop-rest l =
    let i = l.initial in
    let s = l.fn.size in
    Going s.width s.height l.names (found s.width s.height i.next1 i.side1 i.next3 i.other3 i.cells i.borders) i.back i.list
    (found s.width s.height l.next1 l.side1 l.next3 l.other3 l.cells l.borders) l.back l.list l.rest l.place

abbrev pub decreases-loop-rest : goal.decreases-loop-rest
decreases-loop-rest l = length l.rest
