use Rattle.paper.specs.Joining.{at, on}
use Rattle.paper.specs.Enclosure.{parent}
use Rattle.region_parents.proofs.Corner.{Parented}
use Rattle.region_parents.proofs.parent.find_parents.Given as goal

abbrev pub invariant-loop : goal.invariant-loop
invariant-loop l =
    let w = l.fn.size.width in
    Parented w l.fn.size.height (parent w (on l.side) (at l.side) l.tops) l.initial.parents l.parents l.counter l.corner l.name
