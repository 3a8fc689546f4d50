use Rattle.region_totals.proofs.Adding.{AddedUp}
use Rattle.region_totals.proofs.total.add_up.Given as goal

abbrev pub invariant-loop-r : goal.invariant-loop-r
invariant-loop-r l = AddedUp l.initial.cells l.initial.borders l.odd l.r l.cells l.borders
