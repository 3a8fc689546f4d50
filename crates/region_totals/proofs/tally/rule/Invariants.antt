use Rattle.region_totals.specs.Tally.{Ruled}
use Rattle.region_totals.proofs.tally.rule.Given as goal

abbrev pub invariant-loop-p : goal.invariant-loop-p
invariant-loop-p l = Ruled l.width l.names l.points l.round l.p l.odd
