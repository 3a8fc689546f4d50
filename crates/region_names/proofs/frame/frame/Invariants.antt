use Rattle.region_names.proofs.Surround.{Framing}
use Rattle.region_names.proofs.frame.frame.Given as goal

abbrev pub invariant-loop : goal.invariant-loop
invariant-loop l = Framing l.fn.size.width l.fn.size.height l.first l.names l.counter l.from l.to
