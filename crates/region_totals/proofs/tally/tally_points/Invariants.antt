use Prim.Native.Nat.{◌*◌}
use Rattle.region_totals.specs.Tally.{Tallied}
use Rattle.region_totals.proofs.tally.tally_points.Given as goal

abbrev pub invariant-loop-pair : goal.invariant-loop-pair
invariant-loop-pair l = Tallied l.width l.names l.points l.round (2 * l.pair) l.cells l.borders l.odd
