use Rattle.point_darts.specs.Dart.{dart}
use Rattle.check_call.proofs.Recovering.{Recovering}
use Rattle.check_call.proofs.labels.recover.Given as goal

abbrev pub invariant-loop-i : goal.invariant-loop-i
invariant-loop-i l = Recovering l.size.width l.size.height l.side l.labels l.i l.column (dart l.point 3) l.label
