use Rattle.point_darts.specs.Dart.{dart}
use Rattle.level_curves.specs.Link.{Linking}
use Rattle.level_curves.proofs.link.links.Given as goal

abbrev pub invariant-loop-p : goal.invariant-loop-p
invariant-loop-p l = Linking l.size.width l.steps l.next1 l.kept (dart l.p 0) l.next l.other
