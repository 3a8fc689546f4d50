use mathlib.Core.Path.{◌≡◌}
use mathlib.Core.Bool.{true}
use Rattle.paper.specs.Joining.{on}
use Rattle.level_curves.proofs.Running.{Running}
use Rattle.level_curves.proofs.link.last.Given as goal

abbrev pub invariant-loop : goal.invariant-loop
invariant-loop l = Running l.steps l.next l.kept l.start l.counter l.dart l.after × (on l.next l.dart ≡ true)
