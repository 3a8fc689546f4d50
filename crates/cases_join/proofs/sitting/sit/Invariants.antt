use Rattle.std.specs.Prelude.{◌≡◌, ◌≤◌, length}
use Rattle.cases_join.proofs.sitting.sit.Given as goal

abbrev pub invariant-loop : goal.invariant-loop
invariant-loop g l = (length l.names ≡ length l.initial.names) × (l.done ≤ l.counter)
