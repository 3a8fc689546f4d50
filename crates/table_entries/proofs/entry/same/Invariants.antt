use mathlib.Core.Path.{◌≡◌}
use Rattle.table_entries.proofs.Same.{agreed}
use Rattle.table_entries.proofs.entry.same.Given as goal

abbrev pub invariant-loop-i : goal.invariant-loop-i
invariant-loop-i l = l.agree ≡ agreed l.i l.left l.right
