use mathlib.Core.Path.{◌≡◌}
use lib.Seq.{paste}
use Rattle.deck_reading.proofs.fill.copy.Given as goal

abbrev pub invariant-loop-i : goal.invariant-loop-i
invariant-loop-i l = l.cells ≡ paste l.initial.cells l.from l.row l.i
