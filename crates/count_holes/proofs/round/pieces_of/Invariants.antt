use mathlib.Core.Path.{◌≡◌}
use Rattle.laws.specs.Table.{count}
use Rattle.count_holes.proofs.Rounding.{rounded_by}
use Rattle.count_holes.proofs.round.pieces_of.Given as goal

abbrev pub invariant-loop-p : goal.invariant-loop-p
invariant-loop-p l = l.count ≡ count l.p (rounded_by l.side l.tops l.name)
