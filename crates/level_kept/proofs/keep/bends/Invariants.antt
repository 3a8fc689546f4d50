use Rattle.level_kept.specs.Keep.{large, kind_at}
use lib.Dec.{eqb}
use mathlib.Core.Bool.{◌||◌}
use Rattle.laws.specs.Table.{number}
use Rattle.table_entries.proofs.Filled.{Filled}
use Rattle.level_kept.proofs.keep.bends.Given as goal

abbrev pub invariant-loop-i : goal.invariant-loop-i
invariant-loop-i l = Filled l.n (λ p. number (large l.masks p || eqb (kind_at l.masks p) 2)) l.i l.initial.kept l.kept
