use lib.ListN.{length}
use Rattle.laws.specs.Table.{number}
use Rattle.table_entries.proofs.Filled.{Filled}
use Rattle.level_kept.specs.Keep.{large}
use Rattle.level_kept.proofs.keep.larges.Given as goal

abbrev pub invariant-loop-i : goal.invariant-loop-i
invariant-loop-i l = Filled (length l.initial.kept) (λ p. number (large l.masks p)) l.i l.initial.kept l.kept
