use Rattle.level_kept.specs.Keep.{settles}
use Rattle.table_entries.proofs.Filled.{Filled}
use Rattle.level_kept.proofs.keep.settle.Given as goal

abbrev pub invariant-loop-p : goal.invariant-loop-p
invariant-loop-p l = Filled l.n (settles l.masks l.tops l.initial.kept) l.p l.initial.kept l.kept
