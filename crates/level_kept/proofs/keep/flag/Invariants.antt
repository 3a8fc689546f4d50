use Rattle.std.proofs.Common.{◌≡◌}
use Rattle.laws.specs.Table.{number}
use Rattle.level_kept.specs.Keep.{large}
use Rattle.level_kept.proofs.Flags.{flags}
use Rattle.level_kept.proofs.keep.flag.Given as goal

abbrev pub invariant-loop-i : goal.invariant-loop-i
invariant-loop-i l = (l.kept ≡ flags l.n l.masks l.tops l.i) × (l.flag ≡ number (large l.masks l.i))
