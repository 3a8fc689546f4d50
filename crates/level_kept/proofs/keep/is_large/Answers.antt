use Rattle.level_kept.proofs.Flags.{large_compared}
use Rattle.level_kept.proofs.keep.is_large.Goals as goal

pub returns : goal.returns
returns c = large_compared _
