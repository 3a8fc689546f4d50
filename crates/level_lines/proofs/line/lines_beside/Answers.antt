use mathlib.Core.Path.{refl}
use native.Mathlib.Omega.{arith}
use Rattle.table_entries.proofs.Entries.{at_in}
use Rattle.level_lines.proofs.line.lines_beside.Goals as goal

pub returns : goal.returns
returns c = (at_in _ _ (omega arith), refl, at_in _ _ (omega arith), refl)
