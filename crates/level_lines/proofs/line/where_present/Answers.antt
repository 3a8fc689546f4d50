use Rattle.point_darts.specs.Dart.{mark}
use borrow.Author.Tests.{ne_eqb}
use Rattle.level_lines.proofs.line.where_present.Goals as goal

pub returns-else-bit-eq1 : goal.returns-else-bit-eq1
unfolding mark
returns-else-bit-eq1 c = rw (ne_eqb _ _ c.if-bit-eq1.false)
