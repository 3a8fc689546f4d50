use native.Mathlib.Omega.{arith}
use Rattle.point_darts.specs.Dart.{mark, dart}
use Rattle.level_lines.proofs.Pointing.{turn_of_le}
use Rattle.level_lines.proofs.line.follow.Goals as goal

pub leaving-requires : goal.leaving-requires
unfolding mark dart
leaving-requires c =
    let a = c.args in
    omega (arith, c.requires, c.next_line.ensures.0, turn_of_le a.lines a.direction)
