use native.Mathlib.Omega.{arith}
use Rattle.point_darts.specs.Dart.{mark, dart}
use Rattle.level_lines.proofs.Pointing.{beside_fit, next_is}
use Rattle.level_lines.proofs.line.next_at.Goals as goal

pub besides-far-requires : goal.besides-far-requires
unfolding mark dart
besides-far-requires c = omega arith

pub follow_four-requires : goal.follow_four-requires
follow_four-requires c =
    beside_fit _ _ _ _ _ _ c.requires.1 c.besides-far.ensures

pub returns : goal.returns
returns c =
    let a = c.args in
    next_is a.width a.p _ _ c.besides-far.ensures c.follow_four.ensures
    c.put_present.ensures
    (c.get.ensures, c.get-2.ensures, c.get-3.ensures, c.get-4.ensures)
