use mathlib.Core.Path.{◌∙◌}
use native.Mathlib.Omega.{arith}
use Rattle.point_darts.specs.Dart.{mark}
use Rattle.join_totals.proofs.Adding.{added_less, added_more}
use Rattle.join_totals.proofs.total.add_up.Goals as goal

pub overflow_add-sum : goal.overflow_add-sum
unfolding mark
overflow_add-sum c =
    omega (arith, c.get-2.ensures, c.get.ensures, c.requires.0)

pub returns-then-a-b : goal.returns-then-a-b
unfolding mark
returns-then-a-b c =
    c.put_pair.ensures
    ∙ rw (c.get-2.ensures, c.get.ensures) (added_less _ _ _ _ c.if-a-b.true)

pub returns-else-a-b : goal.returns-else-a-b
unfolding mark
returns-else-a-b c =
    c.put_pair-else-a-b.ensures
    ∙ rw (c.get-2.ensures, c.get.ensures) (added_more _ _ _ _ c.if-a-b.false)
