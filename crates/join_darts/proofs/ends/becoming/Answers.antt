use native.Mathlib.Omega.{arith}
use Rattle.point_rules.proofs.Becoming.{either_below, either_left, becoming_entry}
use Rattle.join_darts.proofs.ends.becoming.Goals as goal

pub overflow_sub-taken : goal.overflow_sub-taken
overflow_sub-taken c = either_left _ _ c.requires.1 c.requires.2

pub bounds-point_table-present : goal.bounds-point_table-present
bounds-point_table-present c = omega (arith, either_below _ _ c.requires.1 c.requires.2)

pub returns : goal.returns
returns c = becoming_entry _ _ c.requires.1 c.requires.2 _ c.requires.0
