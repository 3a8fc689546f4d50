use mathlib.Core.Path.{refl}
use Rattle.point_rules.specs.Turn.{is_right, is_left}
use Rattle.count_turns.proofs.turns.counted.Goals as goal

pub returns-in-Right : goal.returns-in-Right
unfolding is_right is_left
returns-in-Right c = rw c.in-Right.is (refl, refl)

pub returns-in-Straight : goal.returns-in-Straight
unfolding is_right is_left
returns-in-Straight c = rw c.in-Straight.is (refl, refl)

pub returns-in-Left : goal.returns-in-Left
unfolding is_right is_left
returns-in-Left c = rw c.in-Left.is (refl, refl)

pub returns-in-Back : goal.returns-in-Back
unfolding is_right is_left
returns-in-Back c = rw c.in-Back.is (refl, refl)

pub returns-in-None : goal.returns-in-None
unfolding is_right is_left
returns-in-None c = rw c.in-None.is (refl, refl)
