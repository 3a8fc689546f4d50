use Rattle.join_shared.proofs.Chasing.{chase_four, chase_rests}
use Rattle.join_shared.proofs.chase.chase.Goals as goal

pub returns-then-second-dart : goal.returns-then-second-dart
returns-then-second-dart c = chase_rests _ _ _ _ c.goes_on-second.ensures c.if-second-dart.true

pub returns : goal.returns
returns c =
    chase_four _ _ _ _ _ _ _ c.goes_on-second.ensures c.goes_on-third.ensures
    c.goes_on-fourth.ensures
    c.goes_on.ensures
