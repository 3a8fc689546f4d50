use Rattle.count_turns.proofs.Taking.{met_before, met_after}
use Rattle.count_turns.proofs.turns.is_met.Goals as goal

pub returns-then-other-d : goal.returns-then-other-d
returns-then-other-d c =
    met_before _ _ _ c.requires c.if-other-d.true _ c.get.ensures

pub returns : goal.returns
returns c = met_after _ _ _ c.requires c.if-other-d.false
