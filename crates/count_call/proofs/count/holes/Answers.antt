use Rattle.paper.specs.Refusal.{holed}
use Rattle.count_call.proofs.Accepted.{accepted_lent}
use Rattle.count_call.proofs.Told.{count_told}
use Rattle.count_call.proofs.count.holes.Goals as goal

pub holes_after-requires : goal.holes_after-requires
holes_after-requires c =
    accepted_lent _ _ _ _ _ _ _ _ c.check-answer.ensures

pub returns : goal.returns
unfolding holed
returns c =
    rw c.holes_after.ensures.1 (count_told _ _ _ _ _ _ _ _ c.check-answer.ensures _ c.holes_after.ensures.0)
