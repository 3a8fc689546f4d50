use Rattle.paper.specs.Refusal.{deepened}
use Rattle.count_call.proofs.Accepted.{countable}
use Rattle.count_call.proofs.Told.{count_told}
use Rattle.count_call.proofs.count.depth.Goals as goal

pub depth_after-requires : goal.depth_after-requires
depth_after-requires c = countable _ _ _ _ _ _ _ _ c.check-answer.ensures

pub returns : goal.returns
unfolding deepened
returns c = count_told _ _ _ _ _ _ _ _ c.check-answer.ensures _ c.depth_after.ensures
