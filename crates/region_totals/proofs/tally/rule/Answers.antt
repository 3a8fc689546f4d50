use Rattle.region_totals.specs.Tally.{name_at, lines_at}
use Rattle.region_totals.proofs.Tallying.{ruled_more}
use Rattle.region_totals.proofs.tally.rule.Goals as goal

pub loop-p-preserved : goal.loop-p-preserved
unfolding lines_at name_at
loop-p-preserved c =
    ruled_more _ _ _ _ _ _ _ c.loop-p-test.true c.requires.2 c.lines_of.ensures.0 c.loop-p.invariant
