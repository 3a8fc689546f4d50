use Rattle.region_totals.proofs.Tallying.{tallied_none}
use Rattle.region_totals.proofs.tally.tally.Goals as goal

pub tally_points-requires : goal.tally_points-requires
tally_points-requires c =
    let q = c.requires in (
      q.0,
      q.1,
      q.2,
      q.3,
      tallied_none _ _ _ _ _ _ _ c.rule.ensures (rw q.4 at c.clear.ensures) (rw q.5 at c.clear-2.ensures),
    )
