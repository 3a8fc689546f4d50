use mathlib.Core.Path.{◌∙◌}
use Rattle.region_parents.proofs.Rise.{tops_rising}
use Rattle.join_rule.proofs.Applying.{settle_links}
use Rattle.join_rule.proofs.apply.settle_curves.Goals as goal

pub close-requires : goal.close-requires
close-requires c =
    let q = c.requires in (
      c.point_table-point_table.ensures,
      q.4,
      q.0,
      q.1,
      c.smooth.auto.next ∙ q.2,
      c.top_points.auto.top ∙ q.3,
      tops_rising _ _ _ _ c.top_points.ensures,
      rw (c.top_points.ensures, c.smooth.ensures) q.5.closing,
    )

pub returns : goal.returns
returns c =
    let t = c.top_points.ensures in
    (settle_links _ _ _ _ t _ _ _ c.smooth.ensures c.close.ensures, t)
