use mathlib.Core.Path.{refl, sym, ◌∙◌}
use native.Mathlib.Omega.{arith}
use Rattle.region_totals.proofs.Paper.{totals_all}
use Rattle.region_totals.proofs.Tallying.{tallied_small, cells_points, four_fit, four_slots}
use Rattle.region_totals.proofs.total.totals.Goals as goal

pub tally-requires : goal.tally-requires
tally-requires c =
    let e = c.points-points.ensures in
    let q = c.requires in (
      rw q.2 q.1,
      rw (← e) at q.0,
      four_fit _ _ _ c.args.size.limited e,
      omega (arith, q.2, cells_points c.args.size.width c.args.size.height, e),
      refl,
      q.3 ∙ sym q.2,
      four_slots _ _ _ _ e q.4,
    )

pub add_up-requires : goal.add_up-requires
add_up-requires c =
    let e = c.points-points.ensures in
    let t = c.tally.ensures in
    let f = four_fit _ _ _ c.args.size.limited e in (
      t.long_borders ∙ sym t.long_cells,
      omega (arith, t.long_cells, t.long_odd, c.requires.2, cells_points c.args.size.width c.args.size.height, e),
      omega (arith, t.long_odd, f),
      tallied_small _ _ _ _ _ _ _ t f,
    )

pub returns : goal.returns
returns c =
    let t = c.tally.ensures in
    totals_all _ _ _ _ _ _ _ _ _ _ t c.points-points.ensures c.requires.2 t.long_cells c.add_up.ensures.0 c.add_up.ensures.1
