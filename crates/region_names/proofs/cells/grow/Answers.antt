use Rattle.region_names.proofs.Neighbour.{west_column, west_back, north_back}
use Rattle.table_forest.proofs.Reach.{tied_by}
use Rattle.region_names.proofs.cells.grow.Goals as goal

pub plant-requires : goal.plant-requires
plant-requires c =
    let q = c.requires in
    let w = west_column _ _ _ _ _ q.0 c.west-w.ensures in
    (q.3, q.2, west_back _ _ _ _ w, north_back _ _ _ _ c.north-n.ensures)

pub returns : goal.returns
returns c g =
    let w = west_column _ _ _ _ _ c.requires.0 c.west-w.ensures in
    tied_by _ _ _ _ _ _ _ _ w c.north-n.ensures (c.plant.ensures g)
