use Rattle.join_groups.proofs.Standing.{standing_grown}
use Rattle.join_groups.proofs.Regrouping.{standing_cells, stopped_regrouped}
use Rattle.join_groups.proofs.group.regroup.Goals as goal

pub join_each-end-requires : goal.join_each-end-requires
join_each-end-requires c =
    let p = c.requires in
    let (t, d, q, z) = p.6 in
    (p.0, (_, t, standing_cells _ _ _ _ _ _ _ _ t z (c.start.ensures t d q)))

pub frame_groups-requires : goal.frame_groups-requires
frame_groups-requires c =
    let p = c.requires in
    let (t, d, q, z) = p.6 in
    let v = (c.join_each-end.ensures _ t (standing_cells _ _ _ _ _ _ _ _ t z (c.start.ensures t d q))).standing in
    (v.noded, v.listed.0, standing_grown _ _ _ _ _ _ _ _ _ v)

pub returns : goal.returns
returns c t d q z =
    stopped_regrouped _ _ _ _ _ t _ _ _ _ _ _ _
    (c.join_each-end.ensures _ t (standing_cells _ _ _ _ _ _ _ _ t z (c.start.ensures t d q))) c.frame_groups.ensures
