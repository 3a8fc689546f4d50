use Prim.Native.Nat.{◌+◌}
use native.Mathlib.Omega.{arith}
use Rattle.point_darts.specs.Dart.{mark}
use Rattle.region_totals.specs.Tally.{name_at}
use Rattle.region_totals.proofs.Tallying.{lines_most, room_cells, room_past, odd_more}
use Rattle.region_totals.proofs.tally.tally_odd.Goals as goal

pub add-requires : goal.add-requires
unfolding mark name_at
add-requires c =
    let q = c.requires in
    let t = q.5.tallied in
    let v = q.0 (c.args.p + (c.args.width + 2)) in
    (omega (arith, v, q.3, t.long_odd), omega (arith, room_cells _ _ _ _ _ _ _ _ t v, q.2, q.4))

pub add-requires-2 : goal.add-requires-2
unfolding mark name_at
add-requires-2 c =
    let q = c.requires in
    let t = q.5.tallied in
    let v = q.0 (c.args.p + (c.args.width + 2)) in (
      omega (arith, v, q.3, c.add.auto.table, t.long_odd),
      rw c.add.ensures
          (omega (
            arith,
            room_past _ _ _ _ _ _ _ _ t v,
            t.lines _ q.4,
            lines_most c.args.width c.args.round.now c.args.p,
            q.2,
            q.4,
          )),
    )

pub returns : goal.returns
unfolding name_at
returns c b e t =
    let q = c.requires in
    let v = q.0 (c.args.p + (c.args.width + 2)) in
    rw (c.add-2.ensures, c.add.ensures) (odd_more _ _ _ _ _ _ _ _ t v _ (t.lines _ q.4) q.3)
