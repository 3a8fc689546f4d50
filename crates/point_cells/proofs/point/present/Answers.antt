use native.Mathlib.Nat.{one-mul}
use Rattle.point_darts.specs.Point.{bits, right, left, parts, present}
use Rattle.point_cells.proofs.point.present.Goals as goal

pub returns : goal.returns
unfolding bits right left parts present
returns c =
    let d = c.before.before.before in
    let e = d.before in
    rw (
      d.where_differ-east.ensures.0,
      c.where_differ-south.ensures.0,
      c.where_differ-west.ensures.0,
      c.where_differ-north.ensures.0,
      e.corner-nw.ensures,
      e.corner-ne.ensures,
      e.corner-sw.ensures,
      e.corner-se.ensures,
      one-mul,
    )
