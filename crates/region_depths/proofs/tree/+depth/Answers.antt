use Rattle.std.proofs.Common.{◌+◌, ◌∙◌, ap, zero-le, arith}
use Rattle.region_depths.proofs.Climb.{climb_known, climb_up, climb_ends}
use Rattle.region_depths.proofs.tree.+depth.Goals as goal

pub depth-requires : goal.depth-requires
depth-requires t c =
    let q = c.requires in (
      omega (arith, c.if-up-name.true, c.decreases),
      (q.0, omega (arith, q.1), climb_known _ q.0 _ q.1 q.2 c.if-up-name.true),
    )

pub returns-then-up-name : goal.returns-then-up-name
returns-then-up-name t c =
    let q = c.requires in
    (ap (λ k. k + 1) c.depth.ensures.0 ∙ climb_up _ q.0 _ q.1 q.2 c.if-up-name.true, omega arith)

pub returns-else-up-name : goal.returns-else-up-name
returns-else-up-name t c =
    let q = c.requires in
    (climb_ends _ q.0 _ q.1 q.2 c.if-up-name.false, zero-le)
