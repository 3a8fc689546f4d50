use mathlib.Core.Path.{◌∙◌}
use Rattle.join_smooth.proofs.Splicing.{smooth_other, smooth_two}
use Rattle.join_smooth.proofs.smooth.smooth_point.Goals as goal

pub returns-then-not-two : goal.returns-then-not-two
returns-then-not-two c =
    smooth_other _ _ _ c.mask-left.ensures.0 _ c.two.ensures (c.if-not-two.true)

pub returns : goal.returns
returns c =
    c.smooth_edge.ensures
    ∙ smooth_two _ _ _ c.mask-left.ensures.0 _ c.two.ensures (c.if-not-two.false) _ _
    c.seen-seen.ensures.0 c.seen-seen.ensures.1
