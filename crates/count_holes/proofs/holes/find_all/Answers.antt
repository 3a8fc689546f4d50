use mathlib.Core.Path.{◌∙◌}
use Rattle.count_holes.proofs.Sizing.{sized}
use Rattle.count_holes.proofs.holes.find_all.Goals as goal

pub all_pieces-requires : goal.all_pieces-requires
all_pieces-requires c =
    let q = c.requires in
    (sized _ _ _ _ c.args.size.limited q.0 (c.top_points.auto.top ∙ q.2), q.1)
