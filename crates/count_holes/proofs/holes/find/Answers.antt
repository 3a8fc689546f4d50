use mathlib.Core.Path.{◌∙◌}
use Rattle.count_holes.proofs.Sizing.{sized}
use Rattle.count_holes.proofs.holes.find.Goals as goal

pub pieces_of-requires : goal.pieces_of-requires
pieces_of-requires c =
    let q = c.requires in
    (sized _ _ _ _ c.args.size.limited q.0 (c.top_points.auto.top ∙ q.1), q.2)
