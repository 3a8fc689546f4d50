use mathlib.Core.Path.{sym, ◌∙◌}
use Rattle.table_entries.proofs.Front.{front_long}
use Rattle.region_names.proofs.Room.{points_part}
use Rattle.drawing.proofs.parts.draw_curves.Goals as goal

pub slice_bounds-links-end : goal.slice_bounds-links-end
slice_bounds-links-end c =
    sym (front_long _ _ c.args.kept.now c.requires.0 (points_part _ _ _ c.points-n.ensures))

pub links-requires : goal.links-requires
links-requires c =
    let e = c.points-n.ensures in (
      c.requires.1,
      c.requires.2,
      c.requires.3,
      front_long _ _ c.args.kept.now c.requires.0 (points_part _ _ _ e) ∙ e,
      rw e c.requires.4,
    )
