use mathlib.Core.Path.{sym, ◌∙◌}
use Rattle.table_entries.proofs.Front.{front_long}
use Rattle.region_names.proofs.Room.{points_part}
use Rattle.drawing.proofs.parts.draw_parents.Goals as goal

pub slice_bounds-find_parents-end : goal.slice_bounds-find_parents-end
slice_bounds-find_parents-end c =
    sym (front_long _ _ c.args.top.now c.requires.0 (points_part _ _ _ c.points-n.ensures))

pub find_parents-requires : goal.find_parents-requires
find_parents-requires c =
    let e = c.points-n.ensures in (
      front_long _ _ c.args.top.now c.requires.0 (points_part _ _ _ e) ∙ e,
      rw e c.requires.1,
      c.requires.2,
      c.requires.3,
    )
