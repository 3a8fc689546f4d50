use mathlib.Core.Path.{sym, ap, ◌∙◌}
use Prim.Native.Nat.{◌+◌}
use Rattle.table_entries.proofs.Front.{front_long}
use Rattle.region_names.proofs.Room.{surround_part}
use Rattle.drawing.proofs.parts.draw_totals.Goals as goal

pub slice_bounds-totals-end : goal.slice_bounds-totals-end
slice_bounds-totals-end c =
    sym (front_long _ _ c.args.round.now c.requires.0 (surround_part _ _ _ c.points.ensures))

pub totals-requires : goal.totals-requires
totals-requires c =
    let q = c.requires in
    let e = c.points.ensures in (
      front_long _ _ c.args.round.now q.0 (surround_part _ _ _ e) ∙ ap (λ n. n + c.args.size.width + 2) e,
      rw e q.1,
      q.2,
      q.3,
      q.4,
    )
