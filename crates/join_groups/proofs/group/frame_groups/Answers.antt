use mathlib.Core.Path.{sym, ap, ◌∙◌}
use mathlib.Core.List.{map}
use Prim.Native.Nat.{suc, ◌+◌}
use native.Mathlib.Omega.{arith}
use Rattle.sheet_size.proofs.Limit.{within_limits}
use Rattle.point_darts.proofs.Fit.{points_fit}
use Rattle.table_entries.proofs.Front.{front_in, front_long, front_back}
use Rattle.region_names.specs.Frame.{framed}
use Rattle.region_names.proofs.Room.{surround_part}
use Rattle.join_groups.proofs.Regrouping.{forest_down}
use Rattle.join_groups.proofs.group.frame_groups.Goals as goal

pub overflow_add-around : goal.overflow_add-around
overflow_add-around c =
    let e = c.args.size.limited in
    omega (arith, c.points.ensures, points_fit _ _ e, (within_limits _ _ e).width_most)

pub overflow_add-around-2 : goal.overflow_add-around-2
overflow_add-around-2 c =
    let e = c.args.size.limited in
    omega (arith, c.points.ensures, points_fit _ _ e, (within_limits _ _ e).width_most)

pub slice_bounds-frame-end : goal.slice_bounds-frame-end
slice_bounds-frame-end c =
    front_in _ _ c.args.round.now c.requires.1 (surround_part _ _ _ c.points.ensures)

pub slice_bounds-frame-end-2 : goal.slice_bounds-frame-end-2
slice_bounds-frame-end-2 c =
    sym (front_long _ _ c.args.round.now c.requires.1 (surround_part _ _ _ c.points.ensures))

pub frame-requires : goal.frame-requires
frame-requires c =
    let (n, l, g) = c.requires in
    let e = c.points.ensures in (
      c.flatten.auto.nodes ∙ n,
      forest_down _ _ _ _ _ (c.flatten.ensures g) g.forest,
      front_long _ _ c.args.round.now l (surround_part _ _ _ e) ∙ ap (λ n. n + c.args.size.width + 2) e,
    )

pub returns : goal.returns
returns c l g =
    let e = c.points.ensures in
    rw (← e)
    (front_back _ _ c.args.round.now c.requires.1 (surround_part _ _ _ e) c.frame.new.names c.frame.auto.names)
    ∙ c.frame.ensures
    ∙ ap (λ u. framed c.args.size.width c.args.size.height (map suc u)) (c.flatten.ensures (record { labels = l; forest = g }))
