use mathlib.Core.Path.{sym, ◌∙◌}
use Rattle.point_darts.specs.Dart.{mark}
use Rattle.level_curves.proofs.Linking.{next_read, next_point, next_starts, off_start, linking_skip, linking_near}
use Rattle.level_curves.proofs.link.link_dart.Goals as goal

pub returns-then-after : goal.returns-then-after
unfolding mark
returns-then-after c =
    let q = c.requires in
    linking_skip q.0 (off_start _ _ _ (sym (next_read q.0 q.1) ∙ c.if-after.true))

pub bounds-kept-point : goal.bounds-kept-point
unfolding mark
bounds-kept-point c =
    let q = c.requires in
    rw c.point.ensures (next_point q.0 q.1 c.if-after.false)

pub returns-then-kept-point-eq1 : goal.returns-then-kept-point-eq1
unfolding mark
returns-then-kept-point-eq1 c =
    let q = c.requires in
    linking_near q.0 q.1 c.if-after.false _ _ q.2 c.point.ensures c.if-kept-point-eq1.true c.reversal.ensures

pub link_run-requires : goal.link_run-requires
unfolding mark
link_run-requires c =
    let q = c.requires in
    (q.0, q.1, next_starts q.0 q.1 c.if-after.false q.2)
