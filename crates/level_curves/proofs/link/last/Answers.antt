use mathlib.Core.Path.{ap, ◌∙◌}
use Rattle.paper.specs.Joining.{at}
use Rattle.table_entries.proofs.Entries.{at_in, on_below}
use Rattle.level_curves.proofs.Linking.{after_on, after_below, after_point}
use Rattle.level_curves.proofs.Running.{running_none, running_stop, running_more, running_out}
use Rattle.level_curves.proofs.link.last.Goals as goal

pub bounds-next-start : goal.bounds-next-start
bounds-next-start c = on_below _ _ c.requires.2

pub loop-init : goal.loop-init
loop-init c =
    let q = c.requires in
    (running_none _ _ _ _ _ (at_in _ _ (on_below _ _ q.2)), q.2)

pub bounds-kept-point : goal.bounds-kept-point
bounds-kept-point c =
    let i = c.loop.invariant in
    rw c.point.ensures (after_point _ c.requires.0 _ _ i.1 i.0.after c.args.kept.now c.requires.1)

pub returns-then-kept-point-eq1 : goal.returns-then-kept-point-eq1
returns-then-kept-point-eq1 c =
    let i = c.loop.invariant in
    let p = c.point.ensures in
    let b = after_point _ c.requires.0 _ _ i.1 i.0.after c.args.kept.now c.requires.1 in
    running_stop _ _ _ _ _ _ _ i.0 _ (at_in _ _ (rw p b) ∙ ap (at _) p) c.if-kept-point-eq1.true

pub bounds-next-after : goal.bounds-next-after
bounds-next-after c =
    after_below _ c.requires.0 _ _ c.loop.invariant.1 c.loop.invariant.0.after

pub loop-preserved : goal.loop-preserved
loop-preserved c =
    let i = c.loop.invariant in
    let p = c.point.ensures in
    let b = after_point _ c.requires.0 _ _ i.1 i.0.after c.args.kept.now c.requires.1 in
    let f = after_on _ c.requires.0 _ _ i.1 i.0.after in (
      running_more _ _ _ _ _ _ _ i.0 _ _ c.loop-test.true (at_in _ _ (rw p b) ∙ ap (at _) p)
          c.if-kept-point-eq1.false (at_in _ _ (on_below _ _ f)),
      f,
    )

pub returns : goal.returns
returns c = running_out _ _ _ _ _ _ _ c.loop.invariant.0 c.loop-test.false
