use mathlib.Core.Path.{sym, ap, ◌∙◌}
use native.Mathlib.Omega.{arith}
use lib.ListN.{length-set}
use Rattle.laws.proofs.Test.{and_left}
use Rattle.point_darts.specs.Dart.{mark}
use Rattle.paper.specs.Joining.{at, on}
use Rattle.table_entries.proofs.Entries.{at_in}
use Rattle.level_curves.specs.Link.{starts}
use Rattle.level_curves.proofs.Linking.{linking_done, linking_both, links_found, end_below}
use Rattle.level_curves.proofs.link.link_run.Goals as goal

pub returns-then-other-i : goal.returns-then-other-i
unfolding mark
returns-then-other-i c =
    let q = c.requires in
    linking_done q.0 (λ e. c.if-other-i.true (at_in _ _ (omega (arith, q.1, q.0.others)) ∙ e))

pub last-last-requires : goal.last-last-requires
unfolding starts
last-last-requires c =
    let q = c.requires in
    (q.0.runs.stays, q.0.points ∙ sym q.0.lines, and_left (on _ _) _ q.2)

pub bounds-next-end : goal.bounds-next-end
bounds-next-end c =
    let q = c.requires in
    let l = c.last-last.ensures in
    let e = (links_found _ _ _ _ q.2 _ _ _ l.0 l.1 c.reversal-end.ensures).1 in
    rw length-set (omega (arith, e, end_below q.0 q.1 q.2, q.0.nexts))

pub bounds-other-end : goal.bounds-other-end
bounds-other-end c =
    let q = c.requires in
    let l = c.last-last.ensures in
    let e = (links_found _ _ _ _ q.2 _ _ _ l.0 l.1 c.reversal-end.ensures).1 in
    rw length-set (omega (arith, e, end_below q.0 q.1 q.2, q.0.others))

pub returns : goal.returns
returns c =
    let q = c.requires in
    let l = c.last-last.ensures in
    let f = links_found _ _ _ _ q.2 _ _ _ l.0 l.1 c.reversal-end.ensures in
    linking_both q.0 _ _ _ q.1 q.2 f.0 f.1 (c.get-back.ensures ∙ ap (at _) c.back.ensures)
