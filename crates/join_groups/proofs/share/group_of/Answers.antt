use native.Mathlib.Omega.{arith}
use Rattle.join_groups.proofs.Finding.{group_outside, cell_planted, found_below, group_found}
use Rattle.join_groups.proofs.share.group_of.Goals as goal

pub returns-then-name-eq0 : goal.returns-then-name-eq0
returns-then-name-eq0 c l f = (f, group_outside l _ c.if-name-eq0.true)

pub overflow_add-result : goal.overflow_add-result
overflow_add-result c =
    let (g, b) = c.requires in
    let n = c.if-name-eq0.false in
    omega (arith, found_below _ _ _ _ _ n (c.find.ensures (cell_planted _ _ n b g.labels g.forest)))

pub returns : goal.returns
returns c l f =
    let n = c.if-name-eq0.false in
    let b = c.requires.1 in
    let r = c.find.ensures (cell_planted _ _ n b l f) in
    (r.forest, group_found _ _ _ _ _ n r)
