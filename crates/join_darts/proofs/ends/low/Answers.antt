use native.Mathlib.Omega.{arith}
use borrow.Author.Tests.{eq-eqb, ne_eqb}
use Rattle.point_darts.specs.Point.{has, half}
use Rattle.paper.specs.Joining.{low}
use Rattle.join_darts.proofs.ends.low.Goals as goal

pub returns-then-lines-eq1 : goal.returns-then-lines-eq1
unfolding low has half
returns-then-lines-eq1 c = (simp (eq-eqb _ _ c.if-lines-eq1.true), omega arith)

pub returns-then-lines-eq1-2 : goal.returns-then-lines-eq1-2
unfolding low has half
returns-then-lines-eq1-2 c = (simp (ne_eqb _ _ c.if-lines-eq1.false, eq-eqb _ _ c.if-lines-eq1-2.true), omega arith)

pub returns-then-lines-eq1-3 : goal.returns-then-lines-eq1-3
unfolding low has half
returns-then-lines-eq1-3 c =
    (simp (ne_eqb _ _ c.if-lines-eq1.false, ne_eqb _ _ c.if-lines-eq1-2.false, eq-eqb _ _ c.if-lines-eq1-3.true), omega arith)

pub returns : goal.returns
unfolding low has half
returns c =
    (simp (ne_eqb _ _ c.if-lines-eq1.false, ne_eqb _ _ c.if-lines-eq1-2.false, ne_eqb _ _ c.if-lines-eq1-3.false), omega arith)
