use mathlib.Core.Path.{◌≡◌, sym, ◌∙◌}
use Prim.Native.Nat.{ℕ, ◌+◌, ◌≤◌, ◌<◌}
use native.Mathlib.Omega.{arith}
use lib.ListN.{length}
use Rattle.sheet_size.specs.Size.{widest}
use Rattle.point_darts.specs.Dart.{mark, dart}
use Rattle.paper.specs.Level.{tops}
use Rattle.point_darts.proofs.Fit.{width_fit, darts_fit, row_fit}
use Rattle.table_forest.proofs.Reach.{growing, reached_none, reached_more, reached_grown, reached_least}
use Rattle.level_pieces.proofs.points.top_points.Goals.{After-points-n, In-loop-p}
use Rattle.level_pieces.proofs.points.top_points.Goals.at as at
use Rattle.level_pieces.proofs.points.top_points.Goals as goal

-- What is known of the size and the tables before the loops.
module _ (a : After-points-n) where
  row_in : a.args.size.width + 1 ≤ a.points-n.result
  row_in = omega (arith, a.points-n.ensures, row_fit a.args.size.width a.args.size.height)

  wide : a.args.size.width ≤ widest
  wide = width_fit _ _ a.args.size.limited

  fits : (p : ℕ) → p < a.points-n.result → (dart p 3 < mark) × (dart p 3 < length a.args.side.now)
  fits p b =
      let d = darts_fit _ _ a.args.size.limited _ a.points-n.ensures p b in
      (d.0, omega (arith, a.requires.0, d.1))

-- The point at hand is one of the sheet.
first-row : (l : In-loop-p) → l.loop-p.p < l.points-n.result
first-row l = omega (arith, row_in (at.In-loop-p l).After-points-n, l.loop-p-test.true)

pub overflow_add-row : goal.overflow_add-row
overflow_add-row c = omega (arith, row_in (at.overflow_add-row c).After-points-n)

pub loop-p-init : goal.loop-p-init
loop-p-init c = reached_none _ _ _ _ (c.requires.1 ∙ sym c.points-n.ensures)

pub grow_first-requires : goal.grow_first-requires
grow_first-requires c =
    let a = (at.grow_first-requires c).After-points-n in
    let f = c.loop-p.invariant in
    let b = first-row (at.grow_first-requires c).In-loop-p in
    let (d, e) = fits a _ b in
    (wide a, d, e, omega (arith, f.long, b), growing _ _ _ _ _ f)

pub loop-p-preserved : goal.loop-p-preserved
loop-p-preserved c =
    let g = c.grow_first in
    let f = c.loop-p.invariant in
    reached_more _ _ _ _ _ f _ g.auto.top (g.ensures (growing _ _ _ _ _ f))

pub loop-p-2-init : goal.loop-p-2-init
loop-p-2-init c =
    let e : c.loop-p.p ≡ c.args.size.width + 1 = omega (arith, c.loop-p-test.false) in
    rw e at c.loop-p.invariant

pub grow-requires : goal.grow-requires
grow-requires c =
    let a = (at.grow-requires c).After-points-n in
    let f = c.loop-p-2.invariant in
    let (d, e) = fits a _ c.loop-p-2-test.true in
    (wide a, c.loop-p-2.auto.p, d, e, omega (arith, f.long), growing _ _ _ _ _ f)

pub loop-p-2-preserved : goal.loop-p-2-preserved
loop-p-2-preserved c =
    let g = c.grow in
    let f = c.loop-p-2.invariant in
    reached_more _ _ _ _ _ f _ g.auto.top (g.ensures (growing _ _ _ _ _ f))

pub flatten-requires : goal.flatten-requires
flatten-requires c = reached_grown _ _ _ _ _ c.loop-p-2.invariant c.loop-p-2-test.false

pub returns : goal.returns
unfolding tops
returns c =
    rw (← c.points-n.ensures)
    (reached_least _ _ _ _ _ c.loop-p-2.invariant _ c.loop-p-2-test.false c.flatten.ensures)
