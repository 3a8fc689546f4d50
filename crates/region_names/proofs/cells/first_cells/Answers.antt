use mathlib.Core.Path.{sym}
use native.Mathlib.Nat.{zero-mod}
use native.Mathlib.Omega.{arith}
use Rattle.sheet_size.proofs.Limit.{within_limits}
use Rattle.laws.proofs.Column.{column_on, column_back}
use Rattle.point_darts.proofs.Fit.{cells_fit}
use Rattle.table_forest.proofs.Reach.{growing, reached_none, reached_more, reached_least}
use Rattle.region_names.proofs.cells.first_cells.Goals as goal

pub overflow_mul-n : goal.overflow_mul-n
overflow_mul-n c = omega (arith, cells_fit _ _ c.args.size.limited)

pub loop-i-init : goal.loop-i-init
loop-i-init c = (reached_none _ _ _ _ c.requires.1, sym (zero-mod c.args.size.width))

pub loop-i-preserved : goal.loop-i-preserved
loop-i-preserved c =
    let g = c.grow in
    let f = c.loop-i.invariant in
    let some = (within_limits _ _ c.args.size.limited).width_some in (
      reached_more _ _ _ _ _ f.0 _ g.auto.first (g.ensures (growing _ _ _ _ _ f.0)),
      grind (arith, column_on _ some _ _ f.1, column_back _ some _ _ f.1),
    )

pub returns : goal.returns
returns c =
    reached_least _ _ _ _ _ c.loop-i.invariant.0 _ c.loop-i-test.false c.flatten.ensures
