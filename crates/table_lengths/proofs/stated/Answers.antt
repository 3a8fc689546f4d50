use mathlib.Core.Path.{ap}
use mathlib.Core.Bool.{not}
use native.Mathlib.Omega.{arith}
use Rattle.point_darts.proofs.Fit.{cells_fit}
use Rattle.table_lengths.proofs.Tested.{names_differ, names_same}
use Rattle.table_lengths.proofs.stated.Goals as goal

pub overflow_mul-names : goal.overflow_mul-names
overflow_mul-names c = omega (arith, cells_fit _ _ c.args.size.limited)

pub overflow_add-names : goal.overflow_add-names
overflow_add-names c = omega (arith, cells_fit _ _ c.args.size.limited)

pub returns-then-not-all_are : goal.returns-then-not-all_are
returns-then-not-all_are c = names_differ _ _ _ _ _ c.all_are.ensures (ap not c.if-not-all_are.true)

pub returns : goal.returns
returns c =
    names_same _ _ _ _ _ c.all_are.ensures (ap not c.if-not-all_are.false) _ c.slots.ensures _ c.all_are-2.ensures
