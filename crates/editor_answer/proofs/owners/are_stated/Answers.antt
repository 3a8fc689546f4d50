use mathlib.Core.Path.{sym, ◌∙◌}
use native.Mathlib.Omega.{arith}
use Rattle.point_darts.proofs.Fit.{cells_fit}
use Rattle.editor_answer.proofs.owners.are_stated.Goals as goal

pub overflow_mul-result : goal.overflow_mul-result
overflow_mul-result c = omega (arith, cells_fit _ _ (sym c.within.ensures ∙ c.if-not-within.false))

pub overflow_add-result : goal.overflow_add-result
overflow_add-result c = omega (arith, cells_fit _ _ (sym c.within.ensures ∙ c.if-not-within.false))
