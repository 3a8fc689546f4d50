use mathlib.Core.Path.{sym}
use native.Mathlib.Omega.{arith}
use Rattle.point_darts.proofs.Fit.{cells_fit}
use Rattle.level_answer.proofs.refusal.Goals as goal

pub overflow_mul-width : goal.overflow_mul-width
overflow_mul-width c = omega (arith, cells_fit _ _ (sym c.in-Some.ensures.tested))
