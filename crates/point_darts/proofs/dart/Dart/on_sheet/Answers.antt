use mathlib.Core.Path.{sym, ◌∙◌}
use native.Mathlib.Omega.{arith}
use Rattle.sheet_size.proofs.Limit.{within_limits}
use Rattle.point_darts.proofs.Rows.{off_rows, on_rows}
use Rattle.point_darts.proofs.dart.Dart.on_sheet.Goals as goal

pub overflow_add-row : goal.overflow_add-row
overflow_add-row c =
    omega (arith, within_limits _ _ (sym c.within.ensures ∙ c.if-not-within.false))

pub returns-then-height-point : goal.returns-then-height-point
returns-then-height-point c =
    off_rows _ _ _ _ (sym c.within.ensures ∙ c.if-not-within.false) c.point-point.ensures c.if-height-point.true

pub returns : goal.returns
returns c =
    on_rows _ _ _ _ (sym c.within.ensures ∙ c.if-not-within.false)
    c.point-point.ensures c.if-height-point.false _ c.direction.ensures _ c.stays.ensures
