use mathlib.Core.Path.{sym, ◌∙◌}
use native.Mathlib.Omega.{arith}
use Rattle.point_darts.specs.Dart.{mark, point, reversed}
use Rattle.point_darts.proofs.Back.{on_sheet, back}
use Rattle.point_darts.proofs.dart.Dart.reversal.Goals as goal

pub returns-then-not-on_sheet : goal.returns-then-not-on_sheet
unfolding mark reversed
returns-then-not-on_sheet c = rw (← c.on_sheet.ensures, c.if-not-on_sheet.true)

pub back-requires : goal.back-requires
unfolding mark point
back-requires c =
    omega (arith, on_sheet _ _ _ (sym c.on_sheet.ensures ∙ c.if-not-on_sheet.false))

pub returns : goal.returns
returns c =
    c.back.ensures ∙ back _ _ _ (sym c.on_sheet.ensures ∙ c.if-not-on_sheet.false)
