use mathlib.Core.Path.{sym, ◌∙◌}
use Rattle.join_shared.proofs.Chasing.{goes_on, leaps_not}
use Rattle.join_shared.proofs.chase.goes_on.Goals as goal

pub returns-then-is_shared : goal.returns-then-is_shared
returns-then-is_shared c =
    goes_on _ _ _ _ _ c.get.ensures c.get-then-is_shared.ensures
    (sym c.is_shared.ensures ∙ c.if-is_shared.true)

pub returns : goal.returns
returns c = leaps_not _ _ _ (sym c.is_shared.ensures ∙ c.if-is_shared.false)
