use mathlib.Core.Bool.{Bool, true, false}
use mathlib.Core.Path.{◌≡◌, refl, ap, ◌∙◌}
use mir.Val.{bool_byte}
use native.Mathlib.Omega.{arith}
use Rattle.laws.specs.Table.{number}
use Rattle.table_entries.proofs.Entries.{at_in}
use Rattle.table_entries.proofs.Filled.{filled_more, filled_all}
use Rattle.level_kept.proofs.Flags.{large_entry}
use Rattle.level_kept.proofs.keep.larges.Goals as goal

as_number : (b : Bool) → bool_byte b ≡ number b
as_number true = refl
as_number false = refl

pub loop-i-preserved : goal.loop-i-preserved
loop-i-preserved c =
    let b = c.loop-i-test.true in
    filled_more _ _ _ _ _ c.loop-i.invariant _ b
    (large_entry _ _ _ _ (at_in _ _ (omega (arith, c.requires, b)))
    (c.from.ensures ∙ as_number _ ∙ ap number c.is_large.ensures))

pub returns : goal.returns
returns c = filled_all _ _ _ _ _ c.loop-i.invariant c.loop-i-test.false
