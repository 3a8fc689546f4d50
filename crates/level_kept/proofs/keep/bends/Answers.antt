use Rattle.table_entries.proofs.Entries.{at_entry}
use Rattle.level_kept.proofs.Flags.{bend_entry}
use mathlib.Core.Path.{sym, ◌∙◌, ap}
use Rattle.level_kept.specs.Keep.{large, kind_at, bends}
use lib.Dec.{eqb}
use mathlib.Core.Bool.{◌||◌}
use Rattle.laws.specs.Table.{number, table}
use native.Mathlib.Omega.{arith}
use Rattle.table_entries.proofs.Filled.{filled_more, filled_all}
use Rattle.level_kept.proofs.keep.bends.Goals as goal

pub loop-i-preserved : goal.loop-i-preserved
loop-i-preserved c =
    let b = c.loop-i-test.true in
    filled_more _ _ _ _ _ c.loop-i.invariant _ b (bend_entry _ c.args.masks.now _ _
    _ c.kinds-kinds.ensures (sym (at_entry c.args.masks.now _ (omega
    (arith, c.requires.0, c.requires.1, b)))) c.bend.ensures)

pub returns : goal.returns
unfolding bends
returns c =
    let m = c.args.masks.now in
    filled_all _ _ _ _ _ c.loop-i.invariant c.loop-i-test.false ∙ ap (λ k. table k (λ p. number (large m p ||
    eqb (kind_at m p) 2))) c.requires.1
