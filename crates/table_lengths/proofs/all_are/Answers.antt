use mathlib.Core.Path.{◌∙◌}
use lib.Dec.{eqb}
use Rattle.std.proofs.Common.{rules, tests}
use Rattle.std.proofs.lemmas.Iterator.{YieldsList-from_slice}
use Rattle.std.proofs.lemmas.Iterator.Search.{all_from_yields_List}
use Rattle.table_lengths.specs.Lengths.{all_are}
use Rattle.laws.proofs.Every.{every_all}
use Rattle.table_lengths.proofs.all_are.Goals as goal

pub returns : goal.returns
unfolding all_are
returns c =
    all_from_yields_List (λ l. eqb l c.args.n) _ _ _ c.all.ensures.ran (YieldsList-from_slice c.args.lengths.now cc)
    (λ x b q k. search (rules, tests))
    ∙ every_all _ _
