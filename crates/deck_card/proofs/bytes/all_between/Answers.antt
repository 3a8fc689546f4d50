use mathlib.Core.Path.{◌∙◌}
use Rattle.std.proofs.Common.{rules, tests}
use Rattle.std.proofs.lemmas.Iterator.{YieldsList-from_slice}
use Rattle.std.proofs.lemmas.Iterator.Search.{all_from_yields_List}
use Rattle.deck_card.specs.Card.{from_to}
use Rattle.laws.proofs.Every.{every_all}
use Rattle.deck_card.proofs.bytes.all_between.Goals as goal

pub returns : goal.returns
unfolding from_to
returns c =
    all_from_yields_List (from_to c.args.low c.args.high) _ _ _ c.all.ensures.ran (YieldsList-from_slice c.args.bytes.now cc)
    (λ x b q k. search (rules, tests))
    ∙ every_all _ _
