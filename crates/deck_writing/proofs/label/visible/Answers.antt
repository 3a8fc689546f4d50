use mathlib.Core.Path.{◌∙◌}
use Rattle.std.proofs.Common.{rules, tests}
use Rattle.std.proofs.lemmas.Iterator.{YieldsList-from_slice}
use Rattle.std.proofs.lemmas.Iterator.Search.{all_from_yields_List}
use Rattle.deck_card.specs.Card.{lowest, highest, from_to, visible}
use Rattle.laws.proofs.Every.{every_all}
use Rattle.deck_writing.proofs.label.visible.Goals as goal

pub returns : goal.returns
unfolding lowest highest from_to visible
returns c =
    all_from_yields_List visible _ _ _ c.all.ensures.ran (YieldsList-from_slice c.args.sheet.now cc)
    (λ x b q k. search (rules, tests))
    ∙ every_all _ _
