use mathlib.Core.Path.{refl, ◌∙◌}
use Prim.Native.Nat.{ℕ}
use native.Mathlib.Omega.{arith}
use lib.Dec.{eqb}
use lib.ListN.{get_or}
use Rattle.std.proofs.Common.{rules, tests}
use Rattle.std.proofs.lemmas.Iterator.{YieldsList-from_range}
use Rattle.std.proofs.lemmas.Iterator.Search.{all_from_yields_List}
use Rattle.deck_card.specs.Card.{card}
use Rattle.deck_card.proofs.Cards.{length_card}
use Rattle.deck_card.proofs.Every.{all_equal}
use Rattle.deck_card.proofs.bytes.agrees.Goals as goal

pub returns : goal.returns
returns c =
    let s = c.args in
    let k = card s.number s.content.now in
    let n = length_card s.number s.content.now c.requires.content_fits.0 in
    all_from_yields_List (λ (p : ℕ). eqb (get_or s.bytes.now p 0) (get_or k p 0)) _ _ _ c.all.ensures.ran
    (YieldsList-from_range s.from s.to _ (cc) refl) (λ x b q k. search (rules, tests))
    ∙ all_equal s.bytes.now k s.to c.requires.columns_there.1.0 (omega arith) _ _ (omega arith)
