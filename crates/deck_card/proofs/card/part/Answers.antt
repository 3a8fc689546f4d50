use mathlib.Core.Path.{◌≡◌, refl, sym}
use lib.Seq.{length-take-le}
use Rattle.deck_card.specs.Card.{part_refusal}
use Rattle.deck_card.proofs.Parts.{number_some, number_none, part_refused, part_given, part_long}
use Rattle.deck_card.proofs.card.part.Goals.{Then-is_some, Else-is_some}
use Rattle.deck_card.proofs.card.part.Goals.at as at
use Rattle.deck_card.proofs.card.part.Goals as goal

-- there is a refusal, and there is none
some : (c : Then-is_some) → part_refusal c.args.width c.args.card.now ≡ 0 → ⊥
some c = rw (← c.part_refusal.ensures) (number_some _ (rw (← c.is_some.ensures) c.if-is_some.true))

none : (c : Else-is_some) → part_refusal c.args.width c.args.card.now ≡ 0
none c = rw (← c.part_refusal.ensures) (number_none _ (rw (← c.is_some.ensures) c.if-is_some.false))

pub returns-then-is_some : goal.returns-then-is_some
returns-then-is_some c = (sym (part_refused _ _ (some (at.returns-then-is_some c).Then-is_some)), refl)

pub slice_bounds-result-end-2 : goal.slice_bounds-result-end-2
slice_bounds-result-end-2 c =
    let a = c.args in
    sym (length-take-le a.width a.card.now
    (part_long a.width a.card.now (none (at.slice_bounds-result-end-2 c).Else-is_some)))

pub returns : goal.returns
returns c = (sym (part_given _ _ (none (at.returns c).Else-is_some)), refl)
