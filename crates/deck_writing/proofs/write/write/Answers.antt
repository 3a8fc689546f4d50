use mathlib.Core.Path.{◌≡◌, sym, ap, ◌∙◌}
use mathlib.Core.Bool.{true}
use native.Mathlib.Nat.{lt_of_le_of_lt}
use lib.Dec.{lit<}
use lib.ListN.{length}
use Rattle.std.proofs.Common.{arith}
use Rattle.std.proofs.lemmas.Result.{err_from_is_err_and}
use Rattle.std.specs.Prelude.{Some, None, is_some}
use Rattle.sheet_size.specs.Size.{within}
use Rattle.point_darts.proofs.Fit.{cells_fit}
use Rattle.laws.specs.Every.{every}
use Rattle.deck_card.specs.declared.answer.WriteRefusal.{WriteRefusal}
use Rattle.deck_card.specs.Card.{columns, places, long, visible}
use Rattle.deck_writing.specs.Writing.{deck_length}
use Rattle.deck_writing.proofs.Punching.{writing_size, writing_sheet, writing_deck, writing_label}
use Rattle.deck_writing.proofs.Punching.{writing_done, deck_some, deck_whole}
use Rattle.deck_writing.proofs.write.write.Goals.{In_ok-size, Else-deck-row_cards, Else-not-visible}
use Rattle.deck_writing.proofs.write.write.Goals.at as at
use Rattle.deck_writing.proofs.write.write.Goals as goal

-- the size is one, that of the width and the height
made : (c : In_ok-size) → c.new.result ≡ Some c.in_ok-size.size
made c = grind arith

size_is : (c : In_ok-size) → within c.args.width c.args.height ≡ true
size_is c = sym c.new.ensures.tested ∙ ap is_some (made c)

width_is : (c : In_ok-size) → c.in_ok-size.size.width ≡ c.args.width
width_is c = rw (made c) at c.new.ensures.width

height_is : (c : In_ok-size) → c.in_ok-size.size.height ≡ c.args.height
height_is c = rw (made c) at c.new.ensures.height

-- the deck's length is the sheet's
length_is : (c : Else-deck-row_cards) → length c.args.deck.now ≡ deck_length c.args.width c.args.height
unfolding columns places long deck_length
length_is c =
    let s = (at.Else-deck-row_cards c).In_ok-size in
    rw (← width_is s, ← height_is s, ← c.row_cards.ensures) c.if-deck-row_cards.false

-- the labels may stand on cards
labels_are : (c : Else-not-visible) → every visible c.args.sheet.now ≡ true
labels_are c = sym c.visible.ensures ∙ c.if-not-visible.false

pub returns-in_err-size : goal.returns-in_err-size
returns-in_err-size c =
    let s = c.args in
    let p = err_from_is_err_and c.from_residual.result c.from_residual.ensures.1 in
    let none : c.new.result ≡ None = grind arith in
    let refusal : c.in_err-size.field-0.0 ≡ WriteRefusal.Size = grind arith in
    rw (p.1, p.2, refusal) (writing_size s.width s.height s.sheet.now s.deck.now (sym c.new.ensures.tested ∙ ap is_some none))

pub overflow_mul-width : goal.overflow_mul-width
overflow_mul-width c =
    record { fits = lt_of_le_of_lt (cells_fit c.args.width c.args.height (size_is (at.overflow_mul-width c).In_ok-size)) (lit< tt) }

pub returns-then-sheet-width : goal.returns-then-sheet-width
returns-then-sheet-width c =
    let s = c.args in
    writing_sheet s.width s.height s.sheet.now s.deck.now (size_is (at.returns-then-sheet-width c).In_ok-size) c.if-sheet-width.true

pub returns-then-deck-row_cards : goal.returns-then-deck-row_cards
unfolding columns places long deck_length
returns-then-deck-row_cards c =
    let s = c.args in
    let m = (at.returns-then-deck-row_cards c).In_ok-size in
    writing_deck s.width s.height s.sheet.now s.deck.now (size_is m) c.if-sheet-width.false
    (rw (← width_is m, ← height_is m, ← c.row_cards.ensures) c.if-deck-row_cards.true)

pub returns-then-not-visible : goal.returns-then-not-visible
returns-then-not-visible c =
    let s = c.args in
    writing_label s.width s.height s.sheet.now s.deck.now (size_is (at.returns-then-not-visible c).In_ok-size) c.if-sheet-width.false
    (length_is (at.returns-then-not-visible c).Else-deck-row_cards)
    (sym c.visible.ensures ∙ c.if-not-visible.true)

pub put_header-requires : goal.put_header-requires
put_header-requires c =
    rw (length_is (at.put_header-requires c).Else-deck-row_cards) (deck_some c.args.width c.args.height)

pub put_rows-requires-clause-cells : goal.put_rows-requires-clause-cells
put_rows-requires-clause-cells c =
    let m = (at.put_rows-requires-clause-cells c).In_ok-size in
    rw (width_is m, height_is m) c.if-sheet-width.false

pub put_rows-requires-clause-cards : goal.put_rows-requires-clause-cards
put_rows-requires-clause-cards c =
    let m = (at.put_rows-requires-clause-cards c).In_ok-size in
    rw (width_is m, height_is m)
    (c.put_header.auto.deck ∙ length_is (at.put_rows-requires-clause-cards c).Else-deck-row_cards)

pub returns : goal.returns
returns c =
    let s = c.args in
    let m = (at.returns c).In_ok-size in
    rw (c.put_rows.ensures, c.put_header.ensures, deck_whole, width_is m, height_is m)
    (writing_done s.width s.height s.sheet.now s.deck.now (size_is m) c.if-sheet-width.false
    (length_is (at.returns c).Else-deck-row_cards) (labels_are (at.returns c).Else-not-visible))
