-- How a sheet is laid out on cards (the paper, "The deck", and request T-03): a header, then the cards of the rows. A row takes a
-- card, or two where it is wider than a card: one with a cell in every column of content, and one of the rest.
--   wide w          == rows of width w take two cards each
--   laid b w h      == columns 1 to 11 of a header that names the width w and the height h. In the wide form, b, these are
--                      SHEET2, three digits and two; in the other SHEET, a blank, two digits each, a blank
--   heading w h     == these columns of a sheet's header: in the wide form where its rows are wide
--   row_cards w h    == how many cards hold the rows
--   held w k        == how many cells the card numbered k holds on a sheet of width w. The first row begins on card 2, so on a wide
--                      sheet each row begins on a card with an even number
use Rattle.std.specs.Prelude.{Bool, true, false, cond, List, [], ◌∷◌, ◌++◌, ℕ, ◌*◌, ◌-◌, ◌%◌, eqb, ltb}
use Rattle.deck_card.specs.Card.{columns, blank, digits}

unfoldable pub wide : ℕ → Bool
wide w = ltb columns w

unfoldable pub laid : Bool → ℕ → ℕ → List ℕ
laid true w h = 83 ∷ 72 ∷ 69 ∷ 69 ∷ 84 ∷ 50 ∷ (digits 3 w ++ digits 2 h)
laid false w h = 83 ∷ 72 ∷ 69 ∷ 69 ∷ 84 ∷ blank ∷ (digits 2 w ++ (digits 2 h ++ (blank ∷ [])))

unfoldable pub heading : ℕ → ℕ → List ℕ
heading w h = laid (wide w) w h

unfoldable pub row_cards : ℕ → ℕ → ℕ
row_cards w h = cond (wide w) (2 * h) h

unfoldable pub held : ℕ → ℕ → ℕ
held w k = cond (wide w) (cond (eqb (k % 2) 0) columns (w - columns)) w
