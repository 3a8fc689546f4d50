-- What a card is refused for (the paper, "The deck" and "Refusal numbers and their order"). A refusal is its number, or 0
-- where nothing is refused.
--   or_else a b      == the refusal a, or b where a is none
--   bears k c       == columns 73 to 80 of c are the digits of k
--   form k c        == the refusal of the form of the card numbered k, whatever its content: 25 not there, 20 not whole, so
--                      not 80 bytes and a line feed, 22 not bearing its number
--   value c p       == the number whose two digits are the bytes of c at the place p and the next
--   wide_form c      == column 6 of a header is a 2
--   width c, height c == the values of columns 7-8 and 9-10 of a header, in the wide form of 7-9 and 10-11
--   headed c        == these are a size, and columns 1 to 72 are laid out as the header of this size: so these columns are
--                      digits, and the form is that of the width
--   header c        == the refusal of a header: its form's, then 21
--   row w k c       == the refusal of the card numbered k with w cells: its form's, then from the left 23 for a cell that
--                      is not visible and 24 for a column after the cells that is not blank
use Rattle.std.specs.Prelude.{Bool, cond, ◌&&◌, List, ℕ, zero, suc, ◌+◌, ◌*◌, ◌-◌, eqb, length, get_or, take, drop}
use Rattle.laws.specs.Equal.{equal}
use Rattle.sheet_size.specs.Size.{within}
use Rattle.laws.specs.Every.{every}
use Rattle.deck_card.specs.Card.{columns, places, blank, from_to, visible, digits, padded, whole}
use Rattle.deck_layout.specs.Layout.{heading}

unfoldable pub or_else : ℕ → ℕ → ℕ
or_else zero b = b
or_else (suc a) b = suc a

unfoldable pub bears : ℕ → List ℕ → Bool
bears k c = equal (drop columns (take (columns + places) c)) (digits places k)

unfoldable pub form : ℕ → List ℕ → ℕ
form k c = cond (eqb (length c) 0) 25 (cond (whole c) (cond (bears k c) 0 22) 20)

unfoldable pub value : List ℕ → ℕ → ℕ
value c p = 10 * (get_or c p 0 - 48) + (get_or c (p + 1) 0 - 48)

unfoldable pub wide_form : List ℕ → Bool
wide_form c = eqb (get_or c 5 0) 50

unfoldable pub width : List ℕ → ℕ
width c = cond (wide_form c) (10 * value c 6 + (get_or c 8 0 - 48)) (value c 6)

unfoldable pub height : List ℕ → ℕ
height c = cond (wide_form c) (value c 9) (value c 8)

unfoldable pub headed : List ℕ → Bool
headed c = within (width c) (height c) && equal (take columns c) (padded (heading (width c) (height c)))

unfoldable pub header : List ℕ → ℕ
header c = or_else (form 1 c) (cond (headed c) 0 21)

unfoldable pub row : ℕ → ℕ → List ℕ → ℕ
row w k c =
    or_else (form k c)
    (cond (every visible (take w c)) (cond (every (from_to blank blank) (drop w (take columns c))) 0 24) 23)
