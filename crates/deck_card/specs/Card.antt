-- A card (the paper, "The deck"): a list of bytes, whose columns are counted from 1, and places in the list from 0.
--   columns         == how many columns hold a card's content: columns 1 to 72
--   places          == how many columns after those hold the digits of its number: columns 73 to 80
--   long            == the length of a card, its line feed included
--   blank, feed     == the bytes of a blank and of a line feed
--   from_to a b n    == n is from a to b
--   visible         == may stand in a cell: from the lowest such byte, 33, to the highest, 126
--   digit n k       == the byte of the decimal digit of n that has k digits after it
--   digits k n      == the last k digits of n
--   padded c        == the content c, and blanks after it to the last column of content
--   card k c        == the card numbered k with the content c
--   whole c         == c is 80 bytes and a line feed
--   measured w      == w is how many cells a card can hold: 1 to 72
--   part w c        == the first w bytes of c where w is so many cells and c is whole, else nothing
--   part_refusal w c == 1 or 20 where the part is empty for that reason, in this order, else 0
use Rattle.std.specs.Prelude.{Bool, cond, ◌&&◌, List, [], ◌∷◌, ◌++◌, ℕ, zero, suc, ◌+◌, ◌-◌, ◌/◌, ◌%◌}
use Rattle.std.specs.Prelude.{eqb, leb, length, get_or, take, replicate}

unfoldable pub columns : ℕ
columns = 72

unfoldable pub places : ℕ
places = 8

unfoldable pub long : ℕ
long = columns + places + 1

unfoldable pub blank : ℕ
blank = 32

unfoldable pub feed : ℕ
feed = 10

unfoldable pub from_to : ℕ → ℕ → ℕ → Bool
from_to a b n = leb a n && leb n b

unfoldable pub lowest : ℕ
lowest = 33

unfoldable pub highest : ℕ
highest = 126

unfoldable pub visible : ℕ → Bool
visible = from_to lowest highest

unfoldable pub digit : ℕ → ℕ → ℕ
digit n zero = 48 + n % 10
digit n (suc k) = digit (n / 10) k

unfoldable pub digits : ℕ → ℕ → List ℕ
digits zero n = []
digits (suc k) n = digit n k ∷ digits k n

unfoldable pub padded : List ℕ → List ℕ
padded c = c ++ replicate (columns - length c) blank

unfoldable pub card : ℕ → List ℕ → List ℕ
card k c = padded c ++ (digits places k ++ (feed ∷ []))

unfoldable pub whole : List ℕ → Bool
whole c = eqb (length c) long && eqb (get_or c (columns + places) 0) feed

unfoldable pub measured : ℕ → Bool
measured w = leb 1 w && leb w columns

unfoldable pub part : ℕ → List ℕ → List ℕ
part w c = cond (measured w && whole c) (take w c) []

unfoldable pub part_refusal : ℕ → List ℕ → ℕ
part_refusal w c = cond (measured w) (cond (whole c) 0 20) 1
