-- Reading a deck (the paper, "The deck" and "Refusal numbers and their order").
--   room            == the length of the reader's cell table
--   cells w n k d   == the cells of the first n cards of d, k the first one's number
--   filled l        == the cell table that begins with l and is 0 after it
--   table_after r d t == what the cell table t holds after the verdict r on the bytes d
--   reading d t     == the outcome of reading the bytes d into the cell table t
use Rattle.std.specs.Prelude.{cond, List, [], ◌++◌, ℕ, zero, suc, ◌-◌, eqb, length, take, drop, replicate}
use Rattle.deck_card.specs.Card.{long, part}
use Rattle.deck_card.specs.Outcome.{DeckOutcome, Verdict, Sheet, Refused, verdict_outcome}
use Rattle.deck_layout.specs.Layout.{row_cards, held}
use Rattle.deck_reading.specs.Judging.{judged}

unfoldable pub room : ℕ
room = 7920

unfoldable pub cells : ℕ → ℕ → ℕ → List ℕ → List ℕ
cells w zero k d = []
cells w (suc n) k d = part (held w k) (take long d) ++ cells w n (suc k) (drop long d)

unfoldable pub filled : List ℕ → List ℕ
filled l = l ++ replicate (room - length l) 0

unfoldable pub table_after : Verdict → List ℕ → List ℕ → List ℕ
table_after (Sheet w h) d t = filled (cells w (row_cards w h) 2 (drop long d))
table_after (Refused n k) d t = t

unfoldable pub reading : List ℕ → List ℕ → DeckOutcome
reading d t =
    let r = judged d in
    cond (eqb (length t) room) (verdict_outcome r (table_after r d t)) (verdict_outcome (Refused 26 0) t)
