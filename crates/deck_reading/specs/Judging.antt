-- Judging a deck (the paper, "The deck" and "Refusal numbers and their order"). The bytes are taken card by card, each the
-- next 81 of them or what is left of them.
--   stopped m k r   == the verdict r, unless there is a refusal m at the card numbered k
--   rows w h n k d  == the verdict on the bytes d where n cards are still to come, k the next one's number
--   judged d        == the verdict on the bytes d: the size of the sheet, or the first refusal
use Rattle.std.specs.Prelude.{cond, List, ℕ, zero, suc, eqb, length, take, drop}
use Rattle.deck_card.specs.Card.{long}
use Rattle.deck_card.specs.Outcome.{Verdict, Sheet, Refused}
use Rattle.deck_layout.specs.Layout.{row_cards, held}
use Rattle.deck_faults.specs.Fault.{width, height, header, row}

unfoldable pub stopped : ℕ → ℕ → Verdict → Verdict
stopped zero k r = r
stopped (suc m) k r = Refused (suc m) k

unfoldable pub rows : ℕ → ℕ → ℕ → ℕ → List ℕ → Verdict
rows w h zero k d = cond (eqb (length d) 0) (Sheet w h) (Refused 25 k)
rows w h (suc n) k d = let rest = rows w h n (suc k) (drop long d) in stopped (row (held w k) k (take long d)) k rest

unfoldable pub judged : List ℕ → Verdict
judged d =
    let c = take long d in
    let rest = rows (width c) (height c) (row_cards (width c) (height c)) 2 (drop long d) in
    stopped (header c) 1 rest
