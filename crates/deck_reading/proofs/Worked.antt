-- The outcomes of reading and writing a deck, by worked cases: every refusal once, judged where all that comes later in the order is
-- wrong too, and done.
--   same_outcome    == two outcomes are equal in number, values and table
--   ends n vs t     == the outcome with the number n, the values vs and the table t left
--   punched n c     == the card with the bytes c, then blanks to column 72, and the number n, which has one digit
--   top a b         == the header of a sheet one cell high whose width has the digits a and b
--   deck            == the deck of the sheet A B
--   wide_top a b c  == the header, in the wide form, of a sheet one cell high whose width has the digits a, b and c
--   row73           == the cells of a row 73 wide: A 72 times, and B
--   first           == the header and the first card of its sheet
--   wide_deck       == the deck of its sheet
use mathlib.Core.Path.{◌≡◌, refl}
use mathlib.Core.Bool.{Bool, true, ◌&&◌}
use mathlib.Core.List.{List, [], ◌∷◌, ◌++◌, map}
use Prim.Native.Nat.{ℕ, ◌+◌, ◌-◌}
use lib.Dec.{eqb}
use lib.ListN.{length, take, replicate}
use borrow.Author.Tests.{eqb-true}
use Rattle.laws.specs.Equal.{equal}
use Rattle.laws.specs.Every.{every}
use Rattle.laws.proofs.Cases.{Case, failed, none_failed}
use Rattle.laws.proofs.Equal.{equal_true}
use Rattle.laws.proofs.Test.{and_left, and_right}
use Rattle.sheet_size.specs.Size.{within}
use Rattle.deck_card.specs.Card.{columns, places, long, blank, feed, from_to, lowest, highest, visible, digit, digits, padded, card}
use Rattle.deck_card.specs.Card.{whole, measured, part}
use Rattle.deck_layout.specs.Layout.{wide, laid, heading, row_cards, held}
use Rattle.deck_card.specs.Outcome.{DeckOutcome, verdict_outcome, write_outcome}
use Rattle.deck_faults.specs.Fault.{or_else, bears, form, value, wide_form, width, height, headed, header, row}
use Rattle.deck_writing.specs.Writing.{row_deck, deck_of, deck_length, written, bytes_after, writing}
use Rattle.deck_reading.specs.Judging.{stopped, rows, judged}
use Rattle.deck_reading.specs.Reading.{room, cells, filled, table_after, reading}

same_outcome : DeckOutcome → DeckOutcome → Bool
same_outcome o p = eqb o.number p.number && (equal o.values p.values && equal o.table p.table)

outcome_equal : (o p : DeckOutcome) → same_outcome o p ≡ true → o ≡ p
unfolding same_outcome
outcome_equal o p e =
    let k = eqb o.number p.number in
    let v = equal o.values p.values in
    let t = equal o.table p.table in
    let n = eqb-true o.number p.number (and_left k (v && t) e) in
    let vs = equal_true o.values p.values (and_left v t (and_right k (v && t) e)) in
    let ts = equal_true o.table p.table (and_right v t (and_right k (v && t) e)) in
    λ i. record { number = n i; values = vs i; table = ts i }

ends : ℕ → List ℕ → List ℕ → DeckOutcome
ends n vs t = record { number = n; values = vs; table = t }

punched : ℕ → List ℕ → List ℕ
punched n c = c ++ replicate (72 - length c) 32 ++ replicate 7 48 ++ (48 + n) ∷ 10 ∷ []

top : ℕ → ℕ → List ℕ
top a b = punched 1 (83 ∷ 72 ∷ 69 ∷ 69 ∷ 84 ∷ 32 ∷ a ∷ b ∷ 48 ∷ 49 ∷ [])

deck : List ℕ
deck = top 48 50 ++ punched 2 (65 ∷ 66 ∷ [])

wide_top : ℕ → ℕ → ℕ → List ℕ
wide_top a b c = punched 1 (83 ∷ 72 ∷ 69 ∷ 69 ∷ 84 ∷ 50 ∷ a ∷ b ∷ c ∷ 48 ∷ 49 ∷ [])

row73 : List ℕ
row73 = replicate 72 65 ++ 66 ∷ []

first : List ℕ
first = wide_top 48 55 51 ++ punched 2 (replicate 72 65)

wide_deck : List ℕ
wide_deck = first ++ punched 3 (66 ∷ [])

-- the reader's cell table
lent : List ℕ
lent = replicate 7920 7

calls : List (Case DeckOutcome)
calls =
    -- reading
    record { computed = reading [] (replicate 7919 7); stated = ends 26 (0 ∷ []) (replicate 7919 7) }
    ∷ record { computed = reading [] lent; stated = ends 25 (1 ∷ []) lent }
    ∷ record { computed = reading (take 80 (top 48 48)) lent; stated = ends 20 (1 ∷ []) lent }
    ∷ record { computed = reading (punched 2 []) lent; stated = ends 22 (1 ∷ []) lent }
    ∷ record { computed = reading (top 48 48) lent; stated = ends 21 (1 ∷ []) lent }
    ∷ record { computed = reading (top 55 51) lent; stated = ends 21 (1 ∷ []) lent }
    ∷ record { computed = reading (top 48 50) lent; stated = ends 25 (2 ∷ []) lent }
    ∷ record { computed = reading (top 48 50 ++ 65 ∷ []) lent; stated = ends 20 (2 ∷ []) lent }
    ∷ record { computed = reading (top 48 50 ++ punched 3 []) lent; stated = ends 22 (2 ∷ []) lent }
    ∷ record { computed = reading (top 48 50 ++ punched 2 (65 ∷ 32 ∷ 67 ∷ [])) lent; stated = ends 23 (2 ∷ []) lent }
    ∷ record { computed = reading (top 48 50 ++ punched 2 (127 ∷ 66 ∷ [])) lent; stated = ends 23 (2 ∷ []) lent }
    ∷ record { computed = reading (top 48 50 ++ punched 2 (65 ∷ 66 ∷ 67 ∷ []) ++ 10 ∷ []) lent; stated = ends 24 (2 ∷ []) lent }
    ∷ record { computed = reading (deck ++ 10 ∷ []) lent; stated = ends 25 (3 ∷ []) lent }
    ∷ record { computed = reading deck lent; stated = ends 0 (2 ∷ 1 ∷ []) (65 ∷ 66 ∷ replicate 7918 0) }
    -- reading the wide form: its widths, its two cards a row, and what follows them
    ∷ record { computed = reading (wide_top 48 55 50) lent; stated = ends 21 (1 ∷ []) lent }
    ∷ record { computed = reading (wide_top 49 49 49) lent; stated = ends 21 (1 ∷ []) lent }
    ∷ record { computed = reading (wide_top 49 49 48) lent; stated = ends 25 (2 ∷ []) lent }
    ∷ record { computed = reading (wide_top 48 55 51 ++ punched 2 (replicate 71 65)) lent; stated = ends 23 (2 ∷ []) lent }
    ∷ record { computed = reading first lent; stated = ends 25 (3 ∷ []) lent }
    ∷ record { computed = reading (first ++ punched 3 []) lent; stated = ends 23 (3 ∷ []) lent }
    ∷ record { computed = reading (first ++ punched 3 (66 ∷ 67 ∷ [])) lent; stated = ends 24 (3 ∷ []) lent }
    ∷ record { computed = reading (wide_deck ++ 10 ∷ []) lent; stated = ends 25 (4 ∷ []) lent }
    ∷ record { computed = reading wide_deck lent; stated = ends 0 (73 ∷ 1 ∷ []) (row73 ++ replicate 7847 0) }
    -- writing
    ∷ record { computed = writing 111 1 [] (7 ∷ []); stated = ends 1 [] (7 ∷ []) }
    ∷ record { computed = writing 1 73 [] (7 ∷ []); stated = ends 1 [] (7 ∷ []) }
    ∷ record { computed = writing 73 1 row73 (replicate 162 7); stated = ends 4 [] (replicate 162 7) }
    ∷ record { computed = writing 73 1 row73 (replicate 243 7); stated = ends 0 [] wide_deck }
    ∷ record { computed = writing 2 1 (32 ∷ []) (7 ∷ []); stated = ends 3 [] (7 ∷ []) }
    ∷ record { computed = writing 2 1 (65 ∷ 32 ∷ []) (replicate 163 7); stated = ends 4 [] (replicate 163 7) }
    ∷ record { computed = writing 2 1 (65 ∷ 32 ∷ []) (replicate 162 7); stated = ends 27 [] (replicate 162 7) }
    ∷ record { computed = writing 2 1 (127 ∷ 66 ∷ []) (replicate 162 7); stated = ends 27 [] (replicate 162 7) }
    ∷ record { computed = writing 2 1 (65 ∷ 66 ∷ []) (replicate 162 7); stated = ends 0 [] deck }
    ∷ []

cards_open : Unit {0}
unfolding equal every within columns places long blank feed from_to lowest highest visible digit digits padded card whole
cards_open = tt

decks_open : Unit {0}
unfolding measured part wide laid heading row_cards held verdict_outcome write_outcome
decks_open = tt

faults_open : Unit {0}
unfolding or_else bears form value wide_form width height headed header row
faults_open = tt

outcomes_open : Unit {0}
unfolding row_deck deck_of deck_length written bytes_after writing stopped rows judged room cells filled table_after reading
outcomes_open = tt

cases_open : Unit {0}
unfolding same_outcome ends punched top deck wide_top row73 first wide_deck lent calls
cases_open = tt

calls_hold : failed same_outcome 0 calls ≡ []
unfolding failed cards_open decks_open faults_open outcomes_open cases_open
calls_hold = refl

deck_cases : map (λ (c : Case DeckOutcome). c.computed) calls ≡ map (λ (c : Case DeckOutcome). c.stated) calls
deck_cases = none_failed same_outcome outcome_equal 0 calls calls_hold
