-- The deck of a sheet, and writing it (the paper, "The deck" and "Refusal numbers and their order").
--   row_deck w n k s == the n cards from the card numbered k on that hold the cells s
--   deck_of w h s    == the deck of the sheet s of width w and height h
--   deck_length w h  == its length
--   written w h s n == the writer's answer, where n bytes are lent for the deck
--   bytes_after r d t == what the bytes t are after the answer r, d the sheet's deck
--   writing w h s t == the outcome of writing the sheet s into the bytes t
use Rattle.std.specs.Prelude.{cond, List, [], ◌++◌, ℕ, zero, suc, ◌+◌, ◌*◌, eqb, length, take, drop, Result, Ok, Err}
use Rattle.sheet_size.specs.Size.{within}
use Rattle.deck_card.specs.declared.answer.WriteRefusal.{WriteRefusal}
use Rattle.deck_card.specs.declared.answer.WriteRefusal.TheVariants.{Size, Sheet, Deck, Label}
use Rattle.laws.specs.Every.{every}
use Rattle.deck_card.specs.Card.{long, visible, card}
use Rattle.deck_card.specs.Outcome.{DeckOutcome, write_outcome}
use Rattle.deck_layout.specs.Layout.{heading, row_cards, held}

unfoldable pub row_deck : ℕ → ℕ → ℕ → List ℕ → List ℕ
row_deck w zero k s = []
row_deck w (suc n) k s = card k (take (held w k) s) ++ row_deck w n (suc k) (drop (held w k) s)

unfoldable pub deck_of : ℕ → ℕ → List ℕ → List ℕ
deck_of w h s = card 1 (heading w h) ++ row_deck w (row_cards w h) 2 s

unfoldable pub deck_length : ℕ → ℕ → ℕ
deck_length w h = long * (row_cards w h + 1)

unfoldable pub written : ℕ → ℕ → List ℕ → ℕ → Result (Unit {0}) WriteRefusal
written w h s n =
    cond (within w h)
    (cond (eqb (length s) (w * h))
    (cond (eqb n (deck_length w h))
    (cond (every visible s) (Ok tt)
    (Err Label))
    (Err Deck))
    (Err Sheet))
    (Err Size)

unfoldable pub bytes_after : Result (Unit {0}) WriteRefusal → List ℕ → List ℕ → List ℕ
bytes_after (Ok done) d t = d
bytes_after (Err refusal) d t = t

unfoldable pub writing : ℕ → ℕ → List ℕ → List ℕ → DeckOutcome
writing w h s t =
    let r = written w h s (length t) in
    let d = deck_of w h s in
    write_outcome r (bytes_after r d t)
