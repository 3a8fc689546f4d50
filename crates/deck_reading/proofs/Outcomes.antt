-- The outcome of reading, by the answer.
use mathlib.Core.Path.{◌≡◌}
use mathlib.Core.List.{List}
use Prim.Native.Nat.{ℕ}
use lib.ListN.{length, drop}
use borrow.Author.Tests.{eq-eqb, ne_eqb}
use Rattle.deck_card.specs.Card.{long}
use Rattle.deck_card.specs.Outcome.{Sheet, Refused, verdict_outcome}
use Rattle.deck_layout.specs.Layout.{row_cards}
use Rattle.deck_reading.specs.Judging.{judged}
use Rattle.deck_reading.specs.Reading.{room, cells, filled, table_after, reading}

module _ (d t : List ℕ) where
  -- a table of another length
  pub reading_table : (length t ≡ room → ⊥) → verdict_outcome (Refused 26 0) t ≡ reading d t
  unfolding reading
  reading_table n = rw (ne_eqb _ _ n)

  -- bytes that are refused
  pub reading_refused : (n k : ℕ) → length t ≡ room → judged d ≡ Refused n k → verdict_outcome (judged d) t ≡ reading d t
  unfolding reading table_after
  reading_refused n k q e = rw (eq-eqb _ _ q, e)

  -- bytes that are the deck of a sheet
  pub reading_sheet : (w h : ℕ) → length t ≡ room → judged d ≡ Sheet w h
      → verdict_outcome (Sheet w h) (filled (cells w (row_cards w h) 2 (drop long d))) ≡ reading d t
  unfolding reading table_after
  reading_sheet w h q e = rw (eq-eqb _ _ q, e)
