-- The bytes of a card.
--   card k c        == the card numbered k with the content c
use mathlib.Core.Path.{◌≡◌, refl, sym, ap, ◌∙◌}
use mathlib.Core.List.{List, [], ◌∷◌, ◌++◌}
use Prim.Native.Nat.{ℕ, zero, suc, ◌+◌, ◌-◌, ◌/◌, ◌≤◌, ◌<◌}
use native.Mathlib.Omega.{arith}
use lib.ListN.{length, get_or, take, drop, length-append, length-replicate, get_or-append, get_or-replicate}
use lib.Seq.{slice, take_at, drop_at, take-append-add}
use Rattle.deck_card.specs.Card.{columns, places, long, blank, feed, digit, digits, padded, card}
use Rattle.deck_card.proofs.Table.{get_or_past}

-- Digits.
pub digit_less : (n a i : ℕ) → i < a → digit (n / 10) (a - (i + 1)) ≡ digit n (a - i)
unfolding digit
digit_less n a i h = let e : a - i ≡ suc (a - (i + 1)) = omega arith in rw e

pub length_digits : (k n : ℕ) → length (digits k n) ≡ k
unfolding digits
length_digits zero n = refl
length_digits (suc k) n = ap suc (length_digits k n)

-- the digit at place i has j digits after it
pub get_or_digits : (n k i j : ℕ) → suc (i + j) ≡ k → get_or (digits k n) i 0 ≡ digit n j
unfolding digits
get_or_digits n zero i j e = absurd (omega arith)
get_or_digits n (suc k) zero j e = let q : k ≡ j = omega arith in rw q
get_or_digits n (suc k) (suc i) j e = get_or_digits n k i j (omega arith)

-- The card numbered k with a content c that fits it.
module _ (k : ℕ) (c : List ℕ) (fits : length c ≤ columns) where
  pub length_padded : length (padded c) ≡ columns
  unfolding padded
  length_padded = simp (length-append, length-replicate) (omega arith)

  pub length_card : length (card k c) ≡ long
  unfolding card long
  length_card = simp (length-append, length_padded, length_digits) (omega arith)

  card_front : (i : ℕ) → i < columns → get_or (card k c) i 0 ≡ get_or (padded c) i 0
  unfolding card
  card_front i h = get_or-append (padded c) _ 0 i (rw length_padded h)

  -- a column that the content reaches
  pub card_content : (i : ℕ) → i < length c → get_or (card k c) i 0 ≡ get_or c i 0
  unfolding padded
  card_content i h = card_front i (omega arith) ∙ get_or-append c _ 0 i h

  -- a column after the content
  pub card_blank : (i : ℕ) → length c ≤ i → i < columns → get_or (card k c) i 0 ≡ blank
  unfolding padded
  card_blank i h b =
      card_front i b ∙ get_or_past c _ i h ∙ get_or-replicate (columns - length c) (i - length c) blank 0 (omega arith)

  card_back : (i : ℕ) → columns ≤ i → get_or (card k c) i 0 ≡ get_or (digits places k ++ (feed ∷ [])) (i - columns) 0
  unfolding card
  card_back i h = get_or_past (padded c) _ i (rw length_padded h) ∙ rw length_padded

  -- a column of the number
  pub card_digit : (i : ℕ) → columns ≤ i → i < columns + places
      → get_or (card k c) i 0 ≡ digit k (columns + places - 1 - i)
  card_digit i h b =
      card_back i h ∙ get_or-append (digits places k) _ 0 (i - columns) (rw length_digits (omega arith))
      ∙ get_or_digits k places (i - columns) _ (omega arith)

  -- the line feed
  pub card_feed : (i : ℕ) → columns + places ≤ i → i < long → get_or (card k c) i 0 ≡ feed
  unfolding long
  card_feed i h b =
      let e : i - columns - length (digits places k) ≡ 0 = omega (arith, length_digits places k) in
      card_back i (omega arith) ∙ get_or_past (digits places k) _ (i - columns) (rw length_digits (omega arith)) ∙ rw e

  -- its content's columns, and those of its number
  pub card_columns : slice 0 columns (card k c) ≡ padded c
  unfolding card
  card_columns = take_at (padded c) _ columns length_padded

  pub card_number : slice columns (columns + places) (card k c) ≡ digits places k
  unfolding card
  card_number =
      let number = take_at (digits places k) _ places (length_digits places k) in
      ap (λ n. drop columns (take (n + places) (card k c))) (sym length_padded)
      ∙ ap (drop columns) (take-append-add (padded c) _ places ∙ ap (λ l. padded c ++ l) number)
      ∙ drop_at (padded c) (digits places k) columns length_padded
