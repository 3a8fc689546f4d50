-- A sheet of a size that is one, and its cards.
--   wide w          == rows of width w take two cards each
--   held w k        == how many cells the card numbered k holds
--   row_cards w h    == how many cards hold the rows
use mathlib.Core.Path.{◌≡◌, refl, sym, ◌∙◌}
use mathlib.Core.Bool.{Bool, true, false, cond}
use Prim.Native.Nat.{ℕ, zero, suc, ◌+◌, ◌*◌, ◌-◌, ◌%◌, ◌≤◌, ◌<◌}
use native.Mathlib.Nat.{zero-mul, suc-mul, mul_comm}
use native.Mathlib.Omega.{arith}
use lib.Dec.{eqb}
use borrow.Author.Tests.{ltb-true, ltb-false, eq-eqb, ne_eqb}
use Rattle.sheet_size.specs.Size.{within}
use Rattle.sheet_size.proofs.Limit.{within_limits}
use Rattle.deck_card.specs.Card.{columns, measured}
use Rattle.deck_card.proofs.Parts.{is_measured}
use Rattle.deck_layout.specs.Layout.{wide, row_cards, held}

-- A row that takes two cards is wider than a card, and one that takes one card is not.
pub wide_more : (w : ℕ) → wide w ≡ true → columns < w
unfolding wide
wide_more w e = ltb-true columns w e

pub narrow_most : (w : ℕ) → wide w ≡ false → w ≤ columns
unfolding wide
narrow_most w e = ltb-false columns w e

-- the two cards of a wide row
pub held_first : (w k : ℕ) → wide w ≡ true → k % 2 ≡ 0 → held w k ≡ columns
unfolding held
held_first w k e q = rw (e, eq-eqb _ _ q)

pub held_second : (w k : ℕ) → wide w ≡ true → (k % 2 ≡ 0 → ⊥) → held w k ≡ w - columns
unfolding held
held_second w k e q = rw (e, ne_eqb _ _ q)

module _ (w h : ℕ) (e : within w h ≡ true) where
  -- each card has a cell, and can hold its cells
  pub held_some : (k : ℕ) → 1 ≤ held w k
  unfolding held columns
  held_some k = go (wide w) (eqb (k % 2) 0) refl
    where
      go : (b c : Bool) → wide w ≡ b → 1 ≤ cond b (cond c columns (w - columns)) w
      go true true p = omega arith
      go true false p = omega (arith, wide_more w p)
      go false c p = (within_limits w h e).width_some

  pub held_most : (k : ℕ) → held w k ≤ columns
  unfolding held columns
  held_most k = go (wide w) (eqb (k % 2) 0) refl
    where
      go : (b c : Bool) → wide w ≡ b → cond b (cond c columns (w - columns)) w ≤ columns
      go true true p = omega arith
      go true false p = omega (arith, (within_limits w h e).width_most)
      go false c p = narrow_most w p

  pub held_measured : (k : ℕ) → measured (held w k) ≡ true
  held_measured k = is_measured (held w k) (held_some k) (held_most k)

  -- the cards' numbers are small
  pub cards_few : row_cards w h + 2 < 256
  unfolding row_cards
  cards_few = go (wide w)
    where
      go : (b : Bool) → cond b (2 * h) h + 2 < 256
      go true = omega (arith, (within_limits w h e).height_most)
      go false = omega (arith, (within_limits w h e).height_most)

-- How many cells n cards hold, k the first one's number.
unfoldable pub sum : ℕ → ℕ → ℕ → ℕ
sum w zero k = 0
sum w (suc n) k = held w k + sum w n (suc k)

-- The cards of n rows hold n rows: a card each, or two each from a card with an even number on.
sum_narrow : (w n k : ℕ) → wide w ≡ false → sum w n k ≡ n * w
unfolding sum held
sum_narrow w zero k e = sym (zero-mul w)
sum_narrow w (suc n) k e = rw e (omega (arith, sum_narrow w n (suc k) e, suc-mul n w))

sum_wide : (w n k : ℕ) → wide w ≡ true → k % 2 ≡ 0 → sum w (2 * n) k ≡ n * w
unfolding sum
sum_wide w zero k e q = sym (zero-mul w)
sum_wide w (suc n) k e q =
    let two : 2 * suc n ≡ suc (suc (2 * n)) = omega arith in
    let second = held_second w (suc k) e (λ p. omega arith) in
    let rest = sum_wide w n (suc (suc k)) e (omega arith) in
    rw (two, held_first w k e q, second, rest, suc-mul n w) (omega (arith, wide_more w e))

-- the cards of the rows hold the sheet
pub sum_all : (w h : ℕ) → sum w (row_cards w h) 2 ≡ w * h
unfolding row_cards
sum_all w h = go (wide w) refl
  where
    go : (b : Bool) → wide w ≡ b → sum w (cond b (2 * h) h) 2 ≡ w * h
    go true e = sum_wide w h 2 e refl ∙ mul_comm h w
    go false e = sum_narrow w h 2 e ∙ mul_comm h w
