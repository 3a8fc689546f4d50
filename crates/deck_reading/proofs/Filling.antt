-- The cell table while it is filled, card by card.
--   cells w n k d   == the cells of the first n cards of d, k the first one's number
--   Filling         == the cells of the cards read so far stand at the front of the table, and those of the cards
--                      that are left complete them
use mathlib.Core.Path.{◌≡◌, refl, sym, ap, ◌∙◌}
use mathlib.Core.Bool.{true}
use mathlib.Core.List.{List, ◌++◌, append_assoc, append-nil}
use Prim.Native.Nat.{ℕ, zero, suc, ◌+◌, ◌*◌, ◌-◌, ◌≤◌, ◌<◌}
use native.Mathlib.Numerals.{add-one, sub-one}
use native.Mathlib.Omega.{arith}
use lib.ListN.{length, take, drop, replicate, length-append, length-drop, drop_of_length-le}
use lib.Seq.{paste, length-paste, take-paste, take-length, length-take-le}
use Rattle.sheet_size.specs.Size.{within}
use Rattle.point_darts.proofs.Fit.{cells_fit}
use Rattle.deck_card.specs.Card.{long, part}
use Rattle.deck_card.specs.Outcome.{Sheet}
use Rattle.deck_card.proofs.Parts.{whole_is, part_held}
use Rattle.deck_card.proofs.Table.{rest_all}
use Rattle.deck_layout.specs.Layout.{row_cards, held}
use Rattle.deck_layout.proofs.Sizes.{held_measured, held_most, sum, sum_all}
use Rattle.deck_faults.specs.Fault.{row}
use Rattle.deck_faults.proofs.Forms.{form_none, row_form}
use Rattle.deck_reading.specs.Judging.{rows}
use Rattle.deck_reading.proofs.Verdicts.{rows_next, row_whole}
use Rattle.deck_reading.specs.Reading.{room, cells, filled}

-- Cards of a sheet of width w and height h, k the number of the first.
module _ (w h : ℕ) (size : within w h ≡ true) where
  -- a card that is not refused gives as many cells as it holds
  pub part_is : (k : ℕ) (c : List ℕ) → row (held w k) k c ≡ 0 → part (held w k) c ≡ take (held w k) c
  part_is k c e =
      part_held (held w k) c (held_measured w h size k) (form_none k c (row_form (held w k) k c e)).whole_is

  pub length_part : (k : ℕ) (c : List ℕ) → row (held w k) k c ≡ 0 → length (part (held w k) c) ≡ held w k
  unfolding long
  length_part k c e =
      let n = (whole_is c (form_none k c (row_form (held w k) k c e)).whole_is).length_is in
      let m = held_most w h size k in
      let b : held w k ≤ length c = omega arith in
      ap length (part_is k c e) ∙ length-take-le (held w k) c b

  pub length_cells : (n k a b : ℕ) (d : List ℕ) → rows w h n k d ≡ Sheet a b → length (cells w n k d) ≡ sum w n k
  unfolding cells sum
  length_cells zero k a b d e = refl
  length_cells (suc n) k a b d e =
      let p = rows_next w h n k a b d e in
      length-append (part (held w k) (take long d)) _
      ∙ (λ i. length_part k (take long d) p.0 i + length_cells n (suc k) a b (drop long d) p.1 i)

-- n cards of the rest are left, k the next one's number; from cells stand in the table; goal is what they become.
pub record Filling (w h : ℕ) (goal table rest : List ℕ) (n k from : ℕ) : Type 0 where
  pub count : k + n ≡ row_cards w h + 2
  pub sound : rows w h n k rest ≡ Sheet w h
  pub length_is : length table ≡ room
  pub most : from + sum w n k ≡ w * h
  pub cells_is : take from table ++ cells w n k rest ≡ goal

-- before the first card
pub filling_none : (w h : ℕ) (d t : List ℕ) → rows w h (row_cards w h) 2 d ≡ Sheet w h → length t ≡ room
    → Filling w h (cells w (row_cards w h) 2 d) t d (row_cards w h) 2 0
filling_none w h d t e q = record {
  count = omega arith;
  sound = e;
  length_is = q;
  most = omega (arith, sum_all w h);
  cells_is = refl;
}

module _ (w h : ℕ) (size : within w h ≡ true) (goal table rest : List ℕ) (k from : ℕ) where
  -- the next card's cells have room
  pub filling_room : (n : ℕ) → 0 < n → Filling w h goal table rest n k from
      → from + length (part (held w k) (take long rest)) ≤ length table
  unfolding sum room
  filling_room zero p f = absurd (omega arith)
  filling_room (suc n) p f =
      let e = (rows_next w h n k w h rest f.sound).0 in
      omega (arith, length_part w h size k (take long rest) e, f.most, f.length_is, cells_fit w h size)

  -- the next card is whole
  pub filling_whole : (n : ℕ) → 0 < n → Filling w h goal table rest n k from → long ≤ length rest
  filling_whole zero p f = absurd (omega arith)
  filling_whole (suc n) p f = row_whole w h k rest (rows_next w h n k w h rest f.sound).0

  -- the next card's cells are copied
  pub filling_more : (n : ℕ) → 0 < n → (f : Filling w h goal table rest n k from)
      → let l = part (held w k) (take long rest) in
      Filling w h goal (paste table from l (length l)) (drop long rest) (n - 1) (k + 1) (from + length l)
  unfolding sum cells
  filling_more zero p f = absurd (omega arith)
  filling_more (suc n) p f =
      let q = rows_next w h n k w h rest f.sound in
      let l = part (held w k) (take long rest) in
      let b = filling_room (suc n) p f in
      let a : from ≤ length table = omega arith in
      let le : length l ≤ length l = omega arith in
      let copied = take-paste table from l (length l) a le ∙ ap (λ x. take from table ++ x) (take-length l) in
      rw (sub-one, add-one) (record {
        count = omega (arith, f.count);
        sound = q.1;
        length_is = length-paste table from l (length l) b le ∙ f.length_is;
        most = omega (arith, length_part w h size k (take long rest) q.0, f.most);
        cells_is = ap (λ x. x ++ cells w n (suc k) (drop long rest)) copied ∙ append_assoc (take from table) l _
            ∙ f.cells_is;
      })

  -- the same, of what the copy leaves
  pub filling_turn : (n : ℕ) (l table' rest' : List ℕ) (from' : ℕ) → 0 < n → Filling w h goal table rest n k from
      → l ≡ part (held w k) (take long rest) → table' ≡ paste table from l (length l) → rest' ≡ drop long rest
      → from' ≡ from + length l → Filling w h goal table' rest' (n - 1) (k + 1) from'
  filling_turn n l table' rest' from' p f a b c d = rw (b, c, d, a) (filling_more n p f)

  -- the cells in the table are no more than it has room for
  pub filling_within : (n : ℕ) → Filling w h goal table rest n k from → from ≤ length table
  unfolding room
  filling_within n f = omega (arith, f.most, f.length_is, cells_fit w h size)

  -- no card is left
  pub filling_end : (n : ℕ) → n ≤ 0 → Filling w h goal table rest n k from
      → take from table ++ replicate (length table - from) 0 ≡ filled goal
  unfolding cells filled sum
  filling_end zero p f =
      let g = sym (append-nil (take from table)) ∙ f.cells_is in
      let b = filling_within zero f in
      rw (← g, length-take-le from table b, f.length_is)
  filling_end (suc n) p f = absurd (omega arith)

-- a part of the table from a place on, set to 0, as it comes back
pub cleared : (from : ℕ) (l m : List ℕ) → m ≡ replicate (length (take (length l - from) (drop from l))) 0
    → take from l ++ (m ++ drop (length l - from) (drop from l)) ≡ take from l ++ replicate (length l - from) 0
cleared from l m e =
    let n = length-drop from l in
    rw (e, rest_all from l, drop_of_length-le (drop from l) {i = length l - from} (omega arith), append-nil, n)
