-- The bytes of a deck while it is written, card by card.
--   row_deck w n k s == the n cards from the card numbered k on that hold the cells s
--   Punching        == the cards written so far stand at the front of the bytes, and those of the cells that are left
--                      complete them
use mathlib.Core.Path.{◌≡◌, refl, sym, ap, ◌∙◌}
use mathlib.Core.Bool.{true, false}
use mathlib.Core.List.{List, ◌++◌, append_assoc, append-nil}
use Prim.Native.Nat.{ℕ, zero, suc, ◌+◌, ◌*◌, ◌-◌, ◌≤◌, ◌<◌}
use native.Mathlib.Nat.{mul-suc, mul-zero}
use native.Mathlib.Numerals.{add-one, sub-one}
use native.Mathlib.Omega.{arith}
use lib.ListN.{length, get_or, take, drop, length-append, length-drop}
use lib.Seq.{length-take-le, take_all, take_at, drop-drop}
use borrow.Author.Tests.{eq-eqb, ne_eqb}
use Rattle.sheet_size.specs.Size.{within}
use Rattle.std.specs.Prelude.{Ok, Err}
use Rattle.deck_card.specs.declared.answer.WriteRefusal.TheVariants.{Size, Sheet, Deck, Label}
use Rattle.laws.specs.Every.{every}
use Rattle.deck_card.specs.Card.{columns, long, visible, card}
use Rattle.deck_card.specs.Outcome.{write_outcome}
use Rattle.deck_layout.specs.Layout.{heading, row_cards, held}
use Rattle.deck_card.proofs.Cards.{length_card}
use Rattle.deck_card.proofs.Every.{every_take, every_drop, labels_bytes}
use Rattle.deck_layout.proofs.Headings.{heading_fits}
use Rattle.deck_layout.proofs.Sizes.{held_most, sum, sum_all}
use Rattle.deck_writing.specs.Writing.{row_deck, deck_of, deck_length, written, bytes_after, writing}

-- n cards are left, k the next one's number; rest are the cells that are left; the bytes before at are written.
pub record Punching (w h : ℕ) (goal deck rest : List ℕ) (n k at : ℕ) : Type 0 where
  pub count : k + n ≡ row_cards w h + 2
  pub kept : length deck ≡ deck_length w h
  pub left : at + long * n ≡ deck_length w h
  pub cells : length rest ≡ sum w n k
  pub labels : every visible rest ≡ true
  pub deck_is : take at deck ++ row_deck w n k rest ≡ goal

-- a card in the middle of the bytes, as the part that was lent comes back
pub middle : (at : ℕ) (l m : List ℕ)
    → take at l ++ (m ++ drop (at + long - at) (drop at l)) ≡ take at l ++ (m ++ drop (at + long) l)
middle at l m =
    let e : at + (at + long - at) ≡ at + long = omega arith in
    ap (λ x. take at l ++ (m ++ x)) (drop-drop (at + long - at) at l ∙ ap (λ n. drop n l) e)

-- the part that is lent for a card
pub length_middle : (at : ℕ) (l : List ℕ) → at + long ≤ length l → length (take (at + long - at) (drop at l)) ≡ long
length_middle at l h =
    let n = length-drop at l in
    length-take-le (at + long - at) (drop at l) (omega arith) ∙ omega arith

-- after the header's card
pub punching_none : (w h : ℕ) (s d : List ℕ) → length s ≡ w * h → length d ≡ deck_length w h → every visible s ≡ true
    → Punching w h (take long d ++ row_deck w (row_cards w h) 2 s) d s (row_cards w h) 2 long
unfolding deck_length
punching_none w h s d e q v = record {
  count = omega arith;
  kept = q;
  left = omega arith;
  cells = e ∙ sym (sum_all w h);
  labels = v;
  deck_is = refl;
}

module _ (w h : ℕ) (size : within w h ≡ true) (goal deck rest : List ℕ) (k at : ℕ) where
  -- the next card's cells are there, and its bytes
  pub punching_cells : (n : ℕ) → 0 < n → Punching w h goal deck rest n k at → held w k ≤ length rest
  unfolding sum
  punching_cells zero p f = absurd (omega arith)
  punching_cells (suc n) p f = omega (arith, f.cells)

  pub punching_room : (n : ℕ) → 0 < n → Punching w h goal deck rest n k at → at + long ≤ length deck
  punching_room zero p f = absurd (omega arith)
  punching_room (suc n) p f = omega (arith, f.left, f.kept, mul-suc long n)

  -- the content of the next card
  pub punching_content : (n : ℕ) → 0 < n → Punching w h goal deck rest n k at
      → (length (take (held w k) rest) ≤ columns) × ((i : ℕ) → get_or (take (held w k) rest) i 0 < 256)
  punching_content n p f =
      let m = held_most w h size k in
      let e = length-take-le (held w k) rest (punching_cells n p f) in
      (omega arith, labels_bytes (take (held w k) rest) (every_take visible (held w k) rest f.labels))

  -- the next card is written
  pub punching_turn : (n : ℕ) (deck' rest' : List ℕ) → 0 < n → Punching w h goal deck rest n k at
      → deck' ≡ take at deck ++ (card k (take (held w k) rest) ++ drop (at + long) deck) → rest' ≡ drop (held w k) rest
      → Punching w h goal deck' rest' (n - 1) (k + 1) (at + long)
  unfolding sum row_deck
  punching_turn zero deck' rest' p f a b = absurd (omega arith)
  punching_turn (suc n) deck' rest' p f a b =
      let c = card k (take (held w k) rest) in
      let tail = row_deck w n (suc k) (drop (held w k) rest) in
      let m = punching_room (suc n) p f in
      let t = length-take-le at deck (omega arith) in
      let l = length_card k (take (held w k) rest) (punching_content (suc n) p f).0 in
      let front : length (take at deck ++ c) ≡ at + long = length-append (take at deck) c ∙ omega arith in
      rw (a, b, sub-one, add-one) (record {
        count = omega (arith, f.count);
        kept = simp (length-append, length-drop) (omega (arith, f.kept));
        left = omega (arith, f.left, mul-suc long n);
        cells = simp length-drop (omega (arith, f.cells));
        labels = every_drop visible (held w k) rest f.labels;
        deck_is = ap (λ x. take (at + long) x ++ tail) (sym (append_assoc (take at deck) c _))
            ∙ ap (λ x. x ++ tail) (take_at (take at deck ++ c) _ (at + long) front)
            ∙ append_assoc (take at deck) c tail ∙ f.deck_is;
      })

  -- no card is left
  pub punching_end : (n : ℕ) → n ≤ 0 → Punching w h goal deck rest n k at → deck ≡ goal
  unfolding row_deck
  punching_end zero p f =
      let b : length deck ≤ at = omega (arith, f.left, f.kept, mul-zero long) in
      sym (take_all at deck b) ∙ sym (append-nil (take at deck)) ∙ f.deck_is
  punching_end (suc n) p f = absurd (omega arith)

-- The outcome of writing a sheet s of width w and height h into the bytes t.
module _ (w h : ℕ) (s t : List ℕ) where
  pub writing_size : within w h ≡ false → write_outcome (Err Size) t ≡ writing w h s t
  unfolding written bytes_after writing
  writing_size e = rw e

  pub writing_sheet : within w h ≡ true → (length s ≡ w * h → ⊥) → write_outcome (Err Sheet) t ≡ writing w h s t
  unfolding written bytes_after writing
  writing_sheet e n = rw (e, ne_eqb _ _ n)

  pub writing_deck : within w h ≡ true → length s ≡ w * h → (length t ≡ deck_length w h → ⊥)
      → write_outcome (Err Deck) t ≡ writing w h s t
  unfolding written bytes_after writing
  writing_deck e q n = rw (e, eq-eqb _ _ q, ne_eqb _ _ n)

  pub writing_label : within w h ≡ true → length s ≡ w * h → length t ≡ deck_length w h → every visible s ≡ false
      → write_outcome (Err Label) t ≡ writing w h s t
  unfolding written bytes_after writing
  writing_label e q p v = rw (e, eq-eqb _ _ q, eq-eqb _ _ p, v)

  pub writing_done : within w h ≡ true → length s ≡ w * h → length t ≡ deck_length w h → every visible s ≡ true
      → write_outcome (Ok tt) (deck_of w h s) ≡ writing w h s t
  unfolding written bytes_after writing
  writing_done e q p v = rw (e, eq-eqb _ _ q, eq-eqb _ _ p, v)

-- a deck has a header's card
pub deck_some : (w h : ℕ) → long ≤ deck_length w h
unfolding deck_length
deck_some w h = omega (arith, mul-suc long (row_cards w h))

-- the header's card, and the rows' cards after it
pub deck_whole : (w h : ℕ) (s d : List ℕ)
    → take long (card 1 (heading w h) ++ drop long d) ++ row_deck w (row_cards w h) 2 s ≡ deck_of w h s
unfolding deck_of
deck_whole w h s d =
    ap (λ x. x ++ row_deck w (row_cards w h) 2 s)
    (take_at (card 1 (heading w h)) (drop long d) long (length_card 1 (heading w h) (heading_fits w h)))
