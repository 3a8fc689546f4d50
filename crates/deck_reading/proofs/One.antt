-- One sheet has one deck (the paper, "The deck").
--   Sound w h s     == the sheet s of width w and height h can stand on cards: the size is one, the length is that of
--                      the size, and each label is 33 to 126
use mathlib.Core.Path.{◌≡◌, refl, sym, ap, ◌∙◌}
use mathlib.Core.Bool.{Bool, true, false, cond}
use mathlib.Core.List.{List, [], ◌∷◌, ◌++◌}
use Prim.Native.Nat.{ℕ, zero, suc, ◌*◌, ◌≤◌}
use native.Mathlib.Nat.{mul-zero, mul-suc, mul-add}
use native.Mathlib.Omega.{arith}
use lib.Dec.{eqb}
use lib.ListN.{length, take, drop, length-append, length-take, length-drop, take-append-drop}
use lib.Seq.{take_at, drop_at, length-take-le}
use borrow.Author.Tests.{eqb-true, eqb-false}
use Rattle.sheet_size.specs.Size.{within}
use Rattle.std.specs.Prelude.{Ok, Err}
use Rattle.deck_card.specs.declared.answer.WriteRefusal.{WriteRefusal}
use Rattle.laws.specs.Every.{every}
use Rattle.deck_card.specs.Card.{columns, long, visible, card, part}
use Rattle.deck_card.specs.Outcome.{Verdict, Sheet, Refused, verdict_outcome, write_outcome}
use Rattle.deck_card.proofs.Outcomes.{verdict_one, write_one}
use Rattle.deck_card.proofs.Parts.{part_held}
use Rattle.deck_layout.specs.Layout.{heading, row_cards, held}
use Rattle.deck_card.proofs.Cards.{length_card}
use Rattle.deck_card.proofs.Every.{every_take, every_drop, every_append}
use Rattle.deck_layout.proofs.Headings.{heading_fits}
use Rattle.deck_layout.proofs.Sizes.{held_measured, held_most, sum, sum_all}
use Rattle.deck_faults.specs.Fault.{row}
use Rattle.deck_faults.proofs.Forms.{row_none}
use Rattle.deck_faults.proofs.Rows.{card_whole, card_cells, card_row, row_card}
use Rattle.deck_faults.proofs.Rows.{heading_width, heading_height, heading_header, header_card}
use Rattle.deck_writing.specs.Writing.{row_deck, deck_of, deck_length, written, bytes_after, writing}
use Rattle.deck_writing.proofs.Punching.{writing_done}
use Rattle.deck_reading.specs.Judging.{rows, judged}
use Rattle.deck_reading.proofs.Verdicts.{stopped_none, rows_done, rows_next, judged_sheet, judged_go, judged_refused}
use Rattle.deck_reading.specs.Reading.{room, cells, filled, reading}
use Rattle.deck_reading.proofs.Outcomes.{reading_table, reading_refused, reading_sheet}
use Rattle.deck_reading.proofs.Filling.{part_is, length_part, length_cells}

pub record Sound (w h : ℕ) (s : List ℕ) : Type 0 where
  pub size : within w h ≡ true
  pub cells_are : length s ≡ w * h
  pub labels_are : every visible s ≡ true

empty : (l : List ℕ) → length l ≡ 0 → l ≡ []
empty [] e = refl
empty (x ∷ l) e = absurd (omega arith)

-- a card at the front of the bytes
module _ (k : ℕ) (c d : List ℕ) (fits : length c ≤ columns) where
  front_card : take long (card k c ++ d) ≡ card k c
  front_card = take_at (card k c) d long (length_card k c fits)

  after_card : drop long (card k c ++ d) ≡ d
  after_card = drop_at (card k c) d long (length_card k c fits)

-- The cards of rows that are written, read back.
module _ (w h : ℕ) (size : within w h ≡ true) where
  -- the first card's content
  content_length : (n k : ℕ) (s : List ℕ) → length s ≡ sum w (suc n) k → length (take (held w k) s) ≡ held w k
  unfolding sum
  content_length n k s e = length-take-le (held w k) s (omega arith)

  content_fits : (n k : ℕ) (s : List ℕ) → length s ≡ sum w (suc n) k → length (take (held w k) s) ≤ columns
  content_fits n k s e = rw (content_length n k s e) (held_most w h size k)

  rest_length : (n k : ℕ) (s : List ℕ) → length s ≡ sum w (suc n) k → length (drop (held w k) s) ≡ sum w n (suc k)
  unfolding sum
  rest_length n k s e = length-drop (held w k) s ∙ omega arith

  rows_written : (n k : ℕ) (s : List ℕ) → length s ≡ sum w n k → every visible s ≡ true
      → rows w h n k (row_deck w n k s) ≡ Sheet w h
  unfolding rows row_deck
  rows_written zero k s e v = refl
  rows_written (suc n) k s e v =
      let c = take (held w k) s in
      let d = row_deck w n (suc k) (drop (held w k) s) in
      let f = content_fits n k s e in
      let r : row (held w k) k (card k c) ≡ 0 =
      rw (content_length n k s e) at (card_row k c f (every_take visible (held w k) s v)) in
      let rest = drop (held w k) s in
      rw (front_card k c d f, after_card k c d f)
      (stopped_none (row (held w k) k (card k c)) k _ r
      ∙ rows_written n (suc k) rest (rest_length n k s e) (every_drop visible (held w k) s v))

  cells_written : (n k : ℕ) (s : List ℕ) → length s ≡ sum w n k → cells w n k (row_deck w n k s) ≡ s
  unfolding cells row_deck sum
  cells_written zero k s e = sym (empty s e)
  cells_written (suc n) k s e =
      let c = take (held w k) s in
      let d = row_deck w n (suc k) (drop (held w k) s) in
      let f = content_fits n k s e in
      let p : part (held w k) (card k c) ≡ c =
      part_held (held w k) (card k c) (held_measured w h size k) (card_whole k c f)
      ∙ rw (content_length n k s e) at (card_cells k c f) in
      rw (front_card k c d f, after_card k c d f)
      ((λ i. p i ++ cells_written n (suc k) (drop (held w k) s) (rest_length n k s e) i)
      ∙ take-append-drop (held w k) s)

  -- Rows that are read, written again.
  rows_read : (n k a b : ℕ) (d : List ℕ) → rows w h n k d ≡ Sheet a b → d ≡ row_deck w n k (cells w n k d)
  unfolding cells row_deck
  rows_read zero k a b d e = empty d (rows_done w h k a b d e)
  rows_read (suc n) k a b d e =
      let p = rows_next w h n k a b d e in
      let c = take long d in
      let l = part (held w k) c in
      let m = cells w n (suc k) (drop long d) in
      let q = length_part w h size k c p.0 in
      rw (take_at l m (held w k) q, drop_at l m (held w k) q, ← (rows_read n (suc k) a b (drop long d) p.1))
      (sym (take-append-drop long d)
      ∙ ap (λ x. x ++ drop long d)
      (row_card (held w k) k c (held_most w h size k) p.0 ∙ ap (card k) (sym (part_is w h size k c p.0))))

  cells_visible : (n k a b : ℕ) (d : List ℕ) → rows w h n k d ≡ Sheet a b → every visible (cells w n k d) ≡ true
  unfolding cells every
  cells_visible zero k a b d e = refl
  cells_visible (suc n) k a b d e =
      let p = rows_next w h n k a b d e in
      every_append visible (part (held w k) (take long d)) _
      (rw (part_is w h size k (take long d) p.0) (row_none (held w k) k (take long d) p.0).cells_are)
      (cells_visible n (suc k) a b (drop long d) p.1)

-- A deck that is written reads as its sheet.
module _ (w h : ℕ) (s : List ℕ) (f : Sound w h s) where
  judged_written : judged (deck_of w h s) ≡ Sheet w h
  unfolding deck_of
  judged_written =
      let d = row_deck w (row_cards w h) 2 s in
      let a = front_card 1 (heading w h) d (heading_fits w h) in
      let b = after_card 1 (heading w h) d (heading_fits w h) in
      sym (judged_go (card 1 (heading w h) ++ d) (rw a (heading_header w h f.size)))
      ∙ rw (a, b, heading_width w h f.size, heading_height w h f.size)
      (rows_written w h f.size (row_cards w h) 2 s (f.cells_are ∙ sym (sum_all w h)) f.labels_are)

  cells_back : cells w (row_cards w h) 2 (drop long (deck_of w h s)) ≡ s
  unfolding deck_of
  cells_back =
      rw (after_card 1 (heading w h) (row_deck w (row_cards w h) 2 s) (heading_fits w h))
      (cells_written w h f.size (row_cards w h) 2 s (f.cells_are ∙ sym (sum_all w h)))

  pub reading_deck : (t : List ℕ) → length t ≡ room → reading (deck_of w h s) t ≡ verdict_outcome (Sheet w h) (filled s)
  reading_deck t e =
      sym (reading_sheet (deck_of w h s) t w h e judged_written)
      ∙ ap (λ x. verdict_outcome (Sheet w h) (filled x)) cells_back

-- Bytes that read as a sheet are the deck that is written from it.
module _ (w h : ℕ) (d : List ℕ) (e : judged d ≡ Sheet w h) where
  pub cells_sound : Sound w h (cells w (row_cards w h) 2 (drop long d))
  cells_sound =
      let k = judged_sheet w h d e in
      record {
        size = k.size;
        cells_are = length_cells w h k.size (row_cards w h) 2 w h (drop long d) k.body ∙ sum_all w h;
        labels_are = cells_visible w h k.size (row_cards w h) 2 w h (drop long d) k.body;
      }

  pub deck_read : d ≡ deck_of w h (cells w (row_cards w h) 2 (drop long d))
  unfolding deck_of
  deck_read =
      let k = judged_sheet w h d e in
      let head = header_card (take long d) k.head ∙ (λ i. card 1 (heading (k.wide i) (k.high i))) in
      sym (take-append-drop long d)
      ∙ (λ i. head i ++ rows_read w h k.size (row_cards w h) 2 w h (drop long d) k.body i)

-- A reading that is done.
module _ (w h : ℕ) (d t u : List ℕ) (e : reading d t ≡ verdict_outcome (Sheet w h) u) where
  -- the table's length was right
  read_room : length t ≡ room
  read_room = go (eqb (length t) room) refl
    where
      go : (b : Bool) → eqb (length t) room ≡ b → length t ≡ room
      go true p = eqb-true (length t) room p
      go false p =
          let q = reading_table d t (eqb-false (length t) room p) ∙ e in
          let r = (verdict_one _ _ _ _ q).0 in
          let z : ◌≡◌ {A = ℕ} 0 1 = cc in
          absurd (omega arith)

  -- the bytes are the deck of a sheet
  read_judged : judged d ≡ Sheet w h
  read_judged = go (judged d) refl
    where
      go : (a : Verdict) → judged d ≡ a → judged d ≡ Sheet w h
      go (Sheet a b) p = p ∙ (verdict_one _ _ _ _ (reading_sheet d t a b read_room p ∙ e)).0
      go (Refused n k) p = (verdict_one _ _ _ _ (reading_refused d t n k read_room p ∙ e)).0

  read_cells : filled (cells w (row_cards w h) 2 (drop long d)) ≡ u
  read_cells = (verdict_one _ _ _ _ (reading_sheet d t w h read_room read_judged ∙ e)).1

-- A writing that is done: the sheet can stand on cards, and the bytes become its deck.
written_sound : (w h : ℕ) (s : List ℕ) (n : ℕ) → written w h s n ≡ Ok tt → Sound w h s
unfolding written
written_sound w h s n e = go _ _ (eqb n (deck_length w h)) _ refl refl refl e
  where
    go : (a b c v : Bool) → within w h ≡ a → eqb (length s) (w * h) ≡ b → every visible s ≡ v
        → cond a
        (cond b (cond c (cond v (Ok (tt {0})) (Err WriteRefusal.Label)) (Err WriteRefusal.Deck)) (Err WriteRefusal.Sheet))
        (Err WriteRefusal.Size)
        ≡ Ok (tt {0}) → Sound w h s
    go true true true true p q r f = record { size = p; cells_are = eqb-true (length s) (w * h) q; labels_are = r }
    go true true true false p q r f = let z : ◌≡◌ {A = ℕ} 0 1 = cc in absurd (omega arith)
    go true true false v p q r f = let z : ◌≡◌ {A = ℕ} 0 1 = cc in absurd (omega arith)
    go true false c v p q r f = let z : ◌≡◌ {A = ℕ} 0 1 = cc in absurd (omega arith)
    go false b c v p q r f = let z : ◌≡◌ {A = ℕ} 0 1 = cc in absurd (omega arith)

module _ (w h : ℕ) (s t u : List ℕ) (e : writing w h s t ≡ write_outcome (Ok tt) u) where
  write_answer : written w h s (length t) ≡ Ok tt
  unfolding writing
  write_answer = (write_one _ _ _ _ e).0

  write_sound : Sound w h s
  write_sound = written_sound w h s (length t) write_answer

  write_deck : deck_of w h s ≡ u
  unfolding writing bytes_after
  write_deck = rw write_answer at (write_one _ _ _ _ e).1

-- the length of a deck
length_rows : (w h n k : ℕ) (s : List ℕ) → within w h ≡ true → length (row_deck w n k s) ≡ long * n
unfolding row_deck
length_rows w h zero k s e = sym (mul-zero long)
length_rows w h (suc n) k s e =
    let b : length (take (held w k) s) ≤ columns = omega (arith, length-take (held w k) s, held_most w h e k) in
    length-append (card k (take (held w k) s)) _
    ∙ omega
    (arith, length_card k (take (held w k) s) b, length_rows w h n (suc k) (drop (held w k) s) e, mul-suc long n)

length_deck : (w h : ℕ) (s : List ℕ) → within w h ≡ true → length (deck_of w h s) ≡ deck_length w h
unfolding deck_of deck_length
length_deck w h s e =
    let a = length_card 1 (heading w h) (heading_fits w h) in
    let b = length_rows w h (row_cards w h) 2 s e in
    length-append (card 1 (heading w h)) _ ∙ omega (arith, mul-add long (row_cards w h) 1)

-- the cells of a sheet that is no longer than the table stand at its front
filled_cells : (n : ℕ) (a b : List ℕ) → length a ≡ n → length b ≡ n → filled a ≡ filled b → a ≡ b
unfolding filled
filled_cells n a b p q e = sym (take_at a _ n p) ∙ ap (take n) e ∙ take_at b _ n q

-- Reading a written deck gives the sheet.
pub read_written : (w h : ℕ) (s t d u : List ℕ) → writing w h s t ≡ write_outcome (Ok tt) d → length u ≡ room
    → reading d u ≡ verdict_outcome (Sheet w h) (filled s)
read_written w h s t d u e q =
    rw (← (write_deck w h s t d e)) (reading_deck w h s (write_sound w h s t d e) u q)

-- A deck that reads as a sheet is the deck that is written from it.
pub written_read : (w h : ℕ) (s d t u : List ℕ) → length s ≡ w * h
    → reading d t ≡ verdict_outcome (Sheet w h) (filled s) → length u ≡ length d
    → writing w h s u ≡ write_outcome (Ok tt) d
written_read w h s d t u n e q =
    let j = read_judged w h d t (filled s) e in
    let f = cells_sound w h d j in
    let c =
    filled_cells (w * h) (cells w (row_cards w h) 2 (drop long d)) s f.cells_are n
    (read_cells w h d t (filled s) e) in
    let b : d ≡ deck_of w h s = deck_read w h d j ∙ ap (deck_of w h) c in
    let l = q ∙ ap length b ∙ length_deck w h s f.size in
    sym (writing_done w h s u f.size n l (rw c at f.labels_are)) ∙ ap (write_outcome (Ok tt)) (sym b)

-- So two decks that read as one sheet are equal.
pub one_deck : (w h : ℕ) (c d e t u : List ℕ) → reading d t ≡ verdict_outcome (Sheet w h) c
    → reading e u ≡ verdict_outcome (Sheet w h) c → d ≡ e
one_deck w h c d e t u p q =
    let a = read_judged w h d t c p in
    let b = read_judged w h e u c q in
    let s =
    filled_cells (w * h) _ _ (cells_sound w h d a).cells_are (cells_sound w h e b).cells_are
    (read_cells w h d t c p ∙ sym (read_cells w h e u c q)) in
    deck_read w h d a ∙ ap (deck_of w h) s ∙ sym (deck_read w h e b)

-- A refusal's number is not 0, so 0 says that the deck was read.
pub refused_some : (d t u : List ℕ) (n k : ℕ) → reading d t ≡ verdict_outcome (Refused n k) u → n ≡ 0 → ⊥
refused_some d t u n k e q = go (eqb (length t) room) refl
  where
    answered_some : length t ≡ room → (a : Verdict) → judged d ≡ a → ⊥
    answered_some p (Sheet w h) j =
        let r = (verdict_one _ _ _ _ (reading_sheet d t w h p j ∙ e)).0 in
        let z : ◌≡◌ {A = ℕ} 0 1 = cc in
        omega arith
    answered_some p (Refused m i) j =
        judged_refused d n k (verdict_one _ _ _ _ (reading_refused d t m i p j ∙ e)).0 q

    go : (b : Bool) → eqb (length t) room ≡ b → ⊥
    go true p = answered_some (eqb-true (length t) room p) (judged d) refl
    go false p =
        let r = (verdict_one _ _ _ _ (reading_table d t (eqb-false (length t) room p) ∙ e)).0 in
        let z : 26 ≡ n = cc in
        omega arith
