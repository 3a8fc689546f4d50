-- The reader's answer, card by card.
--   rows w h n k d  == the answer to the bytes d where n cards are still to come, k the next one's number
use mathlib.Core.Path.{◌≡◌, refl, sym, ◌∙◌}
use mathlib.Core.Bool.{Bool, true, false, cond}
use mathlib.Core.List.{List}
use Prim.Native.Nat.{ℕ, zero, suc, ◌+◌, ◌-◌, ◌≤◌, ◌<◌}
use native.Mathlib.Numerals.{add-one, sub-one}
use native.Mathlib.Omega.{arith}
use lib.Dec.{eqb}
use lib.ListN.{length, take, drop, length-take}
use borrow.Author.Tests.{eqb-true}
use Rattle.sheet_size.specs.Size.{within}
use Rattle.deck_card.specs.Card.{long, whole}
use Rattle.deck_card.specs.Outcome.{Verdict, Sheet, Refused, fault_number, fault_told}
use Rattle.deck_card.specs.declared.answer.Fault.{Fault}
use Rattle.deck_card.specs.declared.answer.ReadRefusal.{ReadRefusal}
use Rattle.deck_card.proofs.Outcomes.{fault_some}
use Rattle.std.specs.Prelude.{Result, Ok, Err}
use Rattle.std.specs.Result.{MatchResult, IsErrAnd}
use Rattle.std.proofs.lemmas.Result.{err_from_is_err_and}
use Rattle.deck_card.proofs.Parts.{whole_is}
use Rattle.deck_layout.specs.Layout.{row_cards, held}
use Rattle.deck_faults.specs.Fault.{width, height, header, row}
use Rattle.deck_faults.proofs.Forms.{form_none, header_form, header_within, row_form}
use Rattle.deck_reading.specs.Judging.{stopped, rows, judged}

-- A fault that is made a refusal at the card numbered k. Q says what is made of a fault.
module _ {X : Type 0} (r : Result X Fault) (m : Result X ReadRefusal) (Q : Fault → ReadRefusal → Type 0)
    (made : MatchResult r (λ x. m ≡ Ok x) (λ e. IsErrAnd m (Q e))) where
  pub at_card : (k : ℕ) → ((e : Fault) (y : ReadRefusal) → Q e y → y ≡ record { fault = e; card = k })
      → (y : ReadRefusal) → m ≡ Err y
      → (fault_told r ≡ 0 → ⊥) × (Refused (fault_number y.fault) y.card ≡ Refused (fault_told r) k)
  at_card k law y e = by r made
    where
      by : (r : Result X Fault) → MatchResult r (λ x. m ≡ Ok x) (λ e. IsErrAnd m (Q e))
          → (fault_told r ≡ 0 → ⊥) × (Refused (fault_number y.fault) y.card ≡ Refused (fault_told r) k)
      by (Ok x) q = cc
      by (Err f) q =
          let p = err_from_is_err_and m q in
          let n = p.1 in
          let s = law f p.0 p.2 in
          let t : y ≡ record { fault = f; card = k } = cc in
          (fault_some f, rw t)

  -- where there is no refusal there was no fault
  pub at_none : (x : X) → m ≡ Ok x → r ≡ Ok x
  at_none x e = by r made
    where
      by : (r : Result X Fault) → MatchResult r (λ x. m ≡ Ok x) (λ e. IsErrAnd m (Q e)) → r ≡ Ok x
      by (Ok z) q = cc
      by (Err f) q = let p = err_from_is_err_and m q in let n = p.1 in cc

-- A refusal stops the reading; none lets it go on.
pub stopped_some : (m k : ℕ) (r : Verdict) → (m ≡ 0 → ⊥) → Refused m k ≡ stopped m k r
unfolding stopped
stopped_some zero k r n = absurd (n refl)
stopped_some (suc m) k r n = refl

pub stopped_none : (m k : ℕ) (r : Verdict) → m ≡ 0 → stopped m k r ≡ r
unfolding stopped
stopped_none m k r e = rw e

-- A whole card at the front of the bytes.
pub first_whole : (d : List ℕ) → whole (take long d) ≡ true → long ≤ length d
first_whole d e = let n = sym (length-take long d) ∙ (whole_is (take long d) e).length_is in omega arith

module _ (w h k : ℕ) (d : List ℕ) where
  -- the next card is refused
  pub rows_stop : (n : ℕ) → 0 < n → (row (held w k) k (take long d) ≡ 0 → ⊥)
      → Refused (row (held w k) k (take long d)) k ≡ rows w h n k d
  unfolding rows
  rows_stop zero p b = absurd (omega arith)
  rows_stop (suc n) p b = stopped_some _ k _ b

  -- the next card is not refused
  pub rows_go : (n : ℕ) → 0 < n → row (held w k) k (take long d) ≡ 0
      → rows w h (n - 1) (k + 1) (drop long d) ≡ rows w h n k d
  unfolding rows
  rows_go zero p e = absurd (omega arith)
  rows_go (suc n) p e = rw (sub-one, add-one) (sym (stopped_none _ k _ e))

  -- bytes after the last card, and none
  pub rows_surplus : (n : ℕ) → n ≤ 0 → eqb (length d) 0 ≡ false → Refused 25 k ≡ rows w h n k d
  unfolding rows
  rows_surplus zero p e = rw e
  rows_surplus (suc n) p e = absurd (omega arith)

  pub rows_end : (n : ℕ) → n ≤ 0 → eqb (length d) 0 ≡ true → Sheet w h ≡ rows w h n k d
  unfolding rows
  rows_end zero p e = rw e
  rows_end (suc n) p e = absurd (omega arith)

  -- a card that is not refused is whole
  pub row_whole : row (held w k) k (take long d) ≡ 0 → long ≤ length d
  row_whole e = first_whole d (form_none k (take long d) (row_form (held w k) k (take long d) e)).whole_is

module _ (d : List ℕ) where
  -- the header is refused
  pub judged_stop : (header (take long d) ≡ 0 → ⊥) → Refused (header (take long d)) 1 ≡ judged d
  unfolding judged
  judged_stop b = stopped_some _ 1 _ b

  -- the header is not refused: the rows decide
  pub judged_go : header (take long d) ≡ 0
      → let c = take long d in
      rows (width c) (height c) (row_cards (width c) (height c)) 2 (drop long d) ≡ judged d
  unfolding judged
  judged_go e = sym (stopped_none _ 1 _ e)

  pub header_whole : header (take long d) ≡ 0 → long ≤ length d
  header_whole e = first_whole d (form_none 1 (take long d) (header_form (take long d) e)).whole_is

-- Answers that are a sheet.
pub stopped_sheet : (m k w h : ℕ) (r : Verdict) → stopped m k r ≡ Sheet w h → (m ≡ 0) × (r ≡ Sheet w h)
unfolding stopped
stopped_sheet zero k w h r e = (refl, e)
stopped_sheet (suc m) k w h r e = let z : ◌≡◌ {A = ℕ} 0 1 = cc in absurd (omega arith)

-- the rows' answer names the size that it is asked for
rows_size : (a b n k w h : ℕ) (d : List ℕ) → rows a b n k d ≡ Sheet w h → (a ≡ w) × (b ≡ h)
unfolding rows
rows_size a b zero k w h d e = go (eqb (length d) 0) e
  where
    go : (t : Bool) → cond t (Sheet a b) (Refused 25 k) ≡ Sheet w h → (a ≡ w) × (b ≡ h)
    go true q = (cc, cc)
    go false q = let z : ◌≡◌ {A = ℕ} 0 1 = cc in absurd (omega arith)
rows_size a b (suc n) k w h d e = rows_size a b n (suc k) w h (drop long d) (stopped_sheet _ k w h _ e).1

-- no card is left: no byte is left
pub rows_done : (a b k w h : ℕ) (d : List ℕ) → rows a b 0 k d ≡ Sheet w h → length d ≡ 0
unfolding rows
rows_done a b k w h d e = go (eqb (length d) 0) refl e
  where
    go : (t : Bool) → eqb (length d) 0 ≡ t → cond t (Sheet a b) (Refused 25 k) ≡ Sheet w h → length d ≡ 0
    go true p q = eqb-true (length d) 0 p
    go false p q = let z : ◌≡◌ {A = ℕ} 0 1 = cc in absurd (omega arith)

-- a card is left: it is not refused, and the cards after it
pub rows_next : (a b n k w h : ℕ) (d : List ℕ) → rows a b (suc n) k d ≡ Sheet w h
    → (row (held a k) k (take long d) ≡ 0) × (rows a b n (suc k) (drop long d) ≡ Sheet w h)
unfolding rows
rows_next a b n k w h d e = stopped_sheet _ k w h _ e

-- The header and the rows of bytes that are the deck of a sheet.
pub record Deck (w h : ℕ) (d : List ℕ) : Type 0 where
  pub head : header (take long d) ≡ 0
  pub wide : width (take long d) ≡ w
  pub high : height (take long d) ≡ h
  pub size : within w h ≡ true
  pub body : rows w h (row_cards w h) 2 (drop long d) ≡ Sheet w h

pub judged_sheet : (w h : ℕ) (d : List ℕ) → judged d ≡ Sheet w h → Deck w h d
unfolding judged
judged_sheet w h d e =
    let c = take long d in
    let p = stopped_sheet (header c) 1 w h _ e in
    let q = rows_size (width c) (height c) (row_cards (width c) (height c)) 2 w h (drop long d) p.1 in
    record {
      head = p.0;
      wide = q.0;
      high = q.1;
      size = rw (← q.0, ← q.1) (header_within c p.0);
      body = rw (q.0, q.1) at p.1;
    }

-- Answers that are a refusal: its number is not 0.
stopped_refused : (m k n j : ℕ) (r : Verdict) → (r ≡ Refused n j → n ≡ 0 → ⊥)
    → stopped m k r ≡ Refused n j → n ≡ 0 → ⊥
unfolding stopped
stopped_refused zero k n j r b e q = b e q
stopped_refused (suc m) k n j r b e q = let z : suc m ≡ n = cc in omega arith

rows_refused : (w h n k m j : ℕ) (d : List ℕ) → rows w h n k d ≡ Refused m j → m ≡ 0 → ⊥
unfolding rows
rows_refused w h zero k m j d e q = go (eqb (length d) 0) e
  where
    go : (t : Bool) → cond t (Sheet w h) (Refused 25 k) ≡ Refused m j → ⊥
    go true p = let z : ◌≡◌ {A = ℕ} 0 1 = cc in omega arith
    go false p = let z : 25 ≡ m = cc in omega arith
rows_refused w h (suc n) k m j d e q =
    stopped_refused (row (held w k) k (take long d)) k m j _ (rows_refused w h n (suc k) m j (drop long d)) e q

pub judged_refused : (d : List ℕ) (n k : ℕ) → judged d ≡ Refused n k → n ≡ 0 → ⊥
unfolding judged
judged_refused d n k e q =
    let c = take long d in
    let w = width c in
    let h = height c in
    stopped_refused (header c) 1 n k _ (rows_refused w h (row_cards w h) 2 n k (drop long d)) e q
