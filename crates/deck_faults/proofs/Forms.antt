-- What a card is refused for.
--   form            == the refusals that do not look at its content
--   header, row     == those of a header and of a row's card
use mathlib.Core.Path.{◌≡◌, refl, sym, ◌∙◌}
use mathlib.Core.Bool.{Bool, true, false, cond, ◌&&◌}
use mathlib.Core.List.{List, []}
use Prim.Native.Nat.{ℕ, zero, suc, ◌+◌}
use native.Mathlib.Omega.{arith}
use lib.Dec.{eqb}
use lib.ListN.{length, take}
use lib.Seq.{slice}
use Rattle.laws.specs.Equal.{equal}
use Rattle.laws.proofs.Test.{and_left}
use Rattle.sheet_size.specs.Size.{within}
use Rattle.laws.specs.Every.{every}
use Rattle.deck_card.specs.declared.answer.Fault.{Fault}
use Rattle.deck_card.specs.Outcome.{fault_number}
use Rattle.deck_card.proofs.Outcomes.{fault_some}
use Rattle.deck_card.specs.Card.{columns, places, blank, from_to, visible, card, whole}
use Rattle.deck_layout.specs.Layout.{heading}
use Rattle.deck_card.proofs.Cards.{card_columns, card_number}
use Rattle.deck_layout.proofs.Headings.{heading_fits}
use Rattle.deck_faults.specs.Fault.{or_else, bears, form, width, height, headed, header, row}

-- A refusal, or another where it is none.
pub or_else_some : (a b : ℕ) → (a ≡ 0 → ⊥) → a ≡ or_else a b
unfolding or_else
or_else_some zero b n = absurd (n refl)
or_else_some (suc a) b n = refl

pub or_else_none : (a b : ℕ) → a ≡ 0 → or_else a b ≡ b
unfolding or_else
or_else_none a b e = rw e

pub or_else_zero : (a b : ℕ) → or_else a b ≡ 0 → a ≡ 0
unfolding or_else
or_else_zero zero b e = refl
or_else_zero (suc a) b e = e

module _ (k : ℕ) (c : List ℕ) where
  -- its number, against that of a card that is numbered so
  pub bears_is : bears k c
      ≡ equal (slice columns (columns + places) c) (slice columns (columns + places) (card k []))
  unfolding bears
  bears_is = rw (card_number k [] (omega arith))

module _ (c : List ℕ) where
  pub headed_is : headed c
      ≡ (within (width c) (height c)
      && equal (slice 0 columns c) (slice 0 columns (card 1 (heading (width c) (height c)))))
  unfolding headed
  headed_is = rw (card_columns 1 (heading (width c) (height c)) (heading_fits _ _))

  -- a fault of its form
  pub header_formed : (f : Fault) → fault_number f ≡ form 1 c → fault_number f ≡ header c
  unfolding header
  header_formed f e = e ∙ or_else_some _ _ (rw (← e) (fault_some f))

  pub header_is : form 1 c ≡ 0 → header c ≡ cond (headed c) 0 21
  unfolding header
  header_is e = or_else_none _ _ e

  -- a header that is not refused
  pub header_form : header c ≡ 0 → form 1 c ≡ 0
  unfolding header
  header_form e = or_else_zero _ _ e

  pub header_headed : header c ≡ 0 → headed c ≡ true
  header_headed e = go (headed c) (sym (header_is (header_form e)) ∙ e)
    where
      go : (b : Bool) → ◌≡◌ {A = ℕ} (cond b 0 21) 0 → b ≡ true
      go true h = refl
      go false h = absurd (omega arith)

  pub header_within : header c ≡ 0 → within (width c) (height c) ≡ true
  unfolding headed
  header_within e = and_left _ _ (header_headed e)

-- The card numbered k, with w cells.
module _ (w k : ℕ) (c : List ℕ) where
  -- a fault of its form
  pub row_formed : (f : Fault) → fault_number f ≡ form k c → fault_number f ≡ row w k c
  unfolding row
  row_formed f e = e ∙ or_else_some _ _ (rw (← e) (fault_some f))

  pub row_form : row w k c ≡ 0 → form k c ≡ 0
  unfolding row
  row_form e = or_else_zero _ _ e

  pub row_is : form k c ≡ 0
      → row w k c ≡ cond (every visible (take w c)) (cond (every (from_to blank blank) (slice w columns c)) 0 24) 23
  unfolding row
  row_is e = or_else_none _ _ e

-- A card whose form is not refused.
pub record Formed (k : ℕ) (c : List ℕ) : Type 0 where
  pub whole_is : whole c ≡ true
  pub number_is : bears k c ≡ true

pub form_none : (k : ℕ) (c : List ℕ) → form k c ≡ 0 → Formed k c
unfolding form
form_none k c e = go (eqb (length c) 0) (whole c) (bears k c) refl refl e
  where
    go : (a b n : Bool) → whole c ≡ b → bears k c ≡ n → ◌≡◌ {A = ℕ} (cond a 25 (cond b (cond n 0 22) 20)) 0
        → Formed k c
    go true b n p q h = absurd (omega arith)
    go false false n p q h = absurd (omega arith)
    go false true false p q h = absurd (omega arith)
    go false true true p q h = record { whole_is = p; number_is = q }

-- A row's card that is not refused.
pub record Rowed (w k : ℕ) (c : List ℕ) : Type 0 where
  pub form_is : form k c ≡ 0
  pub cells_are : every visible (take w c) ≡ true
  pub blanks_are : every (from_to blank blank) (slice w columns c) ≡ true

pub row_none : (w k : ℕ) (c : List ℕ) → row w k c ≡ 0 → Rowed w k c
row_none w k c e = go _ _ refl refl (sym (row_is w k c (row_form w k c e)) ∙ e)
  where
    go : (a b : Bool) → every visible (take w c) ≡ a → every (from_to blank blank) (slice w columns c) ≡ b
        → ◌≡◌ {A = ℕ} (cond a (cond b 0 24) 23) 0 → Rowed w k c
    go true true p q h = record { form_is = row_form w k c e; cells_are = p; blanks_are = q }
    go true false p q h = absurd (omega arith)
    go false b p q h = absurd (omega arith)
