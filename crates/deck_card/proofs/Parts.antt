-- The part of a card that holds its cells, and the tests that it goes by.
--   measured, whole == the width is one that a card can hold; the bytes are 80 and a line feed
use mathlib.Core.Path.{◌≡◌, refl, sym, ap, ◌∙◌}
use mathlib.Core.Bool.{Bool, true, false, cond, ◌&&◌}
use mathlib.Core.List.{List, []}
use Prim.Native.Nat.{ℕ, ◌+◌, ◌≤◌}
use native.Mathlib.Omega.{arith}
use lib.Dec.{eqb, leb}
use lib.ListN.{length, get_or, take}
use lib.Seq.{length-take-le}
use borrow.Author.Tests.{eqb-true, eq-eqb, leb-true, le-leb}
use Rattle.laws.proofs.Test.{and_left, and_right}
use Rattle.std.specs.Prelude.{Option, None, Some, is_some}
use Rattle.deck_card.specs.declared.answer.PartRefusal.{PartRefusal}
use Rattle.deck_card.specs.Card.{columns, places, long, feed, whole, measured, part, part_refusal}
use Rattle.deck_card.specs.Outcome.{part_number}

-- A width that a card can hold.
pub record Measured (w : ℕ) : Type 0 where
  pub some : 1 ≤ w
  pub most : w ≤ columns

pub measured_is : (w : ℕ) → measured w ≡ true → Measured w
unfolding measured
measured_is w e =
    record {
      some = leb-true 1 w (and_left (leb 1 w) (leb w columns) e);
      most = leb-true w columns (and_right (leb 1 w) (leb w columns) e);
    }

pub is_measured : (w : ℕ) → 1 ≤ w → w ≤ columns → measured w ≡ true
unfolding measured
is_measured w h k = rw (le-leb 1 w h, le-leb w columns k)

-- A refusal's number is not 0.
pub number_some : (r : Option PartRefusal) → is_some r ≡ true → part_number r ≡ 0 → ⊥
number_some None s e = cc
number_some (Some PartRefusal.Width) s e = omega arith
number_some (Some PartRefusal.Card) s e = omega arith

pub number_none : (r : Option PartRefusal) → is_some r ≡ false → part_number r ≡ 0
number_none None s = refl
number_none (Some r) s = cc

-- Bytes that are 80 and a line feed.
pub record Whole (c : List ℕ) : Type 0 where
  pub length_is : length c ≡ long
  pub feed_is : get_or c (columns + places) 0 ≡ feed

pub whole_is : (c : List ℕ) → whole c ≡ true → Whole c
unfolding whole
whole_is c e =
    let long-enough = eqb (length c) long in
    let fed = eqb (get_or c (columns + places) 0) feed in
    record {
      length_is = eqb-true _ _ (and_left long-enough fed e);
      feed_is = eqb-true _ _ (and_right long-enough fed e);
    }

pub is_whole : (c : List ℕ) → Whole c → whole c ≡ true
unfolding whole
is_whole c q = rw (eq-eqb _ _ q.length_is, eq-eqb _ _ q.feed_is)

-- The part of a width that a card can hold, of a whole card: nothing else is looked at.
module _ (w : ℕ) (c : List ℕ) where
  pub part_held : measured w ≡ true → whole c ≡ true → part w c ≡ take w c
  unfolding part
  part_held h k = rw (h, k)

  -- no refusal: both hold
  pub refusal_none : part_refusal w c ≡ 0 → (measured w ≡ true) × (whole c ≡ true)
  unfolding part_refusal
  refusal_none e = go (measured w) (whole c) refl refl e
    where
      go : (a b : Bool) → measured w ≡ a → whole c ≡ b → ◌≡◌ {A = ℕ} (cond a (cond b 0 20) 1) 0
          → (measured w ≡ true) × (whole c ≡ true)
      go true true p q h = (p, q)
      go true false p q h = absurd (omega arith)
      go false b p q h = absurd (omega arith)

  pub part_given : part_refusal w c ≡ 0 → part w c ≡ take w c
  part_given e = let p = refusal_none e in part_held p.0 p.1

  -- the card is at least as long as the width, and the part as long
  pub part_long : part_refusal w c ≡ 0 → w ≤ length c
  unfolding long
  part_long e =
      let p = refusal_none e in
      let m = measured_is w p.0 in
      let q = (whole_is c p.1).length_is in
      omega arith

  pub part_length : part_refusal w c ≡ 0 → length (part w c) ≡ w
  part_length e = ap length (part_given e) ∙ length-take-le w c (part_long e)

  -- a part that is given is not empty
  pub part_some : part_refusal w c ≡ 0 → part w c ≡ [] → ⊥
  part_some e q =
      let m = (measured_is w (refusal_none e).0).some in
      let n = sym (part_length e) ∙ ap length q in
      omega arith

  -- a part that is refused is empty
  pub part_refused : (part_refusal w c ≡ 0 → ⊥) → part w c ≡ []
  unfolding part_refusal part
  part_refused n = go (measured w) (whole c) n
    where
      go : (a b : Bool) → (◌≡◌ {A = ℕ} (cond a (cond b 0 20) 1) 0 → ⊥) → cond (a && b) (take w c) [] ≡ []
      go true true h = absurd (h refl)
      go true false h = refl
      go false b h = refl
