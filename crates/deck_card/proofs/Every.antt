-- Tests that go along a list.
--   every p (drop i l) == the entries from i on pass the test p
--   equal (slice i e l) (slice i e m) == the lists l and m have the same entries from i up to e
use mathlib.Core.Path.{◌≡◌, refl, ap}
use mathlib.Core.Bool.{Bool, true, ◌&&◌}
use mathlib.Core.List.{List, [], ◌∷◌, ◌++◌}
use Prim.Native.Nat.{ℕ, zero, suc, ◌+◌, ◌≤◌, ◌<◌}
use native.Mathlib.Nat.{le_refl}
use native.Mathlib.Numerals.{add-one}
use native.Mathlib.Omega.{arith}
use lib.Dec.{eqb, leb}
use lib.ListN.{length, get_or, take, drop, replicate}
use lib.Seq.{slice, slice-cons, slice_empty}
use borrow.Author.Tests.{le-leb, leb-true}
use Rattle.std.specs.List.{list_all, range_with_len}
use Rattle.laws.specs.Equal.{equal}
use Rattle.laws.specs.Every.{every}
use Rattle.laws.proofs.Test.{and_left, and_right}
use Rattle.deck_card.specs.Card.{blank, lowest, highest, from_to, visible}

-- A test of a range.
pub from_to_inside : (a b n : ℕ) → a ≤ n → n ≤ b → from_to a b n ≡ true
unfolding from_to
from_to_inside a b n h k = rw (le-leb a n h, le-leb n b k)

pub visible_most : (n : ℕ) → visible n ≡ true → n ≤ highest
unfolding visible from_to
visible_most n e = leb-true n highest (and_right (leb lowest n) (leb n highest) e)

-- The lists l and m, both at least e long, from i up to e.
module _ (l m : List ℕ) (e : ℕ) (h : e ≤ length l) (k : e ≤ length m) where
  -- n places, from i on, are tested one by one
  pub all_equal : (n i : ℕ) → i + n ≡ e
      → list_all (λ p. eqb (get_or l p 0) (get_or m p 0)) (range_with_len i n) ≡ equal (slice i e l) (slice i e m)
  unfolding equal
  all_equal zero i q = let f : i ≡ e = omega arith in rw (f, slice_empty e l, slice_empty e m)
  all_equal (suc n) i q =
      let b : i < e = omega arith in
      rw (slice-cons i e l 0 b h, slice-cons i e m 0 b k)
      (ap (λ c. eqb (get_or l i 0) (get_or m i 0) && c) (rw add-one (all_equal n (suc i) (omega arith))))

-- Parts of a list whose entries all pass, and two such lists.
pub every_take : (p : ℕ → Bool) (n : ℕ) (l : List ℕ) → every p l ≡ true → every p (take n l) ≡ true
unfolding every
every_take p zero l e = refl
every_take p (suc n) [] e = refl
every_take p (suc n) (x ∷ l) e = rw (and_left (p x) (every p l) e) (every_take p n l (and_right (p x) (every p l) e))

pub every_drop : (p : ℕ → Bool) (n : ℕ) (l : List ℕ) → every p l ≡ true → every p (drop n l) ≡ true
unfolding every
every_drop p zero l e = e
every_drop p (suc n) [] e = refl
every_drop p (suc n) (x ∷ l) e = every_drop p n l (and_right (p x) (every p l) e)

pub every_append : (p : ℕ → Bool) (l m : List ℕ) → every p l ≡ true → every p m ≡ true → every p (l ++ m) ≡ true
unfolding every
every_append p [] m e f = f
every_append p (x ∷ l) m e f =
    rw (and_left (p x) (every p l) e) (every_append p l m (and_right (p x) (every p l) e) f)

-- labels that may stand in a cell are bytes
pub labels_bytes : (l : List ℕ) → every visible l ≡ true → (i : ℕ) → get_or l i 0 < 256
unfolding every highest
labels_bytes [] e i = omega arith
labels_bytes (x ∷ l) e zero = let b = visible_most x (and_left (visible x) (every visible l) e) in omega arith
labels_bytes (x ∷ l) e (suc i) = labels_bytes l (and_right (visible x) (every visible l) e) i

-- blanks, and nothing else
pub every_blanks : (n : ℕ) → every (from_to blank blank) (replicate n blank) ≡ true
unfolding every
every_blanks zero = refl
every_blanks (suc n) = rw (from_to_inside blank blank blank (le_refl _) (le_refl _)) (every_blanks n)

pub every_blank : (l : List ℕ) → every (from_to blank blank) l ≡ true → l ≡ replicate (length l) blank
unfolding every from_to
every_blank [] e = refl
every_blank (x ∷ l) e =
    let p = and_left (from_to blank blank x) (every (from_to blank blank) l) e in
    let b = leb-true blank x (and_left (leb blank x) (leb x blank) p) in
    let t = leb-true x blank (and_right (leb blank x) (leb x blank) p) in
    let s : x ≡ blank = omega arith in
    let q = every_blank l (and_right (from_to blank blank x) (every (from_to blank blank) l) e) in
    λ i. s i ∷ q i
