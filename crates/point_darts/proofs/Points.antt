-- Masks of lines, and the four cells round a point.
--   bits f, has m k == the mask of a test, and the directions that it has
--   right, left     == the cells on both hands of a direction: left of one is right of the direction before it
--   degree m        == how many lines; with four cells round a point never exactly one is present
use mathlib.Core.Path.{◌≡◌, refl, sym, ap, ◌∙◌}
use mathlib.Core.Bool.{Bool, true, false, not, true≢false}
use mathlib.Core.List.{List}
use Prim.Native.Nat.{ℕ, suc, ◌+◌, ◌*◌, ◌/◌, ◌%◌, ◌<◌, ◌≤◌}
use native.Mathlib.Omega.{arith}
use lib.Dec.{eqb, lit<}
use borrow.Author.Tests.{eq-eqb, eqb-true, not-false}
use Rattle.laws.specs.Table.{number}
use Rattle.laws.proofs.Count.{number_below}
use Rattle.point_darts.specs.Dart.{turned}
use Rattle.point_darts.specs.Point.{bits, half, has, right, left, parts, present, degree}
use Rattle.point_darts.proofs.Darts.{four, turned_below, turned_back, turned_none}

read : (m : ℕ) (b : Bool) → m ≡ number b → eqb m 1 ≡ b
read m true e = rw e
read m false e = rw e

digits : (a b c d : ℕ) → a ≤ 1 → b ≤ 1 → c ≤ 1 → d ≤ 1
    → let m = a + 2 * b + 4 * c + 8 * d in (m % 2 ≡ a) × (m / 2 % 2 ≡ b) × (m / 2 / 2 % 2 ≡ c) × (m / 2 / 2 / 2 % 2 ≡ d)
digits a b c d p q r s = omega arith

module _ (f : ℕ → Bool) where
  pub bits_below : bits f < 16
  unfolding bits
  bits_below = omega (arith, number_below (f 0), number_below (f 1), number_below (f 2), number_below (f 3))

  pub has_bits : (k : ℕ) → k < 4 → has (bits f) k ≡ f k
  unfolding bits has half
  has_bits =
      let n : (k : ℕ) → number (f k) ≤ 1 = λ k. number_below (f k) in
      let t = digits (number (f 0)) (number (f 1)) (number (f 2)) (number (f 3)) (n 0) (n 1) (n 2) (n 3) in
      four (λ k. has (bits f) k ≡ f k)
      (read _ (f 0) t.0) (read _ (f 1) t.1) (read _ (f 2) t.2) (read _ (f 3) t.3)

pub bits_same : (f g : ℕ → Bool) → ((k : ℕ) → k < 4 → f k ≡ g k) → bits f ≡ bits g
unfolding bits
bits_same f g e = rw (e 0 (lit< tt), e 1 (lit< tt), e 2 (lit< tt), e 3 (lit< tt))

pub degree_below : (m : ℕ) → degree m ≤ 4
unfolding degree
degree_below m =
    omega (arith, number_below (has m 0), number_below (has m 1), number_below (has m 2), number_below (has m 3))

-- the left hand of a direction is the right hand of the direction before it
pub left_right : (c : List (List ℕ)) (k : ℕ) → k < 4 → left c k ≡ right c (turned k 3)
unfolding left right turned
left_right c = four (λ k. left c k ≡ right c (turned k 3)) refl refl refl refl

pub parts_false : (c : List (List ℕ)) (k : ℕ) → parts c k ≡ false → right c k ≡ left c k
unfolding parts
parts_false c k e = eqb-true (right c k) (left c k) (not-false _ e)

pub parts_same : (c : List (List ℕ)) (k : ℕ) → right c k ≡ left c k → parts c k ≡ false
unfolding parts
parts_same c k e = ap not (eq-eqb (right c k) (left c k) e)

pub has_present : (c : List (List ℕ)) (k : ℕ) → k < 4 → has (present c) k ≡ parts c k
unfolding present
has_present c = has_bits (parts c)

pub degree_bits : (f : ℕ → Bool) → degree (bits f) ≡ number (f 0) + number (f 1) + number (f 2) + number (f 3)
unfolding degree
degree_bits f = rw (has_bits f 0 (lit< tt), has_bits f 1 (lit< tt), has_bits f 2 (lit< tt), has_bits f 3 (lit< tt))

-- across an absent line the hand stays
pub right_back : (c : List (List ℕ)) (k i : ℕ)
    → parts c (turned k (suc i)) ≡ false → right c (turned k (suc i)) ≡ right c (turned k i)
right_back c k i e =
    let j = turned k (suc i) in
    parts_false c j e ∙ left_right c j (turned_below k (suc i)) ∙ ap (right c) (turned_back k i)

-- a line whose three fellows are absent is absent: all four cells are one
pub parts_last : (c : List (List ℕ)) (k : ℕ) → k < 4
    → parts c (turned k 1) ≡ false → parts c (turned k 2) ≡ false → parts c (turned k 3) ≡ false → parts c k ≡ false
parts_last c k l p q r =
    let e : right c (turned k 3) ≡ right c (turned k 0) = right_back c k 2 r ∙ right_back c k 1 q ∙ right_back c k 0 p in
    parts_same c k (sym (left_right c k l ∙ e ∙ ap (right c) (turned_none k l)))

alone : (a b c d : Bool)
    → (b ≡ false → c ≡ false → d ≡ false → a ≡ false)
    → (c ≡ false → d ≡ false → a ≡ false → b ≡ false)
    → (d ≡ false → a ≡ false → b ≡ false → c ≡ false)
    → (a ≡ false → b ≡ false → c ≡ false → d ≡ false)
    → number a + number b + number c + number d ≡ 1 → ⊥
alone true true c d p q r s e = omega arith
alone true false true d p q r s e = omega arith
alone true false false true p q r s e = omega arith
alone true false false false p q r s e = true≢false (p refl refl refl)
alone false true true d p q r s e = omega arith
alone false true false true p q r s e = omega arith
alone false true false false p q r s e = true≢false (q refl refl refl)
alone false false true true p q r s e = omega arith
alone false false true false p q r s e = true≢false (r refl refl refl)
alone false false false true p q r s e = true≢false (s refl refl refl)
alone false false false false p q r s e = omega arith

-- never exactly one line is present
pub present_alone : (c : List (List ℕ)) → degree (present c) ≡ 1 → ⊥
unfolding present turned
present_alone c e =
    let f = parts_last c in
    alone (parts c 0) (parts c 1) (parts c 2) (parts c 3)
    (f 0 (lit< tt)) (f 1 (lit< tt)) (f 2 (lit< tt)) (f 3 (lit< tt)) (rw degree_bits at e)
