-- Step 4: a loop's point that has only two lines left.
--   moved l u v e f == the links with darts e and f for darts u and v, a loop
--   close o t l p   == the links with the loop at point p moved to its top, where p has only two lines left
--   Rising t        == no point's top is after the point
use mathlib.Core.Path.{◌≡◌, refl, sym, ◌∙◌, ap}
use mathlib.Core.Bool.{Bool, true, false}
use mathlib.Core.List.{List}
use Prim.Native.Nat.{ℕ, zero, suc, ◌<◌}
use native.Mathlib.Omega.{arith}
use lib.Dec.{eqb}
use lib.ListN.{set, get_or}
use borrow.Author.Tests.{eq-eqb, ne_eqb}
use Rattle.point_darts.specs.Dart.{mark, dart}
use Rattle.point_darts.specs.Point.{degree}
use Rattle.paper.specs.Level.{mask}
use Rattle.paper.specs.Joining.{Links, at, on, low, high, moved, close, closes}
use Rattle.join_darts.specs.Links.{links}
use Rattle.region_parents.specs.Tops.{Rising}

-- the two stores into each table
pub move_loop : (n o n₁ n₂ o₁ o₂ : List ℕ) (u v e f : ℕ) → n₁ ≡ set (set n u mark) v mark → n₂ ≡ set (set n₁ e e) f f
    → o₁ ≡ set (set o u mark) v mark → o₂ ≡ set (set o₁ e f) f e → links n₂ o₂ ≡ moved (links n o) u v e f
unfolding moved
move_loop n o n₁ n₂ o₁ o₂ u v e f a b c d = rw (b, d, a, c)

-- no top is after its point
pub top_fit : (t : List ℕ) (p n : ℕ) → Rising t → dart p 3 < n → dart (get_or t p 0) 3 < n
unfolding dart
top_fit t p n r h = let u = r.up p in omega arith

-- a point with the level 3 lines m is treated by whether they are two, and one edge, and which lines n are left
module _ (o : ℕ → Bool) (t : List ℕ) (l : Links) (p m : ℕ) (q : m ≡ mask (on l.next) p) (c : Bool)
    (s : c ≡ eqb (degree m) 2) where
  abbrev lines : ℕ
  lines = mask (on l.next) p

  counted : c ≡ eqb (degree lines) 2
  counted = s ∙ ap (λ i. eqb (degree i) 2) q

  pub close_other : c ≡ false → l ≡ close o t l p
  unfolding close
  close_other n = rw (sym counted ∙ n, close)

  module _ (two : c ≡ true) (u v x : ℕ) (first : u ≡ dart p (low m)) (last : v ≡ dart p (high m)) (e : x ≡ at l.other u) where
    here : eqb (degree lines) 2 ≡ true
    here = sym counted ∙ two

    low_line : u ≡ dart p (low lines)
    low_line = first ∙ ap (λ i. dart p (low i)) q

    high_line : v ≡ dart p (high lines)
    high_line = last ∙ ap (λ i. dart p (high i)) q

    across : at l.other (dart p (low lines)) ≡ x
    across = ap (at l.other) (sym low_line) ∙ sym e

    abbrev ends : Bool
    ends = eqb (at l.other (dart p (low lines))) (dart p (high lines))

    pub close_edges : (x ≡ v → ⊥) → l ≡ close o t l p
    unfolding close
    close_edges n =
        let f : ends ≡ false = ne_eqb _ _ (λ r. n (sym across ∙ r ∙ sym high_line)) in
        rw (here, f, close)

    module _ (loop : x ≡ v) (n : ℕ) (g : n ≡ mask o p) (b : Bool) (r : b ≡ eqb (degree n) 2) where
      round : ends ≡ true
      round = eq-eqb _ _ (across ∙ loop ∙ high_line)

      remain : b ≡ eqb (degree (mask o p)) 2
      remain = r ∙ ap (λ i. eqb (degree i) 2) g

      pub close_big : b ≡ false → l ≡ close o t l p
      unfolding close
      close_big h = rw (here, round, sym remain ∙ h, close)

      pub close_loop : b ≡ true → (i : ℕ) → i ≡ mask o (get_or t p 0) → (e f : ℕ) → e ≡ dart (get_or t p 0) (low i)
          → f ≡ dart (get_or t p 0) (high i) → moved l u v e f ≡ close o t l p
      unfolding close
      close_loop h i j e f a d = rw (here, round, sym remain ∙ h, low_line, high_line, a, d, j, close)

module _ (o : ℕ → Bool) (t : List ℕ) where
  pub closes_none : (p : ℕ) (l : Links) → closes o t zero p l ≡ l
  unfolding closes
  closes_none p l = refl

  pub closes_more : (n p : ℕ) (l : Links) → closes o t (suc n) p l ≡ closes o t n (suc p) (close o t l p)
  unfolding closes
  closes_more n p l = refl
