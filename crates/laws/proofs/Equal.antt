-- The test of two lists is passed where they are equal, and nowhere else.
use mathlib.Core.Path.{◌≡◌, refl, ap₂}
use mathlib.Core.Bool.{true, false≢true}
use mathlib.Core.List.{List, [], ◌∷◌}
use mathlib.Core.Logic.{◌↔◌}
use Prim.Native.Nat.{ℕ}
use lib.Dec.{eqb}
use borrow.Author.Tests.{eq-eqb, eqb-true}
use Rattle.laws.specs.Equal.{equal}
use Rattle.laws.proofs.Test.{and_true, and_left, and_right}

pub equal_true : (xs ys : List ℕ) → equal xs ys ≡ true → xs ≡ ys
unfolding equal
equal_true [] [] e = refl
equal_true [] (y ∷ ys) e = absurd (false≢true e)
equal_true (x ∷ xs) [] e = absurd (false≢true e)
equal_true (x ∷ xs) (y ∷ ys) e =
    ap₂ ◌∷◌ (eqb-true x y (and_left (eqb x y) (equal xs ys) e)) (equal_true xs ys (and_right (eqb x y) (equal xs ys) e))

pub equal_own : (xs : List ℕ) → equal xs xs ≡ true
unfolding equal
equal_own [] = refl
equal_own (x ∷ xs) = and_true (eq-eqb x x refl) (equal_own xs)

pub equal_iff : (xs ys : List ℕ) → (equal xs ys ≡ true) ↔ (xs ≡ ys)
equal_iff xs ys = (equal_true xs ys, λ e. rw (← e) (equal_own xs))
