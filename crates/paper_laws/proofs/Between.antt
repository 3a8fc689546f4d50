-- The sides a and b of a line, and names that become one when a and b are lowered to the smaller.
--   between a b x y == x and y are a and b, in either order
--   lower a b v     == the larger of a and b becomes the smaller
use mathlib.Core.Path.{◌≡◌, sym, ◌∙◌, ap₂}
use mathlib.Core.Bool.{false, ◌&&◌, or_comm, or-false, and-false}
use mathlib.Core.Logic.{◌≢◌, inl, inr, ⊎_elim}
use Prim.Native.Nat.{ℕ}
use native.Mathlib.Decide.{ℕ_discrete}
use native.Mathlib.Omega.{arith}
use lib.Dec.{eqb}
use borrow.Author.Tests.{eq-eqb, ne_eqb}
use Rattle.laws.specs.Least.{lower}
use Rattle.laws.proofs.Least.{lower_of, lower_other, lower_either, lower_comm}
use Rattle.paper.specs.Joining.{between}

-- neither is a nor b
between_none : (a b x y : ℕ) → x ≢ a → x ≢ b → between a b x y ≡ false
unfolding between
between_none a b x y p q = rw (ne_eqb x a p, ne_eqb x b q)

lower_apart : (a b x y : ℕ) → x ≢ a → x ≢ b → x ≢ y → lower a b x ≢ lower a b y
lower_apart a b x y p q r e =
    let h : x ≡ lower a b y = sym (lower_other a b x p q) ∙ e in
    ⊎_elim (λ m. omega (arith, h ∙ m)) (λ m. r (h ∙ m)) (lower_either a b y)

-- x is a, and y is b or neither
between_one : (a b x y : ℕ) → a ≢ b → x ≢ y → x ≡ a → Dec (y ≡ b) → between a b x y ≡ eqb (lower a b x) (lower a b y)
unfolding between
between_one a b x y n r e (yes q) =
    rw (eq-eqb x a e, eq-eqb y b q)
    (sym (eq-eqb (lower a b x) (lower a b y) (lower_of a b x (inl e) ∙ sym (lower_of a b y (inr q)))))
between_one a b x y n r e (no q) =
    let s : y ≢ a = λ f. r (e ∙ sym f) in
    let t : x ≢ b = λ f. n (sym e ∙ f) in
    rw (ne_eqb y b q, ne_eqb x b t, or-false, and-false)
    (sym (ne_eqb (lower a b x) (lower a b y) (λ f. lower_apart a b y x s q (λ g. r (sym g)) (sym f))))

between_swap : (a b x y : ℕ) → between a b x y ≡ between b a x y
unfolding between
between_swap a b x y = or_comm (eqb x a && eqb y b) (eqb x b && eqb y a)

-- a line with two sides has the sides a and b exactly when these become one
pub between_lower : (a b x y : ℕ) → a ≢ b → x ≢ y → between a b x y ≡ eqb (lower a b x) (lower a b y)
between_lower a b x y n r = go (ℕ_discrete x a) (ℕ_discrete x b)
  where
    go : Dec (x ≡ a) → Dec (x ≡ b) → between a b x y ≡ eqb (lower a b x) (lower a b y)
    go (yes e) q = between_one a b x y n r e (ℕ_discrete y b)
    go (no e) (yes q) =
        between_swap a b x y ∙ between_one b a x y (λ f. n (sym f)) r q (ℕ_discrete y a)
        ∙ ap₂ eqb (lower_comm b a x) (lower_comm b a y)
    go (no e) (no q) =
        between_none a b x y e q ∙ sym (ne_eqb (lower a b x) (lower a b y) (lower_apart a b x y e q r))
