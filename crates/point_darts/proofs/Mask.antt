-- Masks of lines, computed from the four lines one by one.
--   every f         == the test f passes at true and at false
use mathlib.Core.Path.{◌≡◌, refl}
use mathlib.Core.Bool.{Bool, true, false, ◌&&◌}
use Prim.Native.Nat.{ℕ, zero, suc, ◌+◌, ◌*◌, ◌/◌, ◌%◌, ◌<◌}
use native.Mathlib.Omega.{arith}
use lib.Dec.{eqb}
use borrow.Author.Tests.{eqb-true}
use Rattle.laws.specs.Table.{number}
use Rattle.laws.proofs.Test.{and_left, and_right}
use Rattle.point_darts.specs.Dart.{turned}
use Rattle.point_darts.specs.Point.{bits, half, has, degree, inline}

every : (Bool → Bool) → Bool
every f = f true && f false

every_at : (f : Bool → Bool) → every f ≡ true → (b : Bool) → f b ≡ true
unfolding every
every_at f e true = and_left (f true) (f false) e
every_at f e false = and_right (f true) (f false) e

-- the last bit of a number, as a number
odd : (x : ℕ) → x < 2 → number (eqb x 1) ≡ x
odd zero h = refl
odd (suc zero) h = refl
odd (suc (suc x)) h = absurd (omega arith)

pub degree_sum : (m : ℕ) → m % 2 + m / 2 % 2 + m / 2 / 2 % 2 + m / 2 / 2 / 2 % 2 ≡ degree m
unfolding degree has half
degree_sum m =
    rw (
      odd (m % 2) (omega arith),
      odd (m / 2 % 2) (omega arith),
      odd (m / 2 / 2 % 2) (omega arith),
      odd (m / 2 / 2 / 2 % 2) (omega arith),
    )

-- a test at four lines, each present or not
every_four : (Bool → Bool → Bool → Bool → Bool) → Bool
every_four f = every (λ a. every (λ b. every (λ c. every (λ d. f a b c d))))

every_four_at : (f : Bool → Bool → Bool → Bool → Bool) → every_four f ≡ true → (a b c d : Bool) → f a b c d ≡ true
unfolding every_four
every_four_at f e a b c d =
    every_at (f a b c)
    (every_at (λ c. every (λ d. f a b c d))
    (every_at (λ b. every (λ c. every (λ d. f a b c d))) (every_at (λ a. every (λ b. every (λ c. every (λ d. f a b c d)))) e a) b)
    c)
    d

inline_four : (e s w n : Bool) → 5 * ((number e + number w) / 2) + 10 * ((number s + number n) / 2)
    ≡ number (e && w) + 2 * number (s && n) + 4 * number (w && e) + 8 * number (n && s)
unfolding every every_four
inline_four e s w n =
    eqb-true _ _
    (every_four_at
    (λ e s w n. eqb (5 * ((number e + number w) / 2) + 10 * ((number s + number n) / 2))
    (number (e && w) + 2 * number (s && n) + 4 * number (w && e) + 8 * number (n && s)))
    refl
    e
    s
    w
    n)

pub inline_sum : (m : ℕ) → 5 * ((m % 2 + m / 2 / 2 % 2) / 2) + 10 * ((m / 2 % 2 + m / 2 / 2 / 2 % 2) / 2) ≡ inline m
unfolding inline bits has half turned
inline_sum m =
    let e = odd (m % 2) (omega arith) in
    let s = odd (m / 2 % 2) (omega arith) in
    let w = odd (m / 2 / 2 % 2) (omega arith) in
    let n = odd (m / 2 / 2 / 2 % 2) (omega arith) in
    rw (e, s, w, n) at (inline_four (eqb (m % 2) 1) (eqb (m / 2 % 2) 1) (eqb (m / 2 / 2 % 2) 1) (eqb (m / 2 / 2 / 2 % 2) 1))
