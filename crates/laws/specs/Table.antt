-- Tables.
--   listed f i n  == f i, f (i + 1), .., in all n entries
--   table n f     == the table of f below n
--   number b      == 1 for true, 0 for false
--   count n f     == how many numbers below n pass the test f
--   some n f      == some number below n passes the test f
use Rattle.std.specs.Prelude.{Bool, false, cond, ◌||◌, List, [], ◌∷◌, ℕ, zero, suc, ◌+◌}

unfoldable pub listed : {A : Type 0} → (ℕ → A) → ℕ → ℕ → List A
listed f i zero = []
listed f i (suc n) = f i ∷ listed f (suc i) n

unfoldable pub table : {A : Type 0} → ℕ → (ℕ → A) → List A
unfolding listed
table n f = listed f 0 n

abbrev pub number : Bool → ℕ
number b = cond b 1 0

unfoldable pub count : ℕ → (ℕ → Bool) → ℕ
count zero f = 0
count (suc n) f = number (f n) + count n f

unfoldable pub some : ℕ → (ℕ → Bool) → Bool
some zero f = false
some (suc n) f = f n || some n f
