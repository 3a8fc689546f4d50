-- The first of some tests that is not passed.
--   first_failed ts  == the number of the first test that is not passed, 0 where all are
--   numbered m n ts == every test has a number from m up to n - 1
use Rattle.std.specs.Prelude.{Bool, true, cond, ◌&&◌, List, [], ◌∷◌, ℕ, leb, ltb}

unfoldable pub first_failed : List (Bool × ℕ) → ℕ
first_failed [] = 0
first_failed (t ∷ ts) = cond t.0 (first_failed ts) t.1

unfoldable pub numbered : ℕ → ℕ → List (Bool × ℕ) → Bool
numbered m n [] = true
numbered m n (t ∷ ts) = leb m t.1 && ltb t.1 n && numbered m n ts
