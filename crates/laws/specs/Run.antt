-- Runs.
--   run f stop n d  == the first of d, f d, f (f d), .. that passes the test stop, looked for n steps far
--   count_to f stop t n d == how many of them before that one pass the test t
use Rattle.std.specs.Prelude.{Bool, true, false, ℕ, zero, suc, ◌+◌}
use Rattle.laws.specs.Table.{number}

unfoldable pub run : (ℕ → ℕ) → (ℕ → Bool) → ℕ → ℕ → ℕ
run f stop zero d = d
run f stop (suc n) d = elim (stop d) [ true ↦ d | false ↦ run f stop n (f d) ]

unfoldable pub count_to : (ℕ → ℕ) → (ℕ → Bool) → (ℕ → Bool) → ℕ → ℕ → ℕ
count_to f stop t zero d = 0
count_to f stop t (suc n) d = elim (stop d) [ true ↦ 0 | false ↦ number (t d) + count_to f stop t n (f d) ]
