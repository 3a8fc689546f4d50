-- Entries that follow one another.
--   rowed f a n t   == t with f 0, f 1, .., in all n entries, at the places from a on
use Rattle.std.specs.Prelude.{List, ℕ, zero, suc, ◌+◌, set}

unfoldable pub rowed : (ℕ → ℕ) → ℕ → ℕ → List ℕ → List ℕ
rowed f a zero t = t
rowed f a (suc n) t = set (rowed f a n t) (a + n) (f n)
