-- Filling a table row by row.
--   rowed f a n t   == t with f 0, f 1, .., in all n entries, at the places from a on
--   Rowing f a n o t == t is so made of o
--   Filled m g i o t == of the m entries of t those below i are those of g, the others still those of o
use mathlib.Core.Path.{◌≡◌, refl, ◌∙◌}
use mathlib.Core.List.{List}
use Prim.Native.Nat.{ℕ, zero, suc, ◌+◌, ◌≤◌, ◌<◌}
use native.Mathlib.Nat.{add-zero}
use native.Mathlib.Numerals.{add-one}
use native.Mathlib.Omega.{arith}
use lib.ListN.{length, set, length-set}
use Rattle.table_entries.specs.Row.{rowed}
use Rattle.table_entries.proofs.Filled.{Filled, filled_more}

pub record Rowing (f : ℕ → ℕ) (a n : ℕ) (o t : List ℕ) : Type 0 where
  pub done : t ≡ rowed f a n o
  pub long : length t ≡ length o

module _ (f : ℕ → ℕ) (a : ℕ) (o : List ℕ) where
  pub rowing_none : Rowing f a 0 o o
  unfolding rowed
  rowing_none = record { done = refl; long = refl }

  -- an entry more
  pub rowing_more : (n : ℕ) (t : List ℕ) → Rowing f a n o t → (v : ℕ) → v ≡ f n → Rowing f a (n + 1) o (set t (a + n) v)
  unfolding rowed
  rowing_more n t r v e =
      record { done = rw (add-one, e, r.done); long = length-set t (a + n) v ∙ r.long }

  -- all m entries
  pub rowing_all : (m n : ℕ) (t : List ℕ) → Rowing f a n o t → n ≡ m → t ≡ rowed f a m o
  rowing_all m n t r e = rw (← e) r.done

-- A row more, which holds what g has there.
pub filled_row : (m : ℕ) (g f : ℕ → ℕ) (a : ℕ) (o t : List ℕ) → Filled m g a o t → (n : ℕ) → a + n ≤ m
    → ((x : ℕ) → x < n → f x ≡ g (a + x)) → Filled m g (a + n) o (rowed f a n t)
unfolding rowed
filled_row m g f a o t r zero b e = rw add-zero r
filled_row m g f a o t r (suc n) b e =
    let q = filled_row m g f a o t r n (omega arith) (λ x h. e x (omega arith)) in
    let z : a + n + 1 ≡ a + suc n = omega arith in
    rw z at (filled_more m g (a + n) o (rowed f a n t) q (f n) (omega arith) (e n (omega arith)))
