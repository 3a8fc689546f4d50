-- Filling a table from its start.
--   Filled n f i o t == of the n entries of t those below i are those of f, the others still those of o
use mathlib.Core.Path.{◌≡◌, refl, sym, ◌∙◌}
use mathlib.Core.List.{List}
use Prim.Native.Nat.{ℕ, ◌+◌, ◌≤◌, ◌<◌}
use native.Mathlib.Nat.{not-suc-le-zero}
use native.Mathlib.Decide.{ℕ_discrete, dec_le}
use native.Mathlib.Omega.{arith}
use lib.ListN.{length, get_or, set, length-set}
use lib.Seq.{ext_get_or, get_or-set_same, get_or-set_other}
use Rattle.laws.specs.Table.{table}
use Rattle.laws.proofs.Table.{length_table, get_or_table}

pub record Filled (n : ℕ) (f : ℕ → ℕ) (i : ℕ) (o t : List ℕ) : Type 0 where
  pub done : (k : ℕ) → k < i → get_or t k 0 ≡ f k
  pub rest : (k : ℕ) → i ≤ k → get_or t k 0 ≡ get_or o k 0
  pub long : length t ≡ n

module _ (n : ℕ) (f : ℕ → ℕ) where
  pub filled_none : (t : List ℕ) → length t ≡ n → Filled n f 0 t t
  filled_none t e = record { done = λ k h. absurd (not-suc-le-zero h); rest = λ k h. refl; long = e }

  module _ (i : ℕ) (o t : List ℕ) (r : Filled n f i o t) where
    set_done : (v : ℕ) → i < n → v ≡ f i → (k : ℕ) → k < i + 1 → get_or (set t i v) k 0 ≡ f k
    set_done v b e k h = go (ℕ_discrete k i)
      where
        go : Dec (k ≡ i) → get_or (set t i v) k 0 ≡ f k
        go (yes q) = rw (q, get_or-set_same t i v 0 (omega (arith, r.long))) e
        go (no q) = get_or-set_other t i k v 0 q ∙ r.done k (omega arith)

    -- an entry more
    pub filled_more : (v : ℕ) → i < n → v ≡ f i → Filled n f (i + 1) o (set t i v)
    filled_more v b e =
        record {
          done = set_done v b e;
          rest = λ k h. get_or-set_other t i k v 0 (omega arith) ∙ r.rest k (omega arith);
          long = length-set t i v ∙ r.long;
        }

    -- up to j, where the entries were those of f before
    pub filled_on : (j : ℕ) → i ≤ j → ((k : ℕ) → i ≤ k → k < j → get_or o k 0 ≡ f k) → Filled n f j o t
    filled_on j b e =
        record { done = λ k h. go k h (dec_le i k); rest = λ k h. r.rest k (omega arith); long = r.long }
      where
        go : (k : ℕ) → k < j → Dec (i ≤ k) → get_or t k 0 ≡ f k
        go k h (yes l) = r.rest k l ∙ e k l h
        go k h (no l) = r.done k (omega arith)

    -- all entries
    pub filled_all : n ≤ i → t ≡ table n f
    filled_all h =
        ext_get_or 0 t (table n f) (r.long ∙ sym (length_table n f))
        (λ k b. r.done k (omega (arith, r.long)) ∙ sym (get_or_table n f k 0 (omega (arith, r.long))))
