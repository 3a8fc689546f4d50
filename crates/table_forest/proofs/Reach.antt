-- The labels reached when every node below i is tied with its two back neighbours, by the rules b and c.
--   reached n b c i    == the labels of n nodes, of which those below i are tied
--   Reached n b c i t  == t is a forest of these labels, with room for n nodes
use mathlib.Core.Path.{◌≡◌, sym, ◌∙◌, subst}
use mathlib.Core.List.{List}
use Prim.Native.Nat.{ℕ, suc, ◌+◌, ◌≤◌, ◌<◌, zero-le}
use native.Mathlib.Nat.{le_refl, not-suc-le-zero}
use native.Mathlib.Numerals.{add-one}
use native.Mathlib.Decide.{dec_lt}
use native.Mathlib.Omega.{arith}
use lib.ListN.{length, get_or}
use Rattle.laws.specs.Table.{table}
use Rattle.laws.specs.Least.{tie, ties, least}
use Rattle.laws.proofs.Table.{length_table, get_or_table, get_or_table_past}
use Rattle.table_forest.specs.Forest.{Forest, Grown}

abbrev pub reached : ℕ → (ℕ → ℕ) → (ℕ → ℕ) → ℕ → List ℕ
reached n b c i = ties b c i (table n (λ k. k))

-- the two neighbours by other names
pub tied_by : (m : ℕ) (l t : List ℕ) (i x y u v : ℕ) → x ≡ u → y ≡ v → Forest m (tie i y (tie i x l)) t
    → Forest m (tie i v (tie i u l)) t
tied_by m l t i x y u v p q f = rw (p, q) at f

-- at first each node is its own label
own_low : (n k : ℕ) → get_or (table n (λ j. j)) k 0 ≤ k
own_low n k = go (dec_lt k n)
  where
    go : Dec (k < n) → get_or (table n (λ j. j)) k 0 ≤ k
    go (yes h) = rw (get_or_table n (λ j. j) k 0 h) (le_refl k)
    go (no h) = rw (get_or_table_past n (λ j. j) k 0 (omega arith)) zero-le

pub record Reached (n : ℕ) (b c : ℕ → ℕ) (i : ℕ) (t : List ℕ) : Type 0 where
  pub forest : Forest i (reached n b c i) t
  pub long : length t ≡ n

module _ (n : ℕ) (b c : ℕ → ℕ) where
  pub reached_none : (t : List ℕ) → length t ≡ n → Reached n b c 0 t
  unfolding ties
  reached_none t e =
      record {
        forest = record {
          sized = length_table n (λ k. k) ∙ sym e;
          room = zero-le;
          labels = record { low = own_low n; new = λ k d h. get_or_table n (λ j. j) k 0 (rw length_table at h) };
          leads = λ k h. absurd (not-suc-le-zero h);
        };
        long = e;
      }

  module _ (i : ℕ) (t : List ℕ) (f : Reached n b c i t) where
    abbrev pub growing : Grown i t
    growing = record { labels = reached n b c i; forest = f.forest }

    -- one node more
    pub reached_more : (u : List ℕ) → length u ≡ length t
        → Forest (suc i) (tie i (c i) (tie i (b i) (reached n b c i))) u → Reached n b c (i + 1) u
    unfolding ties
    reached_more u e d = record { forest = rw add-one d; long = e ∙ f.long }

    -- with all nodes the labels are the least nodes reachable
    ended : n ≤ i → i ≡ n
    ended h = omega (arith, f.forest.room, f.long)

    pub reached_grown : n ≤ i → Grown (length t) t
    reached_grown h =
        record {
          labels = reached n b c i;
          forest = subst (λ m. Forest m (reached n b c i) t) (ended h ∙ sym f.long) f.forest;
        }

    pub reached_least : (u : List ℕ) → n ≤ i → ((g : Grown (length t) t) → u ≡ g.labels) → u ≡ least n b c
    unfolding least reached_grown
    reached_least u h d = d (reached_grown h) ∙ rw (ended h)
