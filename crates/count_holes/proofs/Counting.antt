-- The counts of all names from a table of values: the mark where a name is neither the outside nor in use.
--   trimmed p t     == the table t, with the mark where the parents p have it
--   counts f p      == the table of f at the outside and at the names in use
use mathlib.Core.Path.{◌≡◌, sym, ap, ◌∙◌}
use mathlib.Core.Bool.{cond}
use mathlib.Core.List.{List}
use mathlib.Core.Logic.{◌≢◌, ⊎_elim}
use Prim.Native.Nat.{ℕ, ◌<◌}
use native.Mathlib.Omega.{arith}
use lib.ListN.{length, get_or, set, length-set}
use lib.Seq.{ext_get_or}
use borrow.Author.Tests.{ne_eqb}
use Rattle.laws.specs.Table.{table}
use Rattle.laws.proofs.Table.{length_table, get_or_table}
use Rattle.point_darts.specs.Dart.{mark}
use Rattle.paper.specs.Joining.{at, on}
use Rattle.table_entries.specs.Trim.{trimmed}
use Rattle.table_entries.proofs.Entries.{at_entry, set_cases}
use Rattle.region_depths.specs.Tree.{known}
use Rattle.region_depths.specs.Census.{counted_at, counts}

module _ (f : ℕ → ℕ) (p o : List ℕ) (e : o ≡ table (length p) f) where
  value : (k : ℕ) → k < length p → get_or o k 0 ≡ f k
  value k b = rw e (get_or_table (length p) f k 0 b)

  long : length o ≡ length p
  long = rw e (length_table (length p) f)

  outside_is : 0 < length p → get_or o 0 0 ≡ counted_at (λ _. f) p 0
  unfolding counted_at known
  outside_is b = value 0 b

  trimmed_is : (k : ℕ) → k < length p → k ≢ 0 → get_or (trimmed p o) k 0 ≡ counted_at (λ _. f) p k
  unfolding trimmed counted_at known
  trimmed_is k b n =
      get_or_table (length o) (λ d. cond (on p d) (at o d) mark) k 0 (omega (arith, long))
      ∙ rw (ne_eqb k 0 n, at_entry o k (omega (arith, long)), value k b)

  long_trimmed : length (trimmed p o) ≡ length p
  unfolding trimmed
  long_trimmed = length_table (length o) (λ d. cond (on p d) (at o d) mark) ∙ long

  -- the outside's value stays
  pub trimmed_counts : 0 < length p → (u : List ℕ) → u ≡ trimmed p o → set u 0 (get_or o 0 0) ≡ counts (λ _. f) p
  unfolding counts
  trimmed_counts b u q =
      rw q
      (ext_get_or 0 (set (trimmed p o) 0 (get_or o 0 0)) (table (length p) (counted_at (λ _. f) p))
      (length-set (trimmed p o) 0 (get_or o 0 0) ∙ long_trimmed ∙ sym (length_table (length p) (counted_at (λ _. f) p)))
      (λ k d.
      let i : k < length p = omega (arith, length-set (trimmed p o) 0 (get_or o 0 0), long_trimmed) in
      here k i ∙ sym (get_or_table (length p) (counted_at (λ _. f) p) k 0 i)))
    where
      here : (k : ℕ) → k < length p → get_or (set (trimmed p o) 0 (get_or o 0 0)) k 0 ≡ counted_at (λ _. f) p k
      here k i =
          ⊎_elim (λ j. j.1 ∙ outside_is b ∙ ap (counted_at (λ _. f) p) (sym j.0))
          (λ j. j.1 ∙ trimmed_is k i j.0)
          (set_cases (trimmed p o) 0 (get_or o 0 0) k (omega (arith, long_trimmed)))
