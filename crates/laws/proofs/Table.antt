-- Tables.
--   listed f k n  == f k, f (k + 1), .., in all n entries
--   table n f     == the table of f below n
--   count n f     == how many numbers below n pass the test f
--   some n f      == some number below n passes the test f
use mathlib.Core.Path.{◌≡◌, refl, sym, ap, ◌∙◌}
use mathlib.Core.Bool.{Bool, true, false, ◌||◌, true≢false, false≢true}
use mathlib.Core.List.{List, [], ◌∷◌, map}
use mathlib.Core.Logic.{◌⊎◌, inl, inr, ⊎_elim}
use Prim.Native.Nat.{ℕ, zero, suc, ◌+◌, ◌≤◌, ◌<◌}
use native.Mathlib.Nat.{zero-add, add-zero, suc-add, add-suc, not-suc-le-zero}
use native.Mathlib.Decide.{ℕ_discrete}
use native.Mathlib.Omega.{arith}
use lib.ListN.{length, get_or, get_or-eq_default}
use lib.Seq.{ext_get_or}
use Rattle.laws.proofs.Test.{or_either}
use Rattle.laws.specs.Table.{listed, table, count, some}

-- Lists of entries.
module _ {A : Type 0} (f : ℕ → A) where
  pub length_listed : (k n : ℕ) → length (listed f k n) ≡ n
  unfolding listed
  length_listed k zero = refl
  length_listed k (suc n) = ap suc (length_listed (suc k) n)

  pub get_or_listed : (k n i : ℕ) (z : A) → i < n → get_or (listed f k n) i z ≡ f (k + i)
  unfolding listed
  get_or_listed k zero i z h = absurd (not-suc-le-zero h)
  get_or_listed k (suc n) zero z h = rw add-zero
  get_or_listed k (suc n) (suc i) z h = rw (add-suc, ← suc-add k i) (get_or_listed (suc k) n i z (omega arith))

-- Tables of entries of any type.
module _ {A : Type 0} (n : ℕ) (f : ℕ → A) where
  pub length_table : length (table n f) ≡ n
  unfolding table
  length_table = length_listed f 0 n

  -- an entry of a table
  pub get_or_table : (i : ℕ) (z : A) → i < n → get_or (table n f) i z ≡ f i
  unfolding table
  get_or_table i z h = get_or_listed f 0 n i z h ∙ ap f (zero-add i)

  -- past the end
  pub get_or_table_past : (i : ℕ) (z : A) → n ≤ i → get_or (table n f) i z ≡ z
  get_or_table_past i z h = get_or-eq_default (table n f) z (rw length_table h)

-- Two functions that agree below n have one table.
pub table_agree : {A : Type 0} (n : ℕ) (f g : ℕ → A) → ((i : ℕ) → i < n → f i ≡ g i) → table n f ≡ table n g
unfolding table listed
table_agree zero f g h = refl
table_agree (suc n) f g h =
    ext_get_or (f 0) (table (suc n) f) (table (suc n) g) (length_table (suc n) f ∙ sym (length_table (suc n) g))
    (λ i b.
    let c : i < suc n = rw (length_table (suc n) f) at b in
    get_or_table (suc n) f i (f 0) c ∙ h i c ∙ sym (get_or_table (suc n) g i (f 0) c))

-- A list is the table of its entries.
pub table_entries : {A : Type 0} (n : ℕ) (l : List A) (z : A) → length l ≡ n → table n (λ i. get_or l i z) ≡ l
table_entries n l z e =
    ext_get_or z (table n (λ i. get_or l i z)) l (rw length_table (sym e))
    (λ i b. let c : i < n = rw length_table at b in get_or_table n (λ j. get_or l j z) i z c)

-- An entry of a mapped list, whatever the default beyond its end.
pub get_or_map : {A B : Type 0} (f : A → B) (l : List A) (i : ℕ) (y : B) (z : A) → i < length l
    → get_or (map f l) i y ≡ f (get_or l i z)
get_or_map f [] i y z h = absurd (not-suc-le-zero h)
get_or_map f (x ∷ l) zero y z h = refl
get_or_map f (x ∷ l) (suc i) y z h = get_or_map f l i y z (omega arith)

-- A test that passes at the last number or below.
or_false : (a b : Bool) → a || b ≡ false → (a ≡ false) × (b ≡ false)
or_false true b e = absurd (true≢false e)
or_false false b e = (refl, e)

-- a number below suc n is n or below n
pub below_suc : (n i : ℕ) → i < suc n → (i ≡ n) ⊎ (i < n)
below_suc n i h = go (ℕ_discrete i n)
  where
    go : Dec (i ≡ n) → (i ≡ n) ⊎ (i < n)
    go (yes e) = inl e
    go (no e) = inr (omega arith)

module _ (f : ℕ → Bool) where
  -- some number passes: here it is
  pub some_found : (n : ℕ) → some n f ≡ true → (i : ℕ) × (i < n) × (f i ≡ true)
  unfolding some
  some_found zero e = absurd (false≢true e)
  some_found (suc n) e = go (or_either (f n) (some n f) e) (some_found n)
    where
      go : (f n ≡ true) ⊎ (some n f ≡ true) → (some n f ≡ true → (i : ℕ) × (i < n) × (f i ≡ true))
          → (i : ℕ) × (i < suc n) × (f i ≡ true)
      go (inl p) r = (n, omega arith, p)
      go (inr p) r = let (i, b, q) = r p in (i, omega arith, q)

  -- none passes: each fails
  pub some_none : (n : ℕ) → some n f ≡ false → (i : ℕ) → i < n → f i ≡ false
  unfolding some
  some_none zero e i h = absurd (not-suc-le-zero h)
  some_none (suc n) e i h =
      let d = or_false (f n) (some n f) e in
      ⊎_elim (λ q. rw q d.0) (λ b. some_none n d.1 i b) (below_suc n i h)

  -- each fails: none passes
  pub none_some : (n : ℕ) → ((i : ℕ) → i < n → f i ≡ false) → some n f ≡ false
  unfolding some
  none_some zero h = refl
  none_some (suc n) h = rw (h n (omega arith)) (none_some n (λ i b. h i (omega arith)))

  -- one passes: some passes
  pub found_some : (n i : ℕ) → i < n → f i ≡ true → some n f ≡ true
  found_some n i h p = go (some n f) refl
    where
      go : (b : Bool) → some n f ≡ b → some n f ≡ true
      go true e = e
      go false e = let q = some_none n e i h in cc

-- Tests that agree below n.
module _ (f g : ℕ → Bool) where
  pub count_agree : (n : ℕ) → ((i : ℕ) → i < n → f i ≡ g i) → count n f ≡ count n g
  unfolding count
  count_agree zero h = refl
  count_agree (suc n) h = rw (h n (omega arith), count_agree n (λ i b. h i (omega arith)))

  pub some_agree : (n : ℕ) → ((i : ℕ) → i < n → f i ≡ g i) → some n f ≡ some n g
  unfolding some
  some_agree zero h = refl
  some_agree (suc n) h = rw (h n (omega arith), some_agree n (λ i b. h i (omega arith)))
