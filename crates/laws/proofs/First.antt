-- The first of some tests that is not passed.
--   first_failed ts  == the number of the first test that is not passed, 0 where all are
--   numbered m n ts == every test has a number from m up to n - 1
--   Passed ts       == each test is passed
use mathlib.Core.Path.{◌≡◌, refl, ◌∙◌}
use mathlib.Core.Bool.{Bool, true, false, cond, ◌&&◌}
use mathlib.Core.List.{List, [], ◌∷◌, ◌++◌}
use mathlib.Core.Logic.{◌≢◌}
use Prim.Native.Nat.{ℕ, ◌≤◌, ◌<◌}
use native.Mathlib.Omega.{arith}
use lib.Dec.{eqb, leb, ltb}
use borrow.Author.Tests.{leb-true, ltb-true, ne_eqb}
use Rattle.laws.specs.First.{first_failed, numbered}
use Rattle.laws.proofs.Test.{and_left, and_right}

pub none_left : first_failed [] ≡ 0
unfolding first_failed
none_left = refl

-- One test after the other.
module _ (b : Bool) (k : ℕ) (ts : List (Bool × ℕ)) where
  pub failed_here : b ≡ false → first_failed ((b, k) ∷ ts) ≡ k
  unfolding first_failed
  failed_here e = rw e

  pub failed_later : b ≡ true → first_failed ((b, k) ∷ ts) ≡ first_failed ts
  unfolding first_failed
  failed_later e = rw e

abbrev pub Passed : List (Bool × ℕ) → Type 0
Passed [] = Unit {0}
Passed (t ∷ ts) = (t.0 ≡ true) × Passed ts

-- Tests with numbers from m up to n - 1.
module _ (m n : ℕ) where
  -- the number of one of them, and the rest
  module _ (t : Bool × ℕ) (ts : List (Bool × ℕ)) (e : numbered m n (t ∷ ts) ≡ true) where
    from : m ≤ t.1
    unfolding numbered
    from = leb-true m t.1 (and_left (leb m t.1) (ltb t.1 n) (and_left (leb m t.1 && ltb t.1 n) (numbered m n ts) e))

    below : t.1 < n
    unfolding numbered
    below = ltb-true t.1 n (and_right (leb m t.1) (ltb t.1 n) (and_left (leb m t.1 && ltb t.1 n) (numbered m n ts) e))

    rest : numbered m n ts ≡ true
    unfolding numbered
    rest = and_right (leb m t.1 && ltb t.1 n) (numbered m n ts) e

  -- a number that is found is one of theirs
  pub failed_below : (ts : List (Bool × ℕ)) → 0 < n → numbered m n ts ≡ true → first_failed ts < n
  unfolding first_failed
  failed_below [] z e = z
  failed_below (t ∷ ts) z e = by t.0 (failed_below ts z (rest t ts e)) (below t ts e)
    where
      by : (c : Bool) → first_failed ts < n → t.1 < n → cond c (first_failed ts) t.1 < n
      by true later here = later
      by false later here = here

  pub failed_from : (ts : List (Bool × ℕ)) → numbered m n ts ≡ true → first_failed ts ≢ 0 → m ≤ first_failed ts
  unfolding first_failed
  failed_from [] e z = absurd (z refl)
  failed_from (t ∷ ts) e z = by t.0 (failed_from ts (rest t ts e)) (from t ts e) z
    where
      by : (c : Bool) → (first_failed ts ≢ 0 → m ≤ first_failed ts) → m ≤ t.1 → cond c (first_failed ts) t.1 ≢ 0
          → m ≤ cond c (first_failed ts) t.1
      by true later here z = later z
      by false later here z = here

  module _ (some : 0 < m) where
    -- where none is found, each is passed
    pub all_passed : (ts : List (Bool × ℕ)) → numbered m n ts ≡ true → first_failed ts ≡ 0 → Passed ts
    unfolding first_failed
    all_passed [] e z = tt
    all_passed (t ∷ ts) e z = by t.0 (all_passed ts (rest t ts e)) (from t ts e) z
      where
        by : (c : Bool) → (first_failed ts ≡ 0 → Passed ts) → m ≤ t.1 → cond c (first_failed ts) t.1 ≡ 0 → (c ≡ true) × Passed ts
        by true later here z = (refl, later z)
        by false later here z = absurd (omega (arith, some, here, z))

    -- other tests after them
    pub failed_append : (ts us : List (Bool × ℕ)) → numbered m n ts ≡ true
        → first_failed (ts ++ us) ≡ cond (eqb (first_failed ts) 0) (first_failed us) (first_failed ts)
    unfolding first_failed
    failed_append [] us e = refl
    failed_append (t ∷ ts) us e = by t.0 (failed_append ts us (rest t ts e)) (from t ts e)
      where
        by : (c : Bool) → first_failed (ts ++ us) ≡ cond (eqb (first_failed ts) 0) (first_failed us) (first_failed ts) → m ≤ t.1
            → cond c (first_failed (ts ++ us)) t.1
            ≡ cond (eqb (cond c (first_failed ts) t.1) 0) (first_failed us) (cond c (first_failed ts) t.1)
        by true later here = later
        by false later here = rw (ne_eqb t.1 0 (λ z. omega (arith, some, here, z)))

    module _ (ts us : List (Bool × ℕ)) (e : numbered m n ts ≡ true) where
      pub passed_append : first_failed ts ≡ 0 → first_failed (ts ++ us) ≡ first_failed us
      passed_append z = failed_append ts us e ∙ rw z

      pub stopped_append : first_failed ts ≢ 0 → first_failed (ts ++ us) ≡ first_failed ts
      stopped_append z = failed_append ts us e ∙ rw (ne_eqb (first_failed ts) 0 z)
