-- Worked cases: what a definition computes beside what is stated. The two are compared by a test, so that each is computed once.
--   Case            == what is computed, and what is stated
--   failed same i cs == the places of the cases cs that the test same tells apart, counted from i
use mathlib.Core.Path.{◌≡◌, refl, ap₂}
use mathlib.Core.Bool.{Bool, true, false}
use mathlib.Core.List.{List, [], ◌∷◌, map}
use Prim.Native.Nat.{ℕ, suc}
use native.Mathlib.Omega.{arith}

pub record Case (A : Type 0) : Type 0 where
  pub computed : A
  pub stated : A

unfoldable pub failed : {A : Type 0} → (A → A → Bool) → ℕ → List (Case A) → List ℕ
failed same i [] = []
failed same i (c ∷ cs) =
    elim (same c.computed c.stated) [ true ↦ failed same (suc i) cs | false ↦ i ∷ failed same (suc i) cs ]

-- Where the test tells equal things alone, and no case fails, each case computes what it states.
module _ {A : Type 0} (same : A → A → Bool) (right : (x y : A) → same x y ≡ true → x ≡ y) where
  pub none_failed : (i : ℕ) (cs : List (Case A)) → failed same i cs ≡ []
      → map (λ (c : Case A). c.computed) cs ≡ map (λ (c : Case A). c.stated) cs
  unfolding failed
  none_failed i [] e = refl
  none_failed i (c ∷ cs) e = by (same c.computed c.stated) refl e (none_failed (suc i) cs)
    where
      by : (t : Bool) → same c.computed c.stated ≡ t
          → ◌≡◌ {A = List ℕ} (elim t [ true ↦ failed same (suc i) cs | false ↦ i ∷ failed same (suc i) cs ]) []
          → (failed same (suc i) cs ≡ [] → map (λ (c : Case A). c.computed) cs ≡ map (λ (c : Case A). c.stated) cs)
          → map (λ (c : Case A). c.computed) (c ∷ cs) ≡ map (λ (c : Case A). c.stated) (c ∷ cs)
      by true p q rest = ap₂ ◌∷◌ (right c.computed c.stated p) (rest q)
      by false p q rest = absurd (let z : ◌≡◌ {A = ℕ} 0 1 = cc in omega arith)
