-- Two tables compared place by place.
--   agreed i t u    == below place i the tables t and u have the same entries
use mathlib.Core.Path.{◌≡◌, refl, sym, ap, ◌∙◌}
use mathlib.Core.Bool.{Bool, true, false, ◌&&◌, false≢true}
use mathlib.Core.List.{List}
use mathlib.Core.Logic.{◌≢◌}
use Prim.Native.Nat.{ℕ, zero, suc, ◌+◌, ◌≤◌, ◌<◌}
use native.Mathlib.Nat.{not-suc-le-zero}
use native.Mathlib.Numerals.{add-one}
use native.Mathlib.Omega.{arith}
use native.Mathlib.Decide.{ℕ_discrete}
use lib.Dec.{eqb}
use lib.ListN.{length, get_or}
use lib.Seq.{ext_get_or}
use borrow.Author.Tests.{eq-eqb, eqb-true}
use Rattle.laws.specs.Equal.{equal}
use Rattle.laws.proofs.Equal.{equal_iff}
use Rattle.laws.proofs.Test.{and_true, and_left, and_right, same_test}

unfoldable pub agreed : ℕ → List ℕ → List ℕ → Bool
agreed zero t u = true
agreed (suc i) t u = agreed i t u && eqb (get_or t i 0) (get_or u i 0)

module _ (t u : List ℕ) where
  -- a place more
  pub agreed_more : (b : Bool) (i : ℕ) → b ≡ agreed i t u → (b && eqb (get_or t i 0) (get_or u i 0)) ≡ agreed (i + 1) t u
  unfolding agreed
  agreed_more b i e = rw (add-one i, e)

  agreed_entry : (i k : ℕ) → agreed i t u ≡ true → k < i → get_or t k 0 ≡ get_or u k 0
  unfolding agreed
  agreed_entry zero k e b = absurd (not-suc-le-zero b)
  agreed_entry (suc i) k e b = go (ℕ_discrete k i) (agreed_entry i k (and_left (agreed i t u) _ e))
    where
      go : Dec (k ≡ i) → (k < i → get_or t k 0 ≡ get_or u k 0) → get_or t k 0 ≡ get_or u k 0
      go (yes p) f = rw p (eqb-true _ _ (and_right (agreed i t u) _ e))
      go (no p) f = f (omega arith)

  agreed_own : (i : ℕ) → t ≡ u → agreed i t u ≡ true
  unfolding agreed
  agreed_own zero e = refl
  agreed_own (suc i) e = and_true (agreed_own i e) (eq-eqb _ _ (ap (λ l. get_or l i 0) e))

  pub same_short : length u ≢ length t → false ≡ equal t u
  same_short n =
      same_test false (equal t u) (λ e. absurd (false≢true e)) (λ e. absurd (n (ap length (sym ((equal_iff t u).0 e)))))

  -- all places
  pub same_all : (b : Bool) (i : ℕ) → b ≡ agreed i t u → length u ≡ length t → length t ≤ i → b ≡ equal t u
  same_all b i e l d =
      e
      ∙ same_test (agreed i t u) (equal t u)
      (λ f. (equal_iff t u).1 (ext_get_or 0 t u (sym l) (λ k g. agreed_entry i k f (omega arith))))
      (λ f. agreed_own i ((equal_iff t u).0 f))

-- two pairs of tables, each compared
module _ (a b s : Bool) (e : s ≡ a) where
  pub both_yes : s ≡ true → (r : Bool) → r ≡ b → r ≡ (a && b)
  both_yes y r f = rw (← e, y) f

  pub both_no : s ≡ false → false ≡ (a && b)
  both_no n = rw (← e, n)
