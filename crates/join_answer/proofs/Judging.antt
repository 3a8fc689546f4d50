-- What is judged after a check's refusals 1 to 4 and before its 5.
--   judged_or k b n == the number after a check with the number k, where b says that what is judged is right, else n
use mathlib.Core.Path.{◌≡◌, refl, sym, ap, ◌∙◌}
use mathlib.Core.Bool.{Bool, true, false, cond, not, ◌&&◌, true≢false}
use mathlib.Core.List.{List, [], ◌∷◌, ◌++◌}
use mathlib.Core.Logic.{◌≢◌}
use Prim.Native.Nat.{ℕ, ◌%◌, ◌≤◌, ◌<◌}
use native.Mathlib.Decide.{dec_le}
use native.Mathlib.Omega.{arith}
use lib.Dec.{leb}
use borrow.Author.Tests.{eq-eqb, ne_eqb, le-leb, lt-leb, not-true, not-false}
use Rattle.std.specs.Prelude.{Err}
use Rattle.laws.specs.First.{first_failed}
use Rattle.laws.proofs.Test.{and_true}
use Rattle.sheet_size.specs.Size.{within}
use Rattle.paper.specs.Drawing.{Tables, is_drawing}
use Rattle.paper.specs.Refusal.{stated, work_left, size_tests, given_tests}
use Rattle.paper.specs.Order.{whole, list_tests}
use Rattle.answer.specs.declared.Refusal.{Refusal}
use Rattle.answer.specs.Answer.{number_of}
use Rattle.answer.proofs.Outcome.{work_cleared}
use Rattle.join_answer.specs.Judge.{judged, judged_or}

-- A list of n names, for a sheet of width w.
module _ (w n : ℕ) where
  pub whole_odd : n % 2 ≢ 0 → false ≡ whole w n
  unfolding whole
  whole_odd e = rw (ne_eqb (n % 2) 0 e)

  pub whole_narrow : n % 2 ≡ 0 → w ≤ 72 → leb n 10366 ≡ whole w n
  unfolding whole
  whole_narrow e l = rw (eq-eqb (n % 2) 0 e, le-leb w 72 l)

  pub whole_wide : n % 2 ≡ 0 → 72 < w → leb n 15838 ≡ whole w n
  unfolding whole
  whole_wide e l = rw (eq-eqb (n % 2) 0 e, lt-leb w 72 l)

-- A number that is 1 to 4.
module _ (k : ℕ) where
  pub early_none : k < 1 → false ≡ (leb 1 k && leb k 4)
  early_none l = rw (lt-leb 1 k l)

  pub early_low : 1 ≤ k → leb k 4 ≡ (leb 1 k && leb k 4)
  early_low l = rw (le-leb 1 k l)

-- Where e says whether the number m of the check, which is k, is 1 to 4, and b whether the list may be lent.
module _ (k m : ℕ) (e b : Bool) (p : m ≡ k) (q : e ≡ (leb 1 m && leb m 4)) where
  early : e ≡ (leb 1 k && leb k 4)
  early = q ∙ ap (λ n. leb 1 n && leb n 4) p

  pub judged_early : e ≡ true → k ≡ judged k b
  unfolding judged
  judged_early f = rw (sym early ∙ f)

  module _ (f : e ≡ false) (c : Bool) (g : c ≡ b) where
    pub judged_list : not c ≡ true → number_of {T = Unit {0}} (Err Refusal.List) ≡ judged k b
    unfolding judged number_of
    judged_list n = rw (sym early ∙ f, sym g ∙ not-true c n)

    pub judged_on : not c ≡ false → k ≡ judged k b
    unfolding judged
    judged_on n = rw (sym early ∙ f, sym g ∙ not-false c n)

-- The same where b says whether what is judged is right, and else the number is n.
module _ (k m n : ℕ) (e b : Bool) (p : m ≡ k) (q : e ≡ (leb 1 m && leb m 4)) where
  pub judged_or_early : e ≡ true → k ≡ judged_or k b n
  unfolding judged_or
  judged_or_early f = rw (sym (early k m e b p q) ∙ f)

  module _ (f : e ≡ false) where
    pub judged_or_refused : not b ≡ true → n ≡ judged_or k b n
    unfolding judged_or
    judged_or_refused c = rw (sym (early k m e b p q) ∙ f, not-true b c)

    pub judged_or_on : not b ≡ false → k ≡ judged_or k b n
    unfolding judged_or
    judged_or_on c = rw (sym (early k m e b p q) ∙ f, not-false b c)

-- What tells that it is right may be told in another way.
pub judged_told : (r k n : ℕ) (b c : Bool) → r ≡ judged_or k b n → b ≡ c → r ≡ judged_or k c n
judged_told r k n b c p q = p ∙ ap (λ d. judged_or k d n) q

-- Where nothing is refused, the check refused nothing.
pub judged_none : (k n : ℕ) (b : Bool) → n ≢ 0 → judged_or k b n ≡ 0 → k ≡ 0
unfolding judged_or
judged_none k n b z = by (leb 1 k && leb k 4) b
  where
    by : (e b : Bool) → cond e k (cond b k n) ≡ 0 → k ≡ 0
    by true b f = f
    by false true f = f
    by false false f = absurd (z f)

-- The number is that of the first test that is not passed.
tests : (a b c d : Bool) (n : ℕ)
    → judged_or (first_failed ((a, 1) ∷ (b, 4) ∷ (d, 5) ∷ [])) c n ≡ first_failed ((a, 1) ∷ (b, 4) ∷ (c, n) ∷ (d, 5) ∷ [])
unfolding judged_or first_failed
tests false b c d n = refl
tests true false c d n = refl
tests true true false false n = refl
tests true true false true n = refl
tests true true true false n = refl
tests true true true true n = refl

pub judged_or_tests : (w h : ℕ) (t : Tables) (ws : List (List ℕ)) (b : Bool) (n : ℕ)
    → judged_or (first_failed (given_tests w h t ws)) b n
    ≡ first_failed (size_tests w h (stated w h t ws) ++ (b, n) ∷ (is_drawing w h t, 5) ∷ [])
unfolding given_tests size_tests
judged_or_tests w h t ws b n = tests (within w h) (stated w h t ws) b (is_drawing w h t) n

-- What the check leaves of the work tables is what such a refusal leaves.
pub judged_or_work : (k : ℕ) (b : Bool) (n : ℕ) (ws : List (List ℕ)) → 5 ≤ n → work_left k ws ≡ work_left (judged_or k b n) ws
unfolding judged_or
judged_or_work k b n ws r = by (leb 1 k && leb k 4) refl b
  where
    late : (leb 1 k && leb k 4) ≡ false → k ≢ 0 → Dec (k ≤ 4) → 5 ≤ k
    late f z (yes l) = absurd (true≢false (sym (and_true (le-leb 1 k (omega (arith, z))) (le-leb k 4 l)) ∙ f))
    late f z (no l) = omega (arith, l)

    by : (e : Bool) → (leb 1 k && leb k 4) ≡ e → (b : Bool) → work_left k ws ≡ work_left (judged_or k b n) ws
    by true f b = rw f
    by false f true = rw f
    by false f false = rw f (work_cleared k ws (λ z. late f z (dec_le k 4)) ∙ sym (work_cleared n ws (λ z. r)))

-- A list that may not be lent is refused with 12.
pub judged_tests : (w h : ℕ) (t : Tables) (n : ℕ) (ws : List (List ℕ))
    → judged (first_failed (given_tests w h t ws)) (whole w n) ≡ first_failed (list_tests w h t n ws)
unfolding judged judged_or list_tests
judged_tests w h t n ws = judged_or_tests w h t ws (whole w n) 12

pub judged_work : (k : ℕ) (b : Bool) (ws : List (List ℕ)) → work_left k ws ≡ work_left (judged k b) ws
unfolding judged judged_or
judged_work k b ws = judged_or_work k b 12 ws (omega arith)
