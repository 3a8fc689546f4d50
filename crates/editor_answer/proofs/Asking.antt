-- What joining as an editor answers to two names, after what was answered before.
--   theirs o p e r  == a present region of the editor e has the name r, by the owners o and the parents p
--   named k o p e a b == the number of the first test of the names a and b that is not passed, where k, the number before, is 0
--   asked k ..      == the number after a check with the number k
use mathlib.Core.Path.{◌≡◌, refl, sym, ◌∙◌}
use mathlib.Core.Bool.{Bool, true, false, cond, not, ◌&&◌, ◌||◌}
use mathlib.Core.List.{List, [], ◌∷◌, ◌++◌}
use mathlib.Core.Logic.{◌≢◌}
use Prim.Native.Nat.{ℕ}
use native.Mathlib.Omega.{arith}
use lib.Dec.{eqb, lit<}
use borrow.Author.Tests.{eqb-true, eq-eqb, ne_eqb}
use Rattle.std.specs.Prelude.{Result}
use Rattle.laws.specs.First.{first_failed, numbered}
use Rattle.laws.proofs.First.{all_passed, failed_append}
use Rattle.laws.proofs.Test.{and_left, and_right}
use Rattle.point_darts.specs.Dart.{mark}
use Rattle.paper.specs.Joining.{at, on}
use Rattle.paper.specs.Refusal.{used, adjoin, name_tests, pair_tests}
use Rattle.paper.specs.Editor.{both_tests, is_editor, owned, theirs, own_tests}
use Rattle.answer.specs.declared.Refusal.{Refusal}
use Rattle.answer.specs.Answer.{number_of}
use Rattle.join_answer.specs.Asked as join
use Rattle.join_answer.specs.Judge.{judged_or}
use Rattle.join_answer.proofs.Judging.{judged_none}
use Rattle.editor_answer.specs.Asked.{named, asked}

module _ (o p : List ℕ) (e r x : ℕ) (f : x ≡ at o r) where
  pub theirs_other : x ≢ e → false ≡ theirs o p e r
  unfolding theirs
  theirs_other n = rw (ne_eqb (at o r) e (λ q. n (f ∙ q)))

  pub theirs_present : x ≡ e → (y : ℕ) → y ≡ at p r → not (eqb y mark) ≡ theirs o p e r
  unfolding theirs used on
  theirs_present q y g = rw (eq-eqb (at o r) e (sym f ∙ q), g)

-- The tests of two names one after another: 6, 7, 10.
pub named_failed : (k : ℕ) (o p : List ℕ) (e a b : ℕ) → named k o p e a b
    ≡ cond (eqb k 0) (cond (not (eqb a 0 || eqb b 0)) (cond (not (eqb a b)) (cond (theirs o p e a && theirs o p e b) 0 10) 7) 6) k
unfolding named first_failed
named_failed k o p e a b = refl

pub named_refused : (k : ℕ) (o p : List ℕ) (e a b : ℕ) → k ≢ 0 → k ≡ named k o p e a b
unfolding named
named_refused k o p e a b n = rw (ne_eqb k 0 n)

-- After a check with the number k: j is the number once the editor is judged, that of v the number once the names are.
module _ (o p : List ℕ) (k e a b j : ℕ) (q : j ≡ judged_or k (is_editor e && owned o) 11)
    (v : Result (Unit {0}) Refusal) (f : number_of v ≡ named j o p e a b) where
  abbrev tests : List (Bool × ℕ)
  tests = both_tests (theirs o p e) 10 a b

  tests_numbered : numbered 6 11 tests ≡ true
  unfolding numbered
  tests_numbered = refl

  pub asked_open : number_of v ≡ 0 → k ≡ 0
  unfolding named
  asked_open z = judged_none k 11 (is_editor e && owned o) (λ y. omega (arith, y)) (sym q ∙ by (eqb j 0) refl (sym f ∙ z))
    where
      by : (c : Bool) → eqb j 0 ≡ c → cond c (first_failed tests) j ≡ 0 → j ≡ 0
      by true i g = eqb-true j 0 i
      by false i g = g

  module _ (w h : ℕ) (s : List ℕ) where
    -- two regions of the editor's pass the tests of any join
    both_used : first_failed tests ≡ 0 → first_failed (pair_tests w h s p a b) ≡ first_failed ((adjoin w h s a b, 9) ∷ [])
    unfolding first_failed name_tests theirs
    both_used z =
        let t = all_passed 6 11 (lit< tt) tests tests_numbered z in
        let x = theirs o p e a in
        let y = theirs o p e b in
        let i = and_left x y t.1.1.0 in
        let l = and_right x y t.1.1.0 in
        rw (t.0, t.1.0, and_right (eqb (at o a) e) (used p a) i, and_right (eqb (at o b) e) (used p b) l)

    pub asked_told : (r : ℕ) → r ≡ join.asked v w h s p a b → r ≡ asked k w h o s p e a b
    unfolding join.asked named asked own_tests
    asked_told r g = g ∙ rw (← q) (by (eqb j 0) refl f)
      where
        last : List (Bool × ℕ)
        last = (adjoin w h s a b, 9) ∷ []

        -- the names decide
        on : (c : Bool) → eqb (first_failed tests) 0 ≡ c
            → cond c (first_failed (pair_tests w h s p a b)) (first_failed tests) ≡ cond c (first_failed last) (first_failed tests)
        on true l = both_used (eqb-true (first_failed tests) 0 l)
        on false l = refl

        by : (c : Bool) → eqb j 0 ≡ c → number_of v ≡ cond c (first_failed tests) j
            → cond (eqb (number_of v) 0) (first_failed (pair_tests w h s p a b)) (number_of v) ≡ cond c (first_failed (tests ++ last)) j
        by true i l =
            rw l (on (eqb (first_failed tests) 0) refl) ∙ sym (failed_append 6 11 (lit< tt) tests last tests_numbered)
        by false i l = rw (l, i)
