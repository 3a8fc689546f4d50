-- What joining answers to two names after a check of the drawing.
--   asked v w h s p a b == the number after a check that answered v, of the names a and b by the sides s and the parents p
use mathlib.Core.Path.{◌≡◌, refl, sym, ◌∙◌}
use mathlib.Core.Bool.{Bool, true, false, cond, not, ◌&&◌, ◌||◌}
use mathlib.Core.List.{List, [], ◌∷◌}
use mathlib.Core.Logic.{◌≢◌}
use Prim.Native.Nat.{ℕ}
use lib.Dec.{lit<, eqb}
use borrow.Author.Tests.{eq-eqb, ne_eqb}
use Rattle.std.specs.Prelude.{Result}
use Rattle.laws.specs.First.{first_failed, numbered}
use Rattle.laws.proofs.First.{none_left, failed_here, failed_later, passed_append, stopped_append}
use Rattle.point_darts.specs.Dart.{mark}
use Rattle.paper.specs.Joining.{at, on}
use Rattle.paper.specs.Refusal.{used, adjoin, name_tests}
use Rattle.answer.specs.declared.Refusal.{Refusal}
use Rattle.answer.specs.Answer.{number_of}
use Rattle.join_answer.specs.Asked.{asked}

pub names_numbered : (p : List ℕ) (a b : ℕ) → numbered 6 9 (name_tests p a b) ≡ true
unfolding numbered name_tests
names_numbered p a b = refl

-- the first test of the names that is not passed, test by test
pub names_failed : (p : List ℕ) (a b : ℕ) → first_failed (name_tests p a b)
    ≡ cond (not (eqb a 0 || eqb b 0)) (cond (not (eqb a b)) (cond (not (eqb (at p a) mark) && not (eqb (at p b) mark)) 0 8) 7) 6
unfolding first_failed name_tests used on
names_failed p a b = refl

module _ (v : Result (Unit {0}) Refusal) (w h : ℕ) (s p : List ℕ) (a b : ℕ) where
  abbrev last : List (Bool × ℕ)
  last = (adjoin w h s a b, 9) ∷ []

  pub asked_refused : number_of v ≢ 0 → number_of v ≡ asked v w h s p a b
  unfolding asked
  asked_refused n = rw (ne_eqb (number_of v) 0 n)

  module _ (z : number_of v ≡ 0) where
    pub asked_named : (k : ℕ) → k ≡ first_failed (name_tests p a b) → k ≢ 0 → k ≡ asked v w h s p a b
    unfolding asked
    asked_named k e y =
        rw (eq-eqb (number_of v) 0 z)
        (e ∙ sym (stopped_append 6 9 (lit< tt) (name_tests p a b) last (names_numbered p a b) (λ q. y (e ∙ q))))

    -- the names are passed
    module _ (e : 0 ≡ first_failed (name_tests p a b)) where
      goes_on : asked v w h s p a b ≡ first_failed last
      unfolding asked
      goes_on =
          rw (eq-eqb (number_of v) 0 z)
          (passed_append 6 9 (lit< tt) (name_tests p a b) last (names_numbered p a b) (sym e))

      pub asked_apart : false ≡ adjoin w h s a b → 9 ≡ asked v w h s p a b
      asked_apart i = sym (goes_on ∙ failed_here _ 9 [] (sym i))

      pub asked_done : true ≡ adjoin w h s a b → 0 ≡ asked v w h s p a b
      asked_done i = sym (goes_on ∙ failed_later _ 9 [] (sym i) ∙ none_left)
