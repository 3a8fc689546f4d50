-- What a check of a drawing tells of a call that goes on after it.
--   given_tests w h t ws == the tests of the check of the tables t with the work tables ws
--   checked w h t ws == the outcome of the check
--   told r ts ws    == the outcome that the answer r tells
use mathlib.Core.Path.{◌≡◌, refl, sym, ap, ◌∙◌}
use mathlib.Core.Bool.{Bool, true}
use mathlib.Core.List.{List, [], ◌++◌}
use mathlib.Core.Logic.{◌≢◌}
use Prim.Native.Nat.{ℕ}
use lib.Dec.{lit<}
use Rattle.std.specs.Prelude.{Result}
use Rattle.laws.specs.First.{first_failed, numbered}
use Rattle.laws.proofs.First.{Passed, all_passed, passed_append, stopped_append}
use Rattle.sheet_size.specs.Size.{within}
use Rattle.paper.specs.Drawing.{Tables, is_drawing}
use Rattle.paper.specs.Refusal.{Outcome, work_left, stated, cleared, outcome, seven, size_tests, given_tests}
use Rattle.answer.specs.declared.Refusal.{Refusal}
use Rattle.answer.specs.Answer.{number_of, told}
use Rattle.answer.proofs.Outcome.{work_cleared, outcome_number, outcome_work, told_refused}
use Rattle.check_answer.specs.Check.{checked}

pub size_numbered : (w h : ℕ) (k : Bool) → numbered 1 5 (size_tests w h k) ≡ true
unfolding numbered size_tests
size_numbered w h k = refl

module _ (w h : ℕ) (t : Tables) (ws : List (List ℕ)) where
  pub given_numbered : numbered 1 6 (given_tests w h t ws) ≡ true
  unfolding numbered given_tests size_tests
  given_numbered = refl

  -- A check that answered v and left the work tables vs.
  module _ (v : Result (Unit {0}) Refusal) (vs : List (List ℕ)) (e : told v (seven t) vs ≡ checked w h t ws) where
    pub given_number : number_of v ≡ first_failed (given_tests w h t ws)
    unfolding told checked
    given_number = ap (λ (o : Outcome). o.number) e ∙ outcome_number (first_failed (given_tests w h t ws)) [] (seven t) (seven t) ws

    pub given_work : vs ≡ work_left (first_failed (given_tests w h t ws)) ws
    unfolding told checked
    given_work = ap (λ (o : Outcome). o.work) e ∙ outcome_work (first_failed (given_tests w h t ws)) [] (seven t) (seven t) ws

    -- it accepts
    module _ (z : number_of v ≡ 0) where
      passed : first_failed (given_tests w h t ws) ≡ 0
      passed = sym given_number ∙ z

      all : Passed (given_tests w h t ws)
      all = all_passed 1 6 (lit< tt) (given_tests w h t ws) given_numbered passed

      pub accepted_within : within w h ≡ true
      unfolding given_tests size_tests
      accepted_within = all.0

      pub accepted_stated : stated w h t ws ≡ true
      unfolding given_tests size_tests
      accepted_stated = all.1.0

      pub accepted_is_drawing : is_drawing w h t ≡ true
      unfolding given_tests size_tests
      accepted_is_drawing = all.1.1.0

      pub accepted_work : vs ≡ cleared ws
      accepted_work = given_work ∙ ap (λ k. work_left k ws) passed ∙ work_cleared 0 ws (λ n. absurd (n refl))

      -- a call that tests more after it
      pub accepted_on : (us : List (Bool × ℕ)) → first_failed (given_tests w h t ws ++ us) ≡ first_failed us
      accepted_on us = passed_append 1 6 (lit< tt) (given_tests w h t ws) us given_numbered passed

    -- it refuses, and so does such a call, whatever its values ns and its tables zs would be
    module _ (n : number_of v ≢ 0) (us : List (Bool × ℕ)) where
      pub refused_on : first_failed (given_tests w h t ws ++ us) ≡ first_failed (given_tests w h t ws)
      refused_on = stopped_append 1 6 (lit< tt) (given_tests w h t ws) us given_numbered (λ z. n (given_number ∙ z))

      pub refused_stops : (ns : List ℕ) (zs : List (List ℕ))
          → told v (seven t) vs ≡ outcome (first_failed (given_tests w h t ws ++ us)) ns (seven t) zs ws
      refused_stops ns zs =
          told_refused v (first_failed (given_tests w h t ws ++ us)) (given_number ∙ sym refused_on) n ns (seven t) zs ws vs
          (given_work ∙ ap (λ k. work_left k ws) (sym refused_on))
