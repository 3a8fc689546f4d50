-- Filling tables ms from a drawing, with the tables fs.
--   fill_refusal w h t k ws == the first refusal, where k says that the tables to be filled have the stated lengths
--   judged w h t k ws == the outcome of judging this
--   filled w h t k ms fs ws == the outcome of filling
--   told r ts ws    == the outcome that the answer r tells
use mathlib.Core.Path.{◌≡◌, refl, sym, ap, ap₂, ◌∙◌}
use mathlib.Core.Bool.{Bool, true, false, ◌&&◌, and-true, and-false}
use mathlib.Core.List.{List, [], ◌∷◌, ◌++◌}
use mathlib.Core.Logic.{◌≢◌}
use Prim.Native.Nat.{ℕ}
use lib.Dec.{lit<}
use Rattle.std.specs.Prelude.{Result}
use Rattle.laws.specs.First.{first_failed, numbered}
use Rattle.laws.proofs.First.{all_passed, failed_below}
use Rattle.laws.proofs.Test.{and_right}
use Rattle.sheet_size.specs.Size.{within}
use Rattle.paper.specs.Drawing.{Tables, is_drawing}
use Rattle.paper.specs.Refusal.{Outcome, work_left, stated, seven, size_tests, given_tests}
use Rattle.answer.specs.declared.Refusal.{Refusal}
use Rattle.answer.specs.Answer.{number_of, told}
use Rattle.answer.proofs.Outcome.{work_cleared, outcome_number, outcome_work, told_early, told_refused, told_done}
use Rattle.check_answer.specs.Check.{checked}
use Rattle.check_answer.proofs.Given.{size_numbered}
use Rattle.count_call.specs.Tally.{fill_refusal, judged, filled}

-- only the first of the work tables is written
pub first_same : {a b : List ℕ} (ws : List (List ℕ)) → a ≡ b → a ∷ ws ≡ b ∷ ws
first_same ws e = ap (λ a. a ∷ ws) e

-- two tables are filled
pub both_same : {a b c d : List ℕ} → a ≡ b → c ≡ d → a ∷ c ∷ [] ≡ b ∷ d ∷ []
both_same p q = ap₂ (λ a c. a ∷ c ∷ []) p q

-- the tests of the lengths alone stop where all tests do
stopped : (a b c d : Bool) → first_failed ((a, 1) ∷ (b, 4) ∷ []) ≢ 0
    → first_failed ((a, 1) ∷ (b, 4) ∷ []) ≡ first_failed ((a, 1) ∷ (c && b, 4) ∷ (d, 5) ∷ [])
unfolding first_failed
stopped false b c d n = refl
stopped true false c d n = rw (and-false c)
stopped true true c d n = absurd (n refl)

module _ (w h : ℕ) (t : Tables) (k : Bool) (ws : List (List ℕ)) where
  -- where the lengths are the stated ones, the check judges all
  judged_check : k ≡ true → judged w h t k ws ≡ checked w h t ws
  unfolding judged checked fill_refusal given_tests size_tests
  judged_check e = rw (e, and-true (stated w h t ws))

  -- Judging: the size and the lengths, and then the check.
  module _ (f : Result (Unit {0}) Refusal) (e : number_of f ≡ first_failed (size_tests w h k)) where
    pub judge_stopped : number_of f ≢ 0 → told f (seven t) ws ≡ judged w h t k ws
    unfolding judged fill_refusal size_tests
    judge_stopped z =
        let s = stopped (within w h) k (stated w h t ws) (is_drawing w h t) (λ q. z (e ∙ q)) in
        told_early f (fill_refusal w h t k ws) (e ∙ s) z
        (rw (← s) (failed_below 1 5 (size_tests w h k) (lit< tt) (size_numbered w h k))) [] (seven t) (seven t) ws

    pub judge_checked : number_of f ≡ 0 → (v : Result (Unit {0}) Refusal) (vs : List (List ℕ)) → told v (seven t) vs ≡ checked w h t ws
        → told v (seven t) vs ≡ judged w h t k ws
    unfolding size_tests
    judge_checked z v vs c =
        c ∙ sym (judged_check (all_passed 1 5 (lit< tt) (size_tests w h k) (size_numbered w h k) (sym e ∙ z)).1.0)

  -- A judging of the same lengths that answered v and left the work tables vs.
  module _ (l : Bool) (same : l ≡ k) (v : Result (Unit {0}) Refusal) (vs : List (List ℕ))
      (e : told v (seven t) vs ≡ judged w h t l ws) where
    answered : told v (seven t) vs ≡ judged w h t k ws
    answered = e ∙ ap (λ b. judged w h t b ws) same

    number : number_of v ≡ fill_refusal w h t k ws
    unfolding told judged
    number = ap (λ (o : Outcome). o.number) answered ∙ outcome_number (fill_refusal w h t k ws) [] (seven t) (seven t) ws

    work : vs ≡ work_left (fill_refusal w h t k ws) ws
    unfolding told judged
    work = ap (λ (o : Outcome). o.work) answered ∙ outcome_work (fill_refusal w h t k ws) [] (seven t) (seven t) ws

    pub fill_refused : number_of v ≢ 0 → (ms fs : List (List ℕ)) → told v (seven t ++ ms) vs ≡ filled w h t k ms fs ws
    unfolding filled
    fill_refused z ms fs = told_refused v (fill_refusal w h t k ws) number z [] (seven t ++ ms) (seven t ++ fs) ws vs work

    -- nothing is refused
    module _ (z : number_of v ≡ 0) where
      all_long : k ≡ true
      unfolding fill_refusal size_tests numbered
      all_long = and_right (stated w h t ws) k (all_passed 1 6 (lit< tt) _ refl (sym number ∙ z)).1.0

      pub fill_long : l ≡ true
      fill_long = same ∙ all_long

      pub fill_checked : told v (seven t) vs ≡ checked w h t ws
      fill_checked = answered ∙ judged_check all_long

      pub fill_done : (ms fs gs us : List (List ℕ)) → gs ≡ fs → us ≡ vs
          → told v (seven t ++ gs) us ≡ filled w h t k ms fs ws
      unfolding filled
      fill_done ms fs gs us p u =
          told_done v (fill_refusal w h t k ws) number z (seven t ++ ms) (seven t ++ fs) ws (seven t ++ gs) us
          (rw p) (u ∙ work ∙ ap (λ r. work_left r ws) (sym number ∙ z) ∙ work_cleared 0 ws (λ q. absurd (q refl)))
