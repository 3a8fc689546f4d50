-- The check of seven tables, from what its parts answer.
--   checked w h t ws == the outcome of the check of the tables t with the work tables ws
--   told r ts ws    == the outcome that the answer r tells
use mathlib.Core.Path.{◌≡◌, refl, sym, ap, ◌∙◌}
use mathlib.Core.Bool.{Bool, true}
use mathlib.Core.List.{List, [], ◌∷◌, map}
use mathlib.Core.Logic.{◌≢◌}
use Prim.Native.Nat.{ℕ}
use lib.Dec.{lit<}
use lib.ListN.{length}
use Rattle.std.specs.Prelude.{Result}
use Rattle.laws.specs.First.{first_failed, numbered}
use Rattle.laws.proofs.First.{all_passed, failed_below, failed_from, passed_append, stopped_append}
use Rattle.paper.specs.Drawing.{Tables, is_drawing}
use Rattle.paper.specs.Refusal.{stated, cleared, seven, size_tests, given_tests}
use Rattle.answer.specs.declared.Refusal.{Refusal}
use Rattle.answer.specs.Answer.{number_of, told}
use Rattle.answer.proofs.Outcome.{work_cleared, told_early, told_left}
use Rattle.table_lengths.specs.Lengths.{lengths}
use Rattle.table_lengths.proofs.Tested.{by_name, by_dart, stated_lengths}
use Rattle.check_answer.specs.Check.{checked}
use Rattle.check_answer.proofs.Given.{size_numbered}

found_numbered : (d : Bool) → numbered 5 6 ((d, 5) ∷ []) ≡ true
unfolding numbered
found_numbered d = refl

-- Tables of which this is answered.
module _ (w h : ℕ) (t : Tables) (ws : List (List ℕ)) (r : Result (Unit {0}) Refusal)
    (e : number_of r ≡ first_failed (size_tests w h (lengths w h (map length (by_name w h t ws)) (map length (by_dart w h t ws))))) where
  abbrev tests : List (Bool × ℕ)
  tests = size_tests w h (stated w h t ws)

  abbrev last : List (Bool × ℕ)
  last = (is_drawing w h t, 5) ∷ []

  number : number_of r ≡ first_failed tests
  number = e ∙ ap (λ k. first_failed (size_tests w h k)) (stated_lengths w h t ws)

  pub check_refused : number_of r ≢ 0 → told r (seven t) ws ≡ checked w h t ws
  unfolding checked given_tests
  check_refused n =
      let s = stopped_append 1 5 (lit< tt) tests last (size_numbered w h (stated w h t ws)) (λ z. n (number ∙ z)) in
      told_early r (first_failed (given_tests w h t ws)) (number ∙ sym s) n
      (rw s (failed_below 1 5 tests (lit< tt) (size_numbered w h (stated w h t ws)))) [] (seven t) (seven t) ws

  module _ (z : number_of r ≡ 0) where
    pub check_ready : stated w h t ws ≡ true
    unfolding size_tests
    check_ready = (all_passed 1 5 (lit< tt) tests (size_numbered w h (stated w h t ws)) (sym number ∙ z)).1.0

    -- what is found is of a size a by b, which is this one
    pub check_found : (a b : ℕ) → (a ≡ w) × (b ≡ h) → (vs : List (List ℕ)) → vs ≡ cleared ws
        → (d : Bool) → d ≡ is_drawing a b t → (u : Result (Unit {0}) Refusal)
        → number_of u ≡ first_failed ((d, 5) ∷ []) → told u (seven t) vs ≡ checked w h t ws
    unfolding checked given_tests
    check_found a b m vs c d i u k =
        let f : number_of u ≡ first_failed last = k ∙ (λ j. first_failed ((i j, 5) ∷ []))
        ∙ (λ j. first_failed ((is_drawing (m.0 j) (m.1 j) t, 5) ∷ [])) in
        let s = passed_append 1 5 (lit< tt) tests last (size_numbered w h (stated w h t ws)) (sym number ∙ z) in
        told_left u (first_failed (given_tests w h t ws)) (f ∙ sym s) (seven t) ws vs
        (c ∙ sym (work_cleared (first_failed (given_tests w h t ws)) ws (rw s (failed_from 5 6 last (found_numbered (is_drawing w h t))))))
