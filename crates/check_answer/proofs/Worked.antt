-- The outcome of the check, by worked cases: every refusal once, judged where all that comes later in the order is wrong too, and
-- done. Names are those of the cases of the paper's calls.
use mathlib.Core.Path.{◌≡◌, refl}
use mathlib.Core.List.{List, [], ◌∷◌, map}
use Rattle.laws.proofs.Cases.{Case, failed, none_failed}
use Rattle.paper.specs.Refusal.{Outcome, ended, seven}
use Rattle.paper.proofs.Worked.{same_outcome, outcome_equal, refused, one, rubbish, works, clean, calls_open}
use Rattle.check_answer.specs.Check.{checked}

checks : List (Case Outcome)
checks =
    record { computed = checked 0 1 (rubbish 3) (works 16 17); stated = refused 1 (seven (rubbish 3)) (works 16 17) }
    ∷ record { computed = checked 1 1 (rubbish 3) (works 16 16); stated = refused 4 (seven (rubbish 3)) (works 16 16) }
    ∷ record { computed = checked 1 1 (rubbish 2) (works 16 17); stated = refused 4 (seven (rubbish 2)) (works 16 17) }
    ∷ record { computed = checked 1 1 (rubbish 2) (works 16 16); stated = refused 5 (seven (rubbish 2)) (clean 16) }
    ∷ record { computed = checked 1 1 one (works 16 16); stated = ended 0 [] (seven one) (clean 16) }
    ∷ []

checks_hold : failed same_outcome 0 checks ≡ []
unfolding calls_open checked checks
checks_hold = refl

check_cases : map (λ (c : Case Outcome). c.computed) checks ≡ map (λ (c : Case Outcome). c.stated) checks
check_cases = none_failed same_outcome outcome_equal 0 checks checks_hold
