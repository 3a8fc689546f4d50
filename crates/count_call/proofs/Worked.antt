-- The outcomes of counting all names at once, and of counting the turns of the curves, by worked cases: every refusal once, judged
-- where all that comes later in the order is wrong too, and done. Names are those of the cases of the paper's calls.
use mathlib.Core.Path.{◌≡◌, refl}
use mathlib.Core.List.{List, [], ◌∷◌, ◌++◌, map}
use Prim.Native.Nat.{ℕ}
use lib.ListN.{replicate}
use Rattle.laws.proofs.Cases.{Case, failed, none_failed}
use Rattle.paper.specs.Refusal.{Outcome, ended, seven}
use Rattle.paper.proofs.Worked.{same_outcome, outcome_equal, refused, none, joined_two, rubbish, works, clean, calls_open}
use Rattle.region_depths.specs.Tree.{known}
use Rattle.region_depths.specs.Census.{counted_at, counts}
use Rattle.count_call.specs.Tally.{fill_refusal, filled, tallied, traced}

tallies : List (Case Outcome)
tallies =
    record {
      computed = tallied 1 0 (rubbish 2) (7 ∷ []) (8 ∷ 8 ∷ []) (works 16 17);
      stated = refused 1 (seven (rubbish 2) ++ (7 ∷ []) ∷ (8 ∷ 8 ∷ []) ∷ []) (works 16 17);
    }
    ∷ record {
      computed = tallied 1 1 (rubbish 2) (7 ∷ []) (8 ∷ 8 ∷ []) (works 16 16);
      stated = refused 4 (seven (rubbish 2) ++ (7 ∷ []) ∷ (8 ∷ 8 ∷ []) ∷ []) (works 16 16);
    }
    ∷ record {
      computed = tallied 1 1 (rubbish 2) (7 ∷ 7 ∷ []) (8 ∷ 8 ∷ []) (works 16 17);
      stated = refused 4 (seven (rubbish 2) ++ (7 ∷ 7 ∷ []) ∷ (8 ∷ 8 ∷ []) ∷ []) (works 16 17);
    }
    ∷ record {
      computed = tallied 1 1 (rubbish 2) (7 ∷ 7 ∷ []) (8 ∷ 8 ∷ []) (works 16 16);
      stated = refused 5 (seven (rubbish 2) ++ (7 ∷ 7 ∷ []) ∷ (8 ∷ 8 ∷ []) ∷ []) (clean 16);
    }
    ∷ record {
      computed = tallied 2 1 joined_two (7 ∷ 7 ∷ 7 ∷ []) (8 ∷ 8 ∷ 8 ∷ []) (works 24 24);
      stated = ended 0 [] (seven joined_two ++ (0 ∷ 1 ∷ none ∷ []) ∷ (1 ∷ 0 ∷ none ∷ []) ∷ []) (clean 24);
    }
    ∷ []

tallies_hold : failed same_outcome 0 tallies ≡ []
unfolding calls_open known counted_at counts fill_refusal filled tallied tallies
tallies_hold = refl

tally_cases : map (λ (c : Case Outcome). c.computed) tallies ≡ map (λ (c : Case Outcome). c.stated) tallies
tally_cases = none_failed same_outcome outcome_equal 0 tallies tallies_hold

-- the two lent tables, of n and m entries
lent : ℕ → ℕ → List (List ℕ)
lent n m = replicate n 7 ∷ replicate m 8 ∷ []

traces : List (Case Outcome)
traces =
    record {
      computed = traced 1 0 (rubbish 2) (replicate 15 7) (replicate 16 8) (works 16 17);
      stated = refused 1 (seven (rubbish 2) ++ lent 15 16) (works 16 17);
    }
    ∷ record {
      computed = traced 1 1 (rubbish 2) (replicate 15 7) (replicate 16 8) (works 16 16);
      stated = refused 4 (seven (rubbish 2) ++ lent 15 16) (works 16 16);
    }
    ∷ record {
      computed = traced 1 1 (rubbish 2) (replicate 16 7) (replicate 17 8) (works 16 16);
      stated = refused 4 (seven (rubbish 2) ++ lent 16 17) (works 16 16);
    }
    ∷ record {
      computed = traced 1 1 (rubbish 2) (replicate 16 7) (replicate 16 8) (works 16 17);
      stated = refused 4 (seven (rubbish 2) ++ lent 16 16) (works 16 17);
    }
    ∷ record {
      computed = traced 1 1 (rubbish 2) (replicate 16 7) (replicate 16 8) (works 16 16);
      stated = refused 5 (seven (rubbish 2) ++ lent 16 16) (clean 16);
    }
    ∷ record {
      computed = traced 2 1 joined_two (replicate 24 7) (replicate 24 8) (works 24 24);
      stated = ended 0 []
          (seven joined_two ++ (3 ∷ 0 ∷ replicate 22 none) ∷ (0 ∷ 3 ∷ replicate 22 none) ∷ []) (clean 24);
    }
    ∷ []

traces_hold : failed same_outcome 0 traces ≡ []
unfolding calls_open fill_refusal filled traced lent traces
traces_hold = refl

trace_cases : map (λ (c : Case Outcome). c.computed) traces ≡ map (λ (c : Case Outcome). c.stated) traces
trace_cases = none_failed same_outcome outcome_equal 0 traces traces_hold
