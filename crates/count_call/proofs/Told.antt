-- What a count answers after a check tells the outcome of the count.
--   after v k x     == what a count answers after a check that answered v, of a name that k says is known, with the value x
use mathlib.Core.Path.{◌≡◌, refl, sym, ◌∙◌}
use mathlib.Core.Bool.{Bool, true, false}
use mathlib.Core.List.{List, [], ◌∷◌}
use Prim.Native.Nat.{ℕ}
use native.Mathlib.Omega.{arith}
use Rattle.std.specs.Prelude.{Result, Ok, Err}
use Rattle.laws.proofs.First.{none_left, failed_here, failed_later}
use Rattle.paper.specs.Drawing.{Tables}
use Rattle.paper.specs.Refusal.{outcome, seven, used, count_refusal}
use Rattle.answer.specs.declared.Refusal.{Refusal}
use Rattle.answer.specs.Answer.{number_of, told}
use Rattle.answer.proofs.Outcome.{work_cleared, outcome_refused, outcome_done, refusal_some}
use Rattle.region_depths.specs.Tree.{known}
use Rattle.check_answer.specs.Check.{checked}
use Rattle.check_answer.proofs.Given.{accepted_work, accepted_on, refused_stops}
use Rattle.count_answer.specs.Count.{values, counted, after}

module _ (w h : ℕ) (t : Tables) (r : ℕ) (ws : List (List ℕ)) (vs : List (List ℕ)) (x : ℕ) where
  abbrev last : List (Bool × ℕ)
  last = (known t.parent r, 8) ∷ []

  -- the check accepts: the name decides
  by_name : told (Ok tt) (seven t) vs ≡ checked w h t ws → (k : Bool) → known t.parent r ≡ k
      → counted (after (Ok tt) k x) (seven t) vs ≡ outcome (count_refusal w h t r ws) (x ∷ []) (seven t) (seven t) ws
  unfolding after counted values number_of count_refusal used known
  by_name e true p =
      outcome_done (count_refusal w h t r ws) (x ∷ []) (seven t) (seven t) ws
      (accepted_on w h t ws (Ok tt) vs e refl last ∙ failed_later _ 8 [] p ∙ none_left) (seven t) vs refl
      (accepted_work w h t ws (Ok tt) vs e refl)
  by_name e false p =
      let n : count_refusal w h t r ws ≡ 8 = accepted_on w h t ws (Ok tt) vs e refl last ∙ failed_here _ 8 [] p in
      rw n
      (outcome_refused 8 (x ∷ []) (seven t) (seven t) ws (λ q. omega (arith, q)) vs
      (accepted_work w h t ws (Ok tt) vs e refl ∙ sym (work_cleared 8 ws (λ q. omega arith))))

  by_check : (v : Result (Unit {0}) Refusal) → told v (seven t) vs ≡ checked w h t ws
      → counted (after v (known t.parent r) x) (seven t) vs ≡ outcome (count_refusal w h t r ws) (x ∷ []) (seven t) (seven t) ws
  unfolding after counted values number_of told count_refusal used known
  by_check (Ok done) e = by_name e (known t.parent r) refl
  by_check (Err q) e = refused_stops w h t ws (Err q) vs e (refusal_some q) last (x ∷ []) (seven t)

  pub count_told : (v : Result (Unit {0}) Refusal) → told v (seven t) vs ≡ checked w h t ws → (c : Result ℕ Refusal)
      → c ≡ after v (known t.parent r) x
      → counted c (seven t) vs ≡ outcome (count_refusal w h t r ws) (x ∷ []) (seven t) (seven t) ws
  count_told v e c p = rw p (by_check v e)
