-- The outcomes of joining, after a check of the drawing.
--   merged w h t a b ws == the outcome of joining a and b in the tables t with the work tables ws
--   asked v w h s p a b == the number after a check that answered v, of the names a and b by the sides s and the parents p
use mathlib.Core.Path.{◌≡◌, refl, sym, ap, ◌∙◌}
use mathlib.Core.Bool.{Bool, true, false}
use mathlib.Core.List.{List}
use mathlib.Core.Logic.{◌≢◌}
use Prim.Native.Nat.{ℕ}
use native.Mathlib.Omega.{arith}
use lib.Dec.{eqb}
use borrow.Author.Tests.{eqb-true, eqb-false, eq-eqb, ne_eqb}
use Rattle.std.specs.Prelude.{Result, Ok}
use Rattle.laws.specs.First.{first_failed}
use Rattle.laws.proofs.First.{failed_from}
use Rattle.paper.specs.Drawing.{Tables}
use Rattle.paper.specs.Joining.{joined}
use Rattle.paper.specs.Refusal.{work_left, cleared, seven, size_tests, given_tests, name_tests, pair_tests, join_refusal, merged}
use Rattle.paper.specs.Sitting.{Joinable}
use Rattle.paper_laws.proofs.Order.{pair_numbered, passed_joinable}
use Rattle.answer.specs.declared.Refusal.{Refusal}
use Rattle.answer.specs.Answer.{number_of, told}
use Rattle.answer.proofs.Outcome.{work_cleared}
use Rattle.table_lengths.specs.Given.{works}
use Rattle.check_answer.specs.Check.{checked}
use Rattle.check_answer.proofs.Given.{given_number, given_work, accepted_work, accepted_on, refused_on}
use Rattle.join_answer.specs.Asked.{asked}
use Rattle.join_rule.specs.Apply.{pair, Ready}
use Rattle.join_call.specs.Faithful.{Faithful}
use Rattle.join_call.proofs.Doing.{join_stops, join_ready, join_done}

-- Joining a and b in the tables t after a check that answered v and left the work tables vs, where the names are answered by o:
-- what is promised of the tables u and the work tables xs that it leaves with the answer r.
module _ (w h : ℕ) (t : Tables) (a b : ℕ) (ws vs : List (List ℕ))
    (v : Result (Unit {0}) Refusal) (c : told v (seven t) vs ≡ checked w h t ws)
    (o : Result (Unit {0}) Refusal) (e : number_of o ≡ asked v w h t.side1 t.parent a b) where
  abbrev Promised : Result (Unit {0}) Refusal → Tables → List (List ℕ) → Type 0
  Promised r u xs = (told r (seven u) xs ≡ merged w h t a b ws) × (number_of r ≡ 0 → Faithful w h t u a b)

  -- the tests of the names, after those of the check
  abbrev tests : List (Bool × ℕ)
  tests = pair_tests w h t.side1 t.parent a b

  -- the check refuses
  module _ (n : number_of v ≢ 0) where
    refused_number : join_refusal w h t a b ws ≡ first_failed (given_tests w h t ws)
    unfolding join_refusal given_tests size_tests name_tests
    refused_number = refused_on w h t ws v vs c n tests

    refused_asked : number_of o ≡ join_refusal w h t a b ws
    unfolding asked
    refused_asked = rw (ne_eqb (number_of v) 0 n) at e ∙ given_number w h t ws v vs c ∙ sym refused_number

    refused_work : vs ≡ work_left (join_refusal w h t a b ws) ws
    refused_work = given_work w h t ws v vs c ∙ ap (λ k. work_left k ws) (sym refused_number)

  -- the check accepts
  module _ (z : number_of v ≡ 0) where
    accepted_number : join_refusal w h t a b ws ≡ first_failed tests
    unfolding join_refusal given_tests size_tests name_tests
    accepted_number = accepted_on w h t ws v vs c z tests

    accepted_asked : number_of o ≡ join_refusal w h t a b ws
    unfolding asked
    accepted_asked = rw (eq-eqb (number_of v) 0 z) at e ∙ sym accepted_number

    accepted_left : vs ≡ work_left (join_refusal w h t a b ws) ws
    accepted_left =
        accepted_work w h t ws v vs c z
        ∙ sym
        (work_cleared (join_refusal w h t a b ws) ws
        (rw accepted_number (λ n. omega (arith, failed_from 6 10 tests (pair_numbered w h t.side1 t.parent a b) n))))

  both_asked : (k : Bool) → eqb (number_of v) 0 ≡ k
      → (number_of o ≡ join_refusal w h t a b ws) × (vs ≡ work_left (join_refusal w h t a b ws) ws)
  both_asked true p = let z = eqb-true (number_of v) 0 p in (accepted_asked z, accepted_left z)
  both_asked false p = let n = eqb-false (number_of v) 0 p in (refused_asked n, refused_work n)

  -- where nothing is refused, the check accepted and the two may be joined
  both_open : join_refusal w h t a b ws ≡ 0 → (number_of v ≡ 0) × Joinable w h t a b
  both_open z = by (eqb (number_of v) 0) refl
    where
      by : (k : Bool) → eqb (number_of v) 0 ≡ k → (number_of v ≡ 0) × Joinable w h t a b
      by true p =
          let d = eqb-true (number_of v) 0 p in
          (d, passed_joinable w h t a b (sym (accepted_number d) ∙ z))
      by false p =
          let n = eqb-false (number_of v) 0 p in
          absurd (n (given_number w h t ws v vs c ∙ sym (refused_number n) ∙ z))

  abbrev asked_number : number_of o ≡ join_refusal w h t a b ws
  asked_number = (both_asked (eqb (number_of v) 0) refl).0

  abbrev asked_work : vs ≡ work_left (join_refusal w h t a b ws) ws
  asked_work = (both_asked (eqb (number_of v) 0) refl).1

  pub asked_stops : number_of o ≢ 0 → Promised o t vs
  unfolding merged
  asked_stops = join_stops w h t a b ws vs v c (join_refusal w h t a b ws) asked_work both_open o asked_number

  -- Nothing is refused.
  module _ (z : number_of o ≡ 0) where
    pub asked_ready : Ready w h t vs a b
    asked_ready = join_ready w h t a b ws vs v c (join_refusal w h t a b ws) asked_work both_open o asked_number z

    pub asked_joined : (c d e f x y : List ℕ) → vs ≡ works c d e f → (u : Tables) → u ≡ joined w h t a b
        → pair x y ≡ cleared (pair c d) → Promised (Ok tt) u (works x y e f)
    unfolding merged
    asked_joined = join_done w h t a b ws vs v c (join_refusal w h t a b ws) asked_work both_open o asked_number z
