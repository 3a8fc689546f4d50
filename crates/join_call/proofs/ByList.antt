-- The outcomes of joining by a list, after a check of the drawing.
--   merged_list w h t l ws == the outcome of joining by the list l in the tables t with the work tables ws
--   judged k b      == the number after a check with the number k, where b says that the list may be lent
use mathlib.Core.Path.{◌≡◌, refl, sym, ap, ◌∙◌}
use mathlib.Core.Bool.{Bool, true}
use mathlib.Core.List.{List}
use mathlib.Core.Logic.{◌≢◌}
use Prim.Native.Nat.{ℕ, zero, suc}
use native.Mathlib.Omega.{arith}
use lib.Dec.{lit<}
use lib.ListN.{length}
use Rattle.std.specs.Prelude.{Result}
use Rattle.laws.specs.First.{first_failed, numbered}
use Rattle.laws.proofs.First.{Passed, all_passed}
use Rattle.paper.specs.Drawing.{Tables}
use Rattle.paper.specs.Refusal.{Outcome, ended, cleared, work_left, seven, size_tests, given_tests}
use Rattle.paper.specs.Order.{Stop, pairs, whole, unless, joins, list_tests, list_stop, placed, merged_list}
use Rattle.paper_laws.proofs.IsDrawing.{is_drawing_drawn}
use Rattle.answer.specs.declared.Refusal.{Refusal}
use Rattle.answer.specs.Answer.{number_of, told}
use Rattle.answer.proofs.Outcome.{work_cleared}
use Rattle.table_lengths.specs.Given.{works}
use Rattle.check_answer.specs.Check.{checked}
use Rattle.check_answer.proofs.Given.{given_number, given_work}
use Rattle.join_answer.specs.Judge.{judged}
use Rattle.join_answer.proofs.Judging.{judged_tests, judged_work}
use Rattle.join_list.specs.declared.each.ListRefusal.{ListRefusal}
use Rattle.join_list.specs.Answer.{list_number, list_values, listed}
use Rattle.join_list.specs.Each.{Open, Ended}
use Rattle.join_list.proofs.Ending.{joins_late}
use Rattle.join_call.proofs.Cleared.{cleared_twice, cleared_stated}

-- what a stop tells, with the work tables ws
abbrev reported : Stop → List (List ℕ) → Outcome
reported s ws = ended s.number (placed s.number s.place) (seven s.tables) (work_left s.number ws)

refused_first : (k : ℕ) (t : Tables) (s : Stop) (ws : List (List ℕ)) → k ≢ 0
    → ended k (placed k 0) (seven t) (work_left k ws) ≡ reported (unless k 0 t s) ws
unfolding unless
refused_first zero t s ws n = absurd (n refl)
refused_first (suc k) t s ws n = refl

-- Joining by the list l in the tables t after a check that answered v and left the work tables vs, where o is answered before the
-- entries.
module _ (w h : ℕ) (t : Tables) (l : List ℕ) (ws vs : List (List ℕ))
    (v : Result (Unit {0}) Refusal) (c : told v (seven t) vs ≡ checked w h t ws)
    (o : Result (Unit {0}) Refusal) (e : number_of o ≡ judged (number_of v) (whole w (length l))) where
  abbrev tests : List (Bool × ℕ)
  tests = list_tests w h t (length l) ws

  tests_numbered : numbered 1 13 tests ≡ true
  unfolding numbered list_tests size_tests
  tests_numbered = refl

  given : number_of o ≡ judged (first_failed (given_tests w h t ws)) (whole w (length l))
  given = e ∙ ap (λ k. judged k (whole w (length l))) (given_number w h t ws v vs c)

  number : number_of o ≡ first_failed tests
  number = given ∙ judged_tests w h t (length l) ws

  work : vs ≡ work_left (number_of o) ws
  work =
      given_work w h t ws v vs c
      ∙ judged_work (first_failed (given_tests w h t ws)) (whole w (length l)) ws
      ∙ ap (λ k. work_left k ws) (sym given)

  pub list_stops : (r : Result (Unit {0}) ListRefusal) → (list_number r ≡ number_of o) × (list_values r ≡ placed (number_of o) 0)
      → list_number r ≢ 0 → listed r (seven t) vs ≡ merged_list w h t l ws
  unfolding listed merged_list list_stop
  list_stops r p n =
      rw (p.0, p.1, work, ← number) (refused_first (number_of o) t (joins w h 0 (pairs l) t) ws (λ z. n (p.0 ∙ z)))

  -- Nothing is refused before the entries.
  module _ (z : number_of o ≡ 0) (c₁ d₁ e₁ f₁ : List ℕ) (s : vs ≡ works c₁ d₁ e₁ f₁) where
    passed : Passed tests
    passed = all_passed 1 13 (lit< tt) tests tests_numbered (sym number ∙ z)

    clear : works c₁ d₁ e₁ f₁ ≡ cleared ws
    clear = sym s ∙ work ∙ ap (λ k. work_left k ws) z ∙ work_cleared 0 ws (λ n. absurd (n refl))

    still : works c₁ d₁ e₁ f₁ ≡ cleared (works c₁ d₁ e₁ f₁)
    still = clear ∙ sym (cleared_twice ws) ∙ ap cleared (sym clear)

    pub list_open : (whole w (length l) ≡ true) × Open w h t (works c₁ d₁ e₁ f₁) × (works c₁ d₁ e₁ f₁ ≡ cleared (works c₁ d₁ e₁ f₁))
    unfolding list_tests size_tests
    list_open =
        let p = passed in (
          p.1.1.0,
          record { size = p.0; sizes = rw (clear, cleared_stated) p.1.0; drawn = is_drawing_drawn w h t p.1.1.1.0 },
          still,
        )

    pub list_ends : (r : Result (Unit {0}) ListRefusal) (u : Tables) (xs : List (List ℕ)) → Ended r (joins w h 0 (pairs l) t) u
        → xs ≡ cleared (works c₁ d₁ e₁ f₁) → listed r (seven u) xs ≡ merged_list w h t l ws
    unfolding listed merged_list list_stop unless
    list_ends r u xs q f =
        let k = (joins w h 0 (pairs l) t).number in
        let m : xs ≡ work_left k ws =
        f ∙ sym still ∙ clear ∙ sym (work_cleared k ws (λ n. omega (arith, joins_late w h 0 (pairs l) t n))) in
        rw (q.number, q.values, q.tables, m, sym number ∙ z)
