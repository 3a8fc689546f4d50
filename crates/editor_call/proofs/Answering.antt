-- The outcomes of joining as an editor, after a check of the drawing.
--   edited w h o t c == the outcome of the call c in the tables t by the owners o
--   reply w h o t c == its number
--   asked k ..      == the number that is answered after a check with the number k
use mathlib.Core.Path.{◌≡◌, refl, sym, ap, ◌∙◌}
use mathlib.Core.Bool.{Bool, true, false, cond, not, ◌&&◌, ◌||◌, false≢true}
use mathlib.Core.List.{List, [], ◌∷◌}
use mathlib.Core.Logic.{◌≢◌}
use Prim.Native.Nat.{ℕ, zero, suc, ◌+◌, ◌*◌}
use native.Mathlib.Omega.{arith}
use lib.Dec.{eqb}
use lib.ListN.{length}
use borrow.Author.Tests.{eqb-true, eqb-false, ne_eqb, not-false}
use Rattle.std.specs.Prelude.{Result, Ok, Err}
use Rattle.laws.specs.First.{first_failed}
use Rattle.laws.proofs.First.{failed_from}
use Rattle.laws.proofs.Test.{or_neither}
use Rattle.sheet_size.specs.Size.{within}
use Rattle.paper.specs.Drawing.{Tables, is_drawing}
use Rattle.paper.specs.Joining.{joined}
use Rattle.paper.specs.Refusal.{ended, outcome, work_left, cleared, seven, stated, size_tests, given_tests}
use Rattle.paper.specs.Sitting.{Joinable}
use Rattle.paper.specs.Editor.{call, is_editor, owned, lent, own_tests, call_tests, reply, after, edited}
use Rattle.paper_laws.proofs.Editors.{own_numbered, own_joinable}
use Rattle.answer.specs.declared.Refusal.{Refusal}
use Rattle.answer.specs.Answer.{number_of, told}
use Rattle.answer.proofs.Outcome.{work_cleared, told_early}
use Rattle.table_lengths.specs.Given.{works}
use Rattle.check_answer.specs.Check.{checked}
use Rattle.check_answer.proofs.Given.{given_number, given_work}
use Rattle.join_answer.specs.Judge.{judged_or}
use Rattle.join_answer.proofs.Judging.{judged_none, judged_or_work}
use Rattle.join_rule.specs.Apply.{pair, Ready}
use Rattle.join_call.specs.Faithful.{Faithful}
use Rattle.join_call.proofs.Doing.{join_stops, join_ready, join_done}
use Rattle.editor_answer.specs.Asked.{asked}

-- The tests of a call, where l says that the owners are as many as the names.
tests : (p q l c d : Bool) (us : List (Bool × ℕ)) → (not p || l) ≡ true
    → first_failed ((p, 1) ∷ (l && q, 4) ∷ (c, 11) ∷ (d, 5) ∷ us)
    ≡ (let j = judged_or (first_failed ((p, 1) ∷ (q, 4) ∷ (d, 5) ∷ [])) c 11 in cond (eqb j 0) (first_failed us) j)
unfolding judged_or first_failed
tests false q l c d us e = refl
tests true q false c d us e = absurd (false≢true e)
tests true false true c d us e = refl
tests true true true false false us e = refl
tests true true true false true us e = refl
tests true true true true false us e = refl
tests true true true true true us e = refl

module _ (w h : ℕ) (o : List ℕ) (t : Tables) (e a b : ℕ) (ws : List (List ℕ)) where
  abbrev number : ℕ
  number = reply w h o t (call e a b ws)

  abbrev Promised : Result (Unit {0}) Refusal → Tables → List (List ℕ) → Type 0
  Promised r u xs =
      (told r (seven u) xs ≡ edited w h o t (call e a b ws)) × (number_of r ≡ 0 → Faithful w h t u a b)

  -- the outcome is told as that of any join
  any_join : outcome number [] (seven t) (seven (joined w h t a b)) ws ≡ edited w h o t (call e a b ws)
  unfolding edited after outcome
  any_join = by number
    where
      by : (k : ℕ) → outcome k [] (seven t) (seven (joined w h t a b)) ws
          ≡ ended k [] (seven (cond (eqb k 0) (joined w h t a b) t)) (work_left k ws)
      by zero = refl
      by (suc k) = rw (ne_eqb (suc k) 0 (λ z. omega (arith, z)))

  module _ (x : Bool) (f : x ≡ (not (within w h) || eqb (length o) (w * h + 1))) where
    -- there are not as many owners as names
    short : x ≡ false → number ≡ 4
    unfolding reply call_tests size_tests lent first_failed
    short n =
        let (p, q) = or_neither (not (within w h)) (eqb (length o) (w * h + 1)) (sym f ∙ n) in
        rw (not-false (within w h) p, q)

    pub owners_stop : x ≡ false → Promised (Err Refusal.Tables) t ws
    unfolding number_of
    owners_stop n = (
      told_early (Err Refusal.Tables) number (sym (short n)) (λ z. omega (arith, z)) (rw (short n) (omega arith)) [] (seven t)
          (seven (joined w h t a b)) ws
          ∙ any_join,
      λ z. absurd (omega (arith, z)),
    )

    -- After a check that answered v and left the work tables vs, where r is answered.
    module _ (y : x ≡ true) (vs : List (List ℕ)) (v : Result (Unit {0}) Refusal) (c : told v (seven t) vs ≡ checked w h t ws)
        (r : Result (Unit {0}) Refusal)
        (g : number_of r ≡ asked (number_of v) w h o t.side1 t.parent e a b) where
      abbrev names : List (Bool × ℕ)
      names = own_tests w h o t.side1 t.parent e a b

      -- the number once the editor is judged
      abbrev early : ℕ
      early = judged_or (first_failed (given_tests w h t ws)) (is_editor e && owned o) 11

      number_after : number ≡ cond (eqb early 0) (first_failed names) early
      unfolding reply call_tests size_tests given_tests lent
      number_after =
          tests (within w h) (stated w h t ws) (eqb (length o) (w * h + 1)) (is_editor e && owned o) (is_drawing w h t) names
          (sym f ∙ y)

      told_number : number_of r ≡ number
      unfolding asked
      told_number =
          rw (given_number w h t ws v vs c) at g ∙ sym number_after

      work : vs ≡ work_left number ws
      work =
          given_work w h t ws v vs c
          ∙ judged_or_work (first_failed (given_tests w h t ws)) (is_editor e && owned o) 11 ws (omega arith)
          ∙ rw number_after (by (eqb early 0) refl)
        where
          by : (k : Bool) → eqb early 0 ≡ k → work_left early ws ≡ work_left (cond k (first_failed names) early) ws
          by true p =
              ap (λ k. work_left k ws) (eqb-true early 0 p)
              ∙ work_cleared 0 ws (λ z. absurd (z refl))
              ∙ sym
              (work_cleared (first_failed names) ws
              (λ z. omega (arith, failed_from 6 11 names (own_numbered w h o t.side1 t.parent e a b) z)))
          by false p = refl

      joins : number ≡ 0 → (number_of v ≡ 0) × Joinable w h t a b
      joins z = by (eqb early 0) refl (sym number_after ∙ z)
        where
          by : (k : Bool) → eqb early 0 ≡ k → cond k (first_failed names) early ≡ 0 → (number_of v ≡ 0) × Joinable w h t a b
          by true p q = (
            given_number w h t ws v vs c
                ∙ judged_none (first_failed (given_tests w h t ws)) 11 (is_editor e && owned o) (λ i. omega (arith, i))
                (eqb-true early 0 p),
            own_joinable w h o t e a b q,
          )
          by false p q = absurd (eqb-false early 0 p q)

      pub asked_stops : number_of r ≢ 0 → Promised r t vs
      asked_stops n =
          let (p, q) = join_stops w h t a b ws vs v c number work joins r told_number n in
          (p ∙ any_join, q)

      -- Nothing is refused.
      module _ (z : number_of r ≡ 0) where
        pub asked_ready : Ready w h t vs a b
        asked_ready = join_ready w h t a b ws vs v c number work joins r told_number z

        pub asked_joined : (c d e f x y : List ℕ) → vs ≡ works c d e f → (u : Tables) → u ≡ joined w h t a b
            → pair x y ≡ cleared (pair c d) → Promised (Ok tt) u (works x y e f)
        asked_joined k l m n x₁ y₁ s u i j =
            let (p, q) = join_done w h t a b ws vs v c number work joins r told_number z k l m n x₁ y₁ s u i j in
            (p ∙ any_join, q)
