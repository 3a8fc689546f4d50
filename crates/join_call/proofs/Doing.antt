-- A join after a check of the drawing, by whatever tests its names have passed.
--   told r ts ws    == the outcome that the answer r tells
--   Faithful w h t u a b == what a join that is done promises of the tables t before and u after
use mathlib.Core.Path.{◌≡◌, refl, sym, ap, ◌∙◌}
use mathlib.Core.Bool.{true}
use mathlib.Core.List.{List, []}
use mathlib.Core.Logic.{◌≢◌}
use Prim.Native.Nat.{ℕ}
use Rattle.std.specs.Prelude.{Result, Ok}
use Rattle.sheet_size.specs.Size.{within}
use Rattle.paper.specs.Drawing.{Tables, Drawn}
use Rattle.paper.specs.Joining.{joined}
use Rattle.paper.specs.Refusal.{outcome, work_left, cleared, seven}
use Rattle.paper.specs.Sitting.{Joinable}
use Rattle.paper_laws.proofs.IsDrawing.{is_drawing_drawn}
use Rattle.answer.specs.declared.Refusal.{Refusal}
use Rattle.answer.specs.Answer.{number_of, told}
use Rattle.answer.proofs.Outcome.{told_refused, told_done}
use Rattle.table_lengths.specs.Given.{works}
use Rattle.check_answer.specs.Check.{checked}
use Rattle.check_answer.proofs.Given.{accepted_within, accepted_stated, accepted_is_drawing, accepted_work}
use Rattle.join_rule.specs.Apply.{pair, Ready}
use Rattle.join_rule.proofs.Readiness.{drawn_ready, rest_cleared}
use Rattle.join_call.specs.Faithful.{Faithful}
use Rattle.join_call.proofs.Afresh.{joined_faithful}
use Rattle.join_call.proofs.Cleared.{cleared_twice, cleared_stated}

-- Joining a and b in the tables t after a check that answered v and left the work tables vs: o is answered to the call, of the number
-- k, which leaves the work tables so; where it is 0 the check accepted, and the two may be joined.
module _ (w h : ℕ) (t : Tables) (a b : ℕ) (ws vs : List (List ℕ))
    (v : Result (Unit {0}) Refusal) (c : told v (seven t) vs ≡ checked w h t ws)
    (k : ℕ) (l : vs ≡ work_left k ws) (f : k ≡ 0 → (number_of v ≡ 0) × Joinable w h t a b)
    (o : Result (Unit {0}) Refusal) (e : number_of o ≡ k) where
  -- what is promised of the tables u and the work tables xs that it leaves with the answer r
  abbrev pub Promised : Result (Unit {0}) Refusal → Tables → List (List ℕ) → Type 0
  Promised r u xs =
      (told r (seven u) xs ≡ outcome k [] (seven t) (seven (joined w h t a b)) ws) × (number_of r ≡ 0 → Faithful w h t u a b)

  pub join_stops : number_of o ≢ 0 → Promised o t vs
  join_stops n = (told_refused o k e n [] (seven t) (seven (joined w h t a b)) ws vs l, λ z. absurd (n z))

  -- Nothing is refused.
  module _ (z : number_of o ≡ 0) where
    done : number_of v ≡ 0
    done = (f (sym e ∙ z)).0

    joinable : Joinable w h t a b
    joinable = (f (sym e ∙ z)).1

    size : within w h ≡ true
    size = accepted_within w h t ws v vs c done

    drawn : Drawn w h t
    drawn = is_drawing_drawn w h t (accepted_is_drawing w h t ws v vs c done)

    work : vs ≡ cleared ws
    work = accepted_work w h t ws v vs c done

    pub join_ready : Ready w h t vs a b
    join_ready =
        drawn_ready w h t vs a b size (rw (work, cleared_stated) (accepted_stated w h t ws v vs c done)) drawn joinable

    pub join_done : (c d e f x y : List ℕ) → vs ≡ works c d e f → (u : Tables) → u ≡ joined w h t a b
        → pair x y ≡ cleared (pair c d) → Promised (Ok tt) u (works x y e f)
    unfolding number_of
    join_done c d e₁ f₁ x y s u p q =
        let m : works c d e₁ f₁ ≡ cleared ws = sym s ∙ work in
        let r : works c d e₁ f₁ ≡ cleared (works c d e₁ f₁) = m ∙ sym (cleared_twice ws) ∙ ap cleared (sym m) in
        let i : works x y e₁ f₁ ≡ cleared ws = rest_cleared c d e₁ f₁ r x y q ∙ ap cleared m ∙ cleared_twice ws in (
          told_done (Ok tt) k (sym z ∙ e) refl (seven t) (seven (joined w h t a b)) ws (seven u) (works x y e₁ f₁) (ap seven p) i,
          λ y. joined_faithful w h t u a b size drawn joinable p,
        )
