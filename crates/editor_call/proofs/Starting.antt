-- The outcomes of starting.
--   started w h s o t ws == the outcome of starting the sheet s with the owners o in the tables t
--   start_tests ..   == its tests
use mathlib.Core.Path.{◌≡◌, refl, sym, ap, ◌∙◌}
use mathlib.Core.Bool.{Bool, true, false, ◌&&◌}
use mathlib.Core.List.{List, [], ◌∷◌, ◌++◌, map}
use mathlib.Core.Logic.{◌≢◌}
use Prim.Native.Nat.{ℕ, ◌+◌, ◌*◌, ◌≤◌, ◌<◌}
use native.Mathlib.Omega.{arith}
use lib.Dec.{eqb, lit<}
use lib.ListN.{length}
use Rattle.std.specs.Prelude.{Result}
use Rattle.laws.specs.Every.{every}
use Rattle.laws.specs.First.{first_failed, numbered}
use Rattle.laws.proofs.First.{Passed, all_passed, none_left, failed_here, failed_later, passed_append, stopped_append}
use Rattle.laws.proofs.Test.{and_right}
use Rattle.point_darts.specs.Dart.{slots}
use Rattle.paper.specs.Drawing.{Tables, drawing}
use Rattle.paper.specs.Refusal.{outcome, cleared, seven, stated, draw_tests, draw_refusal, mapped}
use Rattle.paper.specs.Editor.{owned, lent, start_tests, started}
use Rattle.answer.specs.declared.Refusal.{Refusal}
use Rattle.answer.specs.Answer.{number_of, told}
use Rattle.answer.proofs.Outcome.{work_cleared, told_refused, told_early}
use Rattle.table_lengths.specs.Lengths.{all_are, lengths}
use Rattle.table_lengths.proofs.Tested.{by_name, by_dart, stated_lengths}
use Rattle.drawing.proofs.Refusing.{draw_numbered}

-- The owners, after what the whole drawing answers, k.
module _ (w h n : ℕ) (l : Bool) (o : List ℕ) where
  abbrev last : List (Bool × ℕ)
  last = (owned o, 11) ∷ []

  pub start_refused : (k : ℕ) → k ≡ first_failed (draw_tests w h n l) → k ≢ 0 → k ≡ first_failed (draw_tests w h n l ++ last)
  start_refused k e z =
      e ∙ sym (stopped_append 1 5 (lit< tt) (draw_tests w h n l) last (draw_numbered w h n l) (λ q. z (e ∙ q)))

  module _ (e : 0 ≡ first_failed (draw_tests w h n l)) where
    goes_on : first_failed (draw_tests w h n l ++ last) ≡ first_failed last
    goes_on = passed_append 1 5 (lit< tt) (draw_tests w h n l) last (draw_numbered w h n l) (sym e)

    pub start_unowned : false ≡ owned o → 11 ≡ first_failed (draw_tests w h n l ++ last)
    start_unowned i = sym (goes_on ∙ failed_here _ 11 [] (sym i))

    pub start_owned : true ≡ owned o → 0 ≡ first_failed (draw_tests w h n l ++ last)
    start_owned i = sym (goes_on ∙ failed_later _ 11 [] (sym i) ∙ none_left)

and_later : (a b c : Bool) → ((a && b) && c) ≡ (a && (b && c))
and_later true b c = refl
and_later false b c = refl

-- Starting the sheet s with the owners o in the tables t, where r is answered to all that is lent.
module _ (w h : ℕ) (s o : List ℕ) (t : Tables) (ws : List (List ℕ)) where
  abbrev given : Bool
  given = lengths w h (length o ∷ map length (by_name w h t ws)) (map length (by_dart w h t ws))

  abbrev number : ℕ
  number = first_failed (start_tests w h (length s) o t ws)

  given_lent : given ≡ lent w h o t ws
  unfolding lengths all_are every lent
  given_lent =
      and_later (eqb (length o) (w * h + 1)) (all_are (w * h + 1) (map length (by_name w h t ws)))
      (all_are (slots w h) (map length (by_dart w h t ws)))
      ∙ ap (λ k. eqb (length o) (w * h + 1) && k) (stated_lengths w h t ws)

  tests_numbered : numbered 1 12 (start_tests w h (length s) o t ws) ≡ true
  unfolding numbered start_tests draw_tests
  tests_numbered = refl

  draw_passed : Passed (start_tests w h (length s) o t ws) → draw_refusal w h s t ws ≡ 0
  unfolding start_tests draw_tests draw_refusal lent first_failed
  draw_passed p = rw (p.0, p.1.0, and_right (eqb (length o) (w * h + 1)) (stated w h t ws) p.1.1.0)

  module _ (r : Result (Unit {0}) Refusal) (e : number_of r ≡ first_failed (draw_tests w h (length s) given ++ (owned o, 11) ∷ [])) where
    told_number : number_of r ≡ number
    unfolding start_tests
    told_number = e ∙ ap (λ k. first_failed (draw_tests w h (length s) k ++ (owned o, 11) ∷ [])) given_lent

    -- nothing is refused: it is drawn
    pub start_drawn : number_of r ≡ 0 → (q : Result (Unit {0}) Refusal) (u : Tables) (vs : List (List ℕ))
        → told q (seven u) vs ≡ mapped w h s t ws → told q (seven u) vs ≡ started w h s o t ws
    unfolding mapped started
    start_drawn z q u vs f =
        f ∙ ap (λ k. outcome k [] (seven t) (seven (drawing w h s)) ws) (plain ∙ sym z ∙ told_number)
      where
        passed : Passed (start_tests w h (length s) o t ws)
        passed = all_passed 1 12 (lit< tt) (start_tests w h (length s) o t ws) tests_numbered (sym told_number ∙ z)

        plain : draw_refusal w h s t ws ≡ 0
        plain = draw_passed passed

    -- the owners are refused: the work tables are cleared
    pub start_cleared : number_of r ≢ 0 → (m : ℕ) → m ≡ number_of r → 4 < m → (xs : List (List ℕ)) → xs ≡ cleared ws
        → told r (seven t) xs ≡ started w h s o t ws
    unfolding started
    start_cleared n m i l xs f =
        told_refused r number told_number n [] (seven t) (seven (drawing w h s)) ws xs
        (f ∙ sym (work_cleared number ws (λ z. omega (arith, l, i, told_number))))

    -- something before is refused
    pub start_left : number_of r ≢ 0 → (m : ℕ) → m ≡ number_of r → m ≤ 4 → told r (seven t) ws ≡ started w h s o t ws
    unfolding started
    start_left n m i l = told_early r number told_number n (omega (arith, l, i, told_number)) [] (seven t) (seven (drawing w h s)) ws
