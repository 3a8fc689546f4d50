-- What the whole drawing answers tells its outcome.
--   draw_tests ..    == the tests of the whole drawing, in the paper's order
--   mapped ..       == its outcome
--   told r ts ws    == the outcome that the answer r tells
use mathlib.Core.Path.{◌≡◌, refl, sym, ap, ◌∙◌}
use mathlib.Core.Bool.{Bool, true}
use mathlib.Core.List.{List, [], ◌∷◌, ◌++◌, map}
use mathlib.Core.Logic.{◌≢◌}
use Prim.Native.Nat.{ℕ, ◌*◌}
use lib.Dec.{lit<}
use lib.ListN.{length}
use borrow.Author.Tests.{eqb-true}
use Rattle.std.specs.Prelude.{Result}
use Rattle.laws.specs.First.{first_failed, numbered}
use Rattle.laws.proofs.First.{all_passed, failed_below}
use Rattle.sheet_size.specs.Size.{within}
use Rattle.point_darts.specs.Dart.{slots}
use Rattle.paper.specs.Drawing.{Tables, drawing}
use Rattle.paper.specs.Refusal.{cleared, seven, stated, draw_tests, draw_refusal, mapped}
use Rattle.answer.specs.declared.Refusal.{Refusal}
use Rattle.answer.specs.Answer.{number_of, told}
use Rattle.answer.proofs.Outcome.{told_early, told_done}
use Rattle.table_lengths.specs.Lengths.{lengths}
use Rattle.table_lengths.proofs.Tested.{Each, each_dart, by_name, by_dart, stated_lengths}

pub draw_numbered : (w h n : ℕ) (k : Bool) → numbered 1 5 (draw_tests w h n k) ≡ true
unfolding numbered draw_tests
draw_numbered w h n k = refl

-- What fits where nothing is refused: the size, the sheet, all tables and those by dart.
pub record Fitting (w h n : ℕ) (ns ds : List ℕ) : Type 0 where
  pub size : within w h ≡ true
  pub sheet : n ≡ w * h
  pub lent : lengths w h ns ds ≡ true
  pub darts : Each (slots w h) ds

pub all_fit : (w h n : ℕ) (ns ds : List ℕ) → 0 ≡ first_failed (draw_tests w h n (lengths w h ns ds)) → Fitting w h n ns ds
unfolding draw_tests
all_fit w h n ns ds e =
    let p = all_passed 1 5 (lit< tt) (draw_tests w h n (lengths w h ns ds)) (draw_numbered w h n (lengths w h ns ds)) (sym e) in
    record {
      size = p.0;
      sheet = eqb-true n (w * h) p.1.0;
      lent = p.1.1.0;
      darts = each_dart w h ns ds p.1.1.0;
    }

-- Such tables are the stated ones, also when two work tables, of the lengths m and n, have been written since.
pub stated_still : (w h : ℕ) (t : Tables) (a b : List ℕ) (ws : List (List ℕ)) (m n : ℕ)
    → lengths w h (map length (by_name w h t ws)) (map length (by_dart w h t []) ++ m ∷ n ∷ map length ws) ≡ true
    → length a ≡ m → length b ≡ n → stated w h t (a ∷ b ∷ ws) ≡ true
stated_still w h t a b ws m n e p q = sym (stated_lengths w h t (a ∷ b ∷ ws)) ∙ rw (p, q) e

-- A sheet and tables of which this is answered.
module _ (w h : ℕ) (i : List ℕ) (t : Tables) (ws : List (List ℕ)) (r : Result (Unit {0}) Refusal)
    (e : number_of r
    ≡ first_failed (draw_tests w h (length i) (lengths w h (map length (by_name w h t ws)) (map length (by_dart w h t ws))))) where
  number : number_of r ≡ draw_refusal w h i t ws
  unfolding draw_refusal
  number = e ∙ ap (λ k. first_failed (draw_tests w h (length i) k)) (stated_lengths w h t ws)

  pub refused : number_of r ≢ 0 → told r (seven t) ws ≡ mapped w h i t ws
  unfolding mapped draw_refusal
  refused n =
      let k : Bool = stated w h t ws in
      told_early r (draw_refusal w h i t ws) number n
      (failed_below 1 5 (draw_tests w h (length i) k) (lit< tt) (draw_numbered w h (length i) k)) [] (seven t) (seven (drawing w h i)) ws

  -- the drawing is that of a size a by b, which is this one
  pub done : number_of r ≡ 0 → (a b : ℕ) → (a ≡ w) × (b ≡ h) → (u : Tables) (vs : List (List ℕ)) → u ≡ drawing a b i
      → vs ≡ cleared ws → told r (seven u) vs ≡ mapped w h i t ws
  unfolding mapped
  done z a b s u vs p =
      told_done r (draw_refusal w h i t ws) number z (seven t) (seven (drawing w h i)) ws (seven u) vs
      (ap seven (p ∙ λ j. drawing (s.0 j) (s.1 j) i))
