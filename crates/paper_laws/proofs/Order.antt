-- Any order, same map (request T-10): what a list of joins leaves is told by the grouping of cells that it ends in.
--   joins w h i l t == where the list l stops, joined in the tables t
--   grouping s, grouped w h t == which cells are together, by the labels s, and in the drawing t
use mathlib.Core.Path.{◌≡◌, refl, sym, ap, ◌∙◌}
use mathlib.Core.Bool.{Bool, true, ◌||◌}
use mathlib.Core.List.{List, [], ◌∷◌}
use mathlib.Core.Logic.{◌↔◌}
use Prim.Native.Nat.{ℕ, zero, suc, ◌≤◌}
use lib.Dec.{eqb, lit<}
use borrow.Author.Tests.{eqb-true, eqb-false, eq-eqb, not-true}
use Rattle.laws.specs.First.{first_failed, numbered}
use Rattle.laws.proofs.First.{all_passed}
use Rattle.laws.proofs.Test.{and_left, and_right, or_neither}
use Rattle.point_darts.specs.Dart.{mark, slots}
use Rattle.paper.specs.Name.{names}
use Rattle.paper.specs.Drawing.{Tables, drawn, drawing, Drawn, recovered}
use Rattle.paper.specs.Joining.{joined}
use Rattle.paper.specs.Refusal.{used, name_tests, pair_tests}
use Rattle.paper.specs.Sitting.{Joinable, Sitting, done, then}
use Rattle.paper.specs.Order.{Stop, unless, joins, grouping, grouped, Alike}
use Rattle.paper_laws.proofs.Name.{beside_below, names_agree, names_names}
use Rattle.paper_laws.proofs.IsDrawing.{recovered_drawn}
use Rattle.paper_laws.proofs.Theorem.{sitting_drawn}

same_tests : (x y u v : ℕ) → eqb x y ≡ eqb u v → (x ≡ y) ↔ (u ≡ v)
same_tests x y u v e = (λ p. eqb-true u v (sym e ∙ eq-eqb x y p), λ p. eqb-true x y (e ∙ eq-eqb u v p))

module _ (w h : ℕ) where
  pub pair_numbered : (s p : List ℕ) (a b : ℕ) → numbered 6 10 (pair_tests w h s p a b) ≡ true
  unfolding numbered name_tests
  pair_numbered s p a b = refl

  -- two names that pass every test may be joined
  pub passed_joinable : (t : Tables) (a b : ℕ) → first_failed (pair_tests w h t.side1 t.parent a b) ≡ 0 → Joinable w h t a b
  unfolding name_tests
  passed_joinable t a b e =
      let p = all_passed 6 10 (lit< tt) (pair_tests w h t.side1 t.parent a b) (pair_numbered t.side1 t.parent a b) e in
      let (x, y) = or_neither (eqb a 0) (eqb b 0) (not-true (eqb a 0 || eqb b 0) p.0) in
      let u : Bool = used t.parent a in
      let v : Bool = used t.parent b in
      record {
        inner = (eqb-false a 0 x, eqb-false b 0 y);
        apart = eqb-false a b (not-true (eqb a b) p.1.0);
        regions = (and_left u v p.1.1.0, and_right u v p.1.1.0);
        neighbours = p.1.1.1.0;
      }

  -- what a list leaves, joins one after another lead to, refused or not
  unless_sitting : (t : Tables) (a b i k : ℕ) (s : Stop) → first_failed (pair_tests w h t.side1 t.parent a b) ≡ k
      → Sitting w h (joined w h t a b) s.tables → Sitting w h t (unless k i t s).tables
  unfolding unless
  unless_sitting t a b i zero s e z = then a b (passed_joinable t a b e) z
  unless_sitting t a b i (suc k) s e z = done

  pub joins_sitting : (l : List (ℕ × ℕ)) (i : ℕ) (t : Tables) → Sitting w h t (joins w h i l t).tables
  unfolding joins
  joins_sitting [] i t = done
  joins_sitting (e ∷ l) i t =
      unless_sitting t e.0 e.1 i (first_failed (pair_tests w h t.side1 t.parent e.0 e.1))
      (joins w h (suc i) l (joined w h t e.0 e.1)) refl (joins_sitting l (suc i) (joined w h t e.0 e.1))

module _ (w h : ℕ) (room : slots w h ≤ mark) where
  -- A drawing is the drawing of every sheet whose labels make its grouping.
  pub grouping_drawing : {t : Tables} → Drawn w h t → (s : List ℕ) → Alike w h (grouping s) (grouped w h t) → t ≡ drawing w h s
  unfolding grouped grouping drawing
  grouping_drawing {t} d s e =
      let r = d.labels in
      let told = recovered_drawn w h room t d in
      let agree : names w h s ≡ names w h (names w h r) =
      names_agree w h s (names w h r)
      (λ i j b. let (x, y) = beside_below w h i j b in same_tests _ _ _ _ (rw told at (e i j x y))) in
      sym d.same ∙ ap (drawn w h) (sym (agree ∙ names_names w h r))

  -- The theorem. Two lists of joins from one drawing that end in the same grouping of cells leave equal tables, all seven, and
  -- they equal the drawing of every sheet whose labels make that grouping. A list that is refused midway ends there.
  pub any_order : (t : Tables) → Drawn w h t → (k l : List (ℕ × ℕ))
      → let u = (joins w h 0 k t).tables in
      let v = (joins w h 0 l t).tables in
      Alike w h (grouped w h u) (grouped w h v)
      → (u ≡ v) × ((s : List ℕ) → Alike w h (grouping s) (grouped w h u) → u ≡ drawing w h s)
  unfolding grouped
  any_order t d k l e =
      let du = sitting_drawn w h room d (joins_sitting w h k 0 t) in
      let dv = sitting_drawn w h room d (joins_sitting w h l 0 t) in
      let s = recovered w h (joins w h 0 l t).tables.side1 in (
        grouping_drawing du s (λ i j x y. sym (e i j x y)) ∙ sym (grouping_drawing dv s (λ i j x y. refl)),
        grouping_drawing du,
      )
