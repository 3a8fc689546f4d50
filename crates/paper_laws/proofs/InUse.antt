-- The cells of a drawing tell which names are in use, as its parents do.
--   used t r        == the table t has an entry for the name r
use mathlib.Core.Path.{◌≡◌, refl, sym, ◌∙◌}
use mathlib.Core.Bool.{Bool, true, false}
use mathlib.Core.List.{List}
use mathlib.Core.Logic.{◌≢◌}
use Prim.Native.Nat.{ℕ, zero, suc, ◌+◌, ◌-◌, ◌*◌, ◌≤◌, ◌<◌}
use native.Mathlib.Decide.{ℕ_discrete, dec_lt}
use native.Mathlib.Omega.{arith}
use lib.Dec.{eqb}
use lib.ListN.{get_or}
use borrow.Author.Tests.{eqb-true, eqb-false, eq-eqb, ne_eqb}
use Rattle.laws.specs.First.{first_failed}
use Rattle.laws.proofs.Table.{get_or_table_past}
use Rattle.laws.proofs.Count.{count_some, count_nothing}
use Rattle.point_darts.specs.Dart.{mark, slots}
use Rattle.paper.specs.Name.{label, names}
use Rattle.paper.specs.Level.{side, border}
use Rattle.paper.specs.Total.{cells_of, total, totals}
use Rattle.paper.specs.Drawing.{Tables, drawn, drawing, Drawn}
use Rattle.paper.specs.Joining.{at, on}
use Rattle.paper.specs.Refusal.{used, name_tests, pair_tests}
use Rattle.paper_laws.proofs.Name.{name_own}
use Rattle.paper_laws.proofs.Marks.{cells_slots}
use Rattle.paper_laws.proofs.Added.{cells_most, total_used, total_unused, at_totals}
use Rattle.paper_laws.proofs.Enclosure.{parents_past, parents_other, parents_used}

on_held : (t : List ℕ) (r : ℕ) → at t r ≢ mark → used t r ≡ true
unfolding used on
on_held t r e = rw (ne_eqb (at t r) mark e)

on_free : (t : List ℕ) (r : ℕ) → at t r ≡ mark → used t r ≡ false
unfolding used on
on_free t r e = rw (eq-eqb (at t r) mark e)

module _ (w h : ℕ) (room : slots w h ≤ mark) (s : List ℕ) (i : ℕ) where
  abbrev n : List ℕ
  n = names w h s

  abbrev c : ℕ → ℕ
  c = cells_of w h n

  -- a cell bears its own name, or none does
  borne : i < w * h → get_or n i 0 ≡ suc i → c (suc i) ≢ 0
  unfolding cells_of label
  borne l e = count_some (λ k. eqb (label n k) (suc i)) (w * h) i l (eq-eqb (label n i) (suc i) e)

  bare : get_or n i 0 ≢ suc i → c (suc i) ≡ 0
  unfolding cells_of label
  bare e = count_nothing (λ k. eqb (label n k) (suc i)) (w * h) (λ k l. no k l (eqb (label n k) (suc i)) refl)
    where
      no : (k : ℕ) → k < w * h → (b : Bool) → eqb (get_or n k 0) (suc i) ≡ b → b ≡ false
      no k l false q = refl
      no k l true q =
          let p = eqb-true (get_or n k 0) (suc i) q in
          let z : suc i - 1 ≡ i = omega arith in
          absurd (e (rw (p, z) at (name_own w h s k l)))

  inside : i < w * h → Dec (get_or n i 0 ≡ suc i) → used (drawing w h s).cells (suc i) ≡ used (drawing w h s).parent (suc i)
  unfolding drawing drawn at
  inside l (yes e) =
      let z = at_totals w h c c (suc i) l ∙ total_used c c (suc i) (borne l e) in
      on_held (drawing w h s).cells (suc i) (λ q. omega (arith, z, q, cells_most w h n (suc i), cells_slots w h, room))
      ∙ sym (on_held (drawing w h s).parent (suc i) ((parents_used w h s i l room).1 e))
  inside l (no e) =
      on_free (drawing w h s).cells (suc i) (at_totals w h c c (suc i) l ∙ total_unused c c (suc i) (λ z. omega (arith, z)) (bare e))
      ∙ sym (on_free (drawing w h s).parent (suc i) (parents_other w h s i l e))

  pub used_name : Dec (i < w * h) → used (drawing w h s).cells (suc i) ≡ used (drawing w h s).parent (suc i)
  unfolding drawing drawn totals at
  used_name (yes l) = inside l (ℕ_discrete (get_or n i 0) (suc i))
  used_name (no l) =
      on_free (drawing w h s).cells (suc i) (get_or_table_past (w * h + 1) (total c c) (suc i) mark (omega arith))
      ∙ sym (on_free (drawing w h s).parent (suc i) (parents_past w h (border w h n) (side w h n) (suc i) (omega arith)))

module _ (w h : ℕ) (room : slots w h ≤ mark) (t : Tables) (d : Drawn w h t) where
  pub used_cells : (r : ℕ) → r ≢ 0 → used t.cells r ≡ used t.parent r
  used_cells zero z = absurd (z refl)
  used_cells (suc i) z = rw (← d.same) (used_name w h room d.labels i (dec_lt i (w * h)))

  -- so two names are judged by either
  pub pair_cells : (a b : ℕ)
      → first_failed (pair_tests w h t.side1 t.cells a b) ≡ first_failed (pair_tests w h t.side1 t.parent a b)
  unfolding first_failed name_tests
  pair_cells a b = by (eqb a 0) refl (eqb b 0) refl
    where
      by : (p : Bool) → eqb a 0 ≡ p → (q : Bool) → eqb b 0 ≡ q
          → first_failed (pair_tests w h t.side1 t.cells a b) ≡ first_failed (pair_tests w h t.side1 t.parent a b)
      by true e q f = rw e
      by false e true f = rw (e, f)
      by false e false f = rw (used_cells a (eqb-false a 0 e), used_cells b (eqb-false b 0 f))
