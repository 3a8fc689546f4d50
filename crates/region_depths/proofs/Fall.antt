-- The parents of a drawing fall: each is a smaller name, the outside or a name in use.
--   Falls t         == that of a table t of parents
--   parentage w h n == the table of parents of the sheet whose cells have the names n
--   Used w h n r    == the name r is borne by its own cell
use mathlib.Core.Path.{◌≡◌, refl, ap}
use mathlib.Core.Bool.{Bool, true, false, not, ◌||◌}
use mathlib.Core.List.{List}
use mathlib.Core.Logic.{◌≢◌, ⊎_elim}
use Prim.Native.Nat.{ℕ, zero, suc, ◌*◌, ◌≤◌, ◌<◌}
use native.Mathlib.Decide.{dec_lt}
use native.Mathlib.Omega.{arith}
use lib.Dec.{eqb}
use borrow.Author.Tests.{eq-eqb, ne_eqb}
use Rattle.laws.proofs.Test.{clash}
use Rattle.sheet_size.specs.Size.{within}
use Rattle.point_darts.specs.Dart.{mark, slots}
use Rattle.paper.specs.Name.{names}
use Rattle.paper.specs.Level.{side, border}
use Rattle.paper.specs.Drawing.{Tables, drawn, drawing, is_drawing}
use Rattle.paper.specs.Joining.{at, on}
use Rattle.paper_laws.proofs.Marks.{within_fits}
use Rattle.paper_laws.proofs.Enclosure.{Used, parentage, parents_outside, parents_past, parents_used, parents_below}
use Rattle.paper_laws.proofs.Enclosure.{parents_named, used_parent}
use Rattle.paper_laws.proofs.IsDrawing.{is_drawing_drawn}
use Rattle.region_depths.specs.Tree.{known, Falls}

-- an entry that is on is not the mark
on_entry : (t : List ℕ) (r : ℕ) → on t r ≡ true → at t r ≢ mark
unfolding on
on_entry t r e m = clash e (ap not (eq-eqb (at t r) mark m))

entry_known : (t : List ℕ) (r : ℕ) → at t r ≢ mark → known t r ≡ true
unfolding known on
entry_known t r m = rw (ne_eqb (at t r) mark m) (or_true (eqb r 0))
  where
    or_true : (b : Bool) → (b || true) ≡ true
    or_true true = refl
    or_true false = refl

outside_known : (t : List ℕ) (r : ℕ) → r ≡ 0 → known t r ≡ true
unfolding known
outside_known t r e = rw e

module _ (w h : ℕ) (s : List ℕ) (fits : slots w h ≤ mark) where
  abbrev p : List ℕ
  p = parentage w h (names w h s)

  -- a name in use is the name of a cell that is its own
  own : (r : ℕ) → at p r ≢ mark → Used w h (names w h s) r
  unfolding at
  own zero m = absurd (m (parents_outside w h (border w h (names w h s)) (side w h (names w h s))))
  own (suc i) m = go (dec_lt i (w * h))
    where
      go : Dec (i < w * h) → Used w h (names w h s) (suc i)
      go (yes b) = record { cell = i; bears = refl; below = b; own = (parents_used w h s i b fits).0 m }
      go (no b) =
          absurd (m (parents_past w h (border w h (names w h s)) (side w h (names w h s)) (suc i) (omega arith)))

  pub parentage_falls : Falls p
  unfolding at
  parentage_falls =
      record {
        down = λ r e. let u = own r (on_entry p r e) in rw u.bears (parents_below w h s u.cell u.below u.own);
        held = λ r e.
            let u = own r (on_entry p r e) in
            rw u.bears
            (⊎_elim (λ q. outside_known p _ q) (λ v. entry_known p _ (used_parent w h s fits _ v))
            (parents_named w h s u.cell u.below u.own));
      }

-- A drawing has such parents, as many as the cells and one more.
module _ (w h : ℕ) (t : Tables) (e : within w h ≡ true) (j : is_drawing w h t ≡ true) where
  pub is_drawing_falls : Falls t.parent
  unfolding drawing drawn
  is_drawing_falls =
      let d = is_drawing_drawn w h t j in
      rw (← ap (λ (u : Tables). u.parent) d.same) (parentage_falls w h d.labels (within_fits w h e))
