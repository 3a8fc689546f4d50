-- The theorem: joining by the removal rule, which reads only the map, leaves every table equal to the drawing afresh.
use mathlib.Core.Path.{◌≡◌, sym, ◌∙◌, ap}
use mathlib.Core.Bool.{true}
use mathlib.Core.List.{List, map}
use Prim.Native.Nat.{ℕ, ◌*◌, ◌≤◌}
use lib.ListN.{length-map}
use Rattle.laws.specs.Least.{lower}
use Rattle.point_darts.specs.Dart.{mark, slots}
use Rattle.paper.specs.Name.{names}
use Rattle.paper.specs.Drawing.{Tables, drawing, fresh, Drawn}
use Rattle.paper.specs.Joining.{on, joined}
use Rattle.paper.specs.Sitting.{Joinable, Sitting, done, then, Recounted, Untouched, Keeps}
use Rattle.paper.specs.Total.{summed}
use Rattle.paper_laws.proofs.Name.{length_names}
use Rattle.paper_laws.proofs.Neighbour.{fresh_joined}
use Rattle.paper_laws.proofs.Untouched.{keeps_joined}
use Rattle.paper_laws.proofs.CellSum.{drawn_sum}
use Rattle.paper_laws.proofs.Recount.{drawn_recounted}

module _ (w h : ℕ) (room : slots w h ≤ mark) where
  -- The removal rule's seven tables equal those of the fresh drawing.
  pub removal_is_fresh : (s : List ℕ) (a b : ℕ) → Joinable w h (drawing w h s) a b
      → joined w h (drawing w h s) a b ≡ fresh w h s a b
  removal_is_fresh s = fresh_joined w h s room

  -- They are a drawing again.
  pub joined_again : {t : Tables} {a b : ℕ} → Drawn w h t → Joinable w h t a b → Drawn w h (joined w h t a b)
  unfolding fresh
  joined_again {t} {a} {b} d j =
      let s = d.labels in
      record {
        labels = map (lower a b) (names w h s);
        sized = length-map (names w h s) (lower a b) ∙ length_names w h s;
        same = sym (removal_is_fresh s a b (rw d.same j)) ∙ ap (λ u. joined w h u a b) d.same;
      }

  -- So is what any list of joins leads to.
  pub sitting_drawn : {t u : Tables} → Drawn w h t → Sitting w h t u → Drawn w h u
  sitting_drawn d done = d
  sitting_drawn d (then a b j s) = sitting_drawn (joined_again d j) s

  -- Its totals are those that a full recount finds, and the cells of all regions are those of the sheet.
  pub sitting_recounted : {t u : Tables} → Drawn w h t → Sitting w h t u → Recounted w h u
  sitting_recounted d s = drawn_recounted w h room _ (sitting_drawn d s)

  pub sitting_sum : {t u : Tables} → Drawn w h t → Sitting w h t u → summed u.cells ≡ w * h
  sitting_sum d s = drawn_sum w h room _ (sitting_drawn d s)

  -- A curve neither of whose ends touches a removed curve keeps its links.
  pub untouched : (s : List ℕ) (a b : ℕ) → Joinable w h (drawing w h s) a b → (d : ℕ)
      → on (drawing w h s).next3 d ≡ true → Untouched (drawing w h s) a b d
      → Keeps (drawing w h s) (joined w h (drawing w h s) a b) d
  untouched s a b = keeps_joined w h s room a b
