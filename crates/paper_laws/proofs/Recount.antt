-- A full recount: the totals of a drawing are those counted again from its own table of sides.
use mathlib.Core.Path.{◌≡◌, refl, sym}
use mathlib.Core.Bool.{Bool, true, false, ◌&&◌}
use mathlib.Core.List.{List}
use mathlib.Core.Logic.{◌≢◌}
use Prim.Native.Nat.{ℕ, ◌+◌, ◌*◌, ◌≤◌}
use native.Mathlib.Omega.{arith}
use lib.Dec.{eqb}
use borrow.Author.Tests.{ne_eqb}
use Rattle.laws.specs.Table.{count}
use Rattle.laws.proofs.Table.{table_agree, count_agree}
use Rattle.point_darts.specs.Dart.{mark, slots}
use Rattle.paper.specs.Name.{names}
use Rattle.paper.specs.Level.{side, border, plain, level}
use Rattle.paper.specs.Total.{cells_of, borders_of, total, totals}
use Rattle.paper.specs.Drawing.{Tables, Drawn, drawn, drawing}
use Rattle.paper.specs.Joining.{at}
use Rattle.paper.specs.Sitting.{Recounted}
use Rattle.paper_laws.proofs.Sheet.{border_below}
use Rattle.paper_laws.proofs.Marks.{at_free, cells_slots}
use Rattle.paper_laws.proofs.Drawn.{drawn_side1}
use Rattle.paper_laws.proofs.Added.{total_same}
use Rattle.paper_laws.proofs.IsDrawing.{recovered_names}

module _ (w h : ℕ) (n : List ℕ) where
  -- a dart has a side in the table exactly where it is a line with that side
  unsided : (d : ℕ) → border w h n d ≡ false → at (drawn w h n).side1 d ≡ mark
  unfolding drawn level plain
  unsided d e = at_free w h (border w h n) (side w h n) (border_below w h n) d e

  side_here : (r : ℕ) → r ≢ mark → (d : ℕ) → (border w h n d && eqb (side w h n d) r) ≡ eqb (at (drawn w h n).side1 d) r
  side_here r z d = go (border w h n d) refl
    where
      go : (b : Bool) → border w h n d ≡ b → (b && eqb (side w h n d) r) ≡ eqb (at (drawn w h n).side1 d) r
      go true e = rw (drawn_side1 w h n d e)
      go false e = rw (unsided d e) (sym (ne_eqb mark r (λ q. z (sym q))))

  abbrev sided : ℕ → ℕ
  sided r = count (slots w h) (λ d. eqb (at (drawn w h n).side1 d) r)

  sided_borders : (r : ℕ) → r ≢ mark → borders_of w h n r ≡ sided r
  unfolding borders_of
  sided_borders r z =
      count_agree (λ d. border w h n d && eqb (side w h n d) r) (λ d. eqb (at (drawn w h n).side1 d) r) (slots w h)
      (λ d l. side_here r z d)

  borders_again : slots w h ≤ mark → totals w h (cells_of w h n) (borders_of w h n) ≡ totals w h (cells_of w h n) sided
  unfolding totals
  borders_again room =
      table_agree (w * h + 1) (total (cells_of w h n) (borders_of w h n)) (total (cells_of w h n) sided)
      (λ r l. total_same (cells_of w h n) (borders_of w h n) (cells_of w h n) sided r refl
      (sided_borders r (λ e. omega (arith, cells_slots w h))))

module _ (w h : ℕ) (room : slots w h ≤ mark) where
  drawing_recounted : (s : List ℕ) → Recounted w h (drawing w h s)
  unfolding drawing drawn
  drawing_recounted s =
      record {
        cells = rw (recovered_names w h s room);
        borders = rw (recovered_names w h s room) (borders_again w h (names w h s) room);
      }

  pub drawn_recounted : (t : Tables) → Drawn w h t → Recounted w h t
  drawn_recounted t d = rw (← d.same) (drawing_recounted d.labels)
