-- In a drawing the pieces that a region lies round are its holes.
--   round_at s t p   == the region round the piece of which p is the least point, the mark where it is the least of none
--   piece_in w h n r p == p is the least point of a piece that the region r lies round, by the names n
--   pieces s t r    == how many pieces the region r lies round, by the sides s and the tops t
--   holes w h on p r == how many different pieces are the outer pieces of the regions whose parent is r
use mathlib.Core.Path.{◌≡◌, refl, sym, ◌∙◌}
use mathlib.Core.Bool.{Bool, true, false, cond, ◌&&◌}
use mathlib.Core.List.{List}
use Prim.Native.Nat.{ℕ, ◌+◌, ◌≤◌, ◌<◌}
use native.Mathlib.Omega.{arith}
use lib.Dec.{eqb}
use borrow.Author.Tests.{ne_eqb}
use Rattle.laws.proofs.Test.{same_test}
use Rattle.laws.proofs.Table.{count_agree}
use Rattle.sheet_size.specs.Size.{within}
use Rattle.point_darts.specs.Dart.{mark, points, slots, dart, reversal}
use Rattle.point_darts.proofs.Darts.{east_back, west_back}
use Rattle.paper.specs.Name.{names}
use Rattle.paper.specs.Level.{side, border, plain, tops, level, marked}
use Rattle.paper.specs.Enclosure.{holes}
use Rattle.paper.specs.Drawing.{Tables, drawn, drawing, is_drawing}
use Rattle.paper.specs.Joining.{at, on}
use Rattle.paper_laws.proofs.Sheet.{border_back, border_below}
use Rattle.paper_laws.proofs.Piece.{length_tops}
use Rattle.paper_laws.proofs.Kept.{top}
use Rattle.paper_laws.proofs.Marks.{within_fits, at_marked}
use Rattle.paper_laws.proofs.Drawn.{sides_on}
use Rattle.paper_laws.proofs.Enclosure.{parentage}
use Rattle.paper_laws.proofs.IsDrawing.{is_drawing_drawn}
use Rattle.paper_laws.proofs.Hole.{piece_in, holes_pieces}
use Rattle.count_holes.specs.Round.{round_at, pieces}

module _ (w h : ℕ) (s : List ℕ) (small : slots w h ≤ mark) where
  abbrev n : List ℕ
  n = names w h s

  abbrev sides : List ℕ
  sides = marked w h (border w h n) (side w h n)

  -- a line has both its darts
  both_on : (p : ℕ) → border w h n (dart p 0) ≡ border w h n (dart (p + 1) 2)
  both_on p =
      same_test (border w h n (dart p 0)) (border w h n (dart (p + 1) 2))
      (λ e. rw (east_back w p) at (border_back w h n (dart p 0) e))
      (λ e. rw (west_back w p) at (border_back w h n (dart (p + 1) 2) e))

  module _ (r : ℕ) (b : r < mark) (p : ℕ) where
    mark_not : eqb mark r ≡ false
    mark_not = ne_eqb mark r (λ e. omega arith)

    -- where p is its own top, the line east of it decides
    by_line : (k : Bool) → border w h n (dart (p + 1) 2) ≡ k
        → eqb (cond k (side w h n (dart (p + 1) 2)) mark) r ≡ (k && eqb (side w h n (dart (p + 1) 2)) r)
    by_line true e = refl
    by_line false e = mark_not

    by_top : (o : Bool)
        → eqb (cond o (at sides (dart (p + 1) 2)) mark) r
        ≡ ((o && border w h n (dart p 0)) && eqb (side w h n (reversal w (dart p 0))) r)
    by_top true =
        rw (at_marked w h (border w h n) (side w h n) (border_below w h n) (dart (p + 1) 2), both_on p, east_back w p)
        (by_line (border w h n (dart (p + 1) 2)) refl)
    by_top false = mark_not

    round_piece : eqb (round_at sides (tops w h (border w h n)) p) r ≡ piece_in w h n r p
    unfolding round_at
    round_piece = by_top (eqb (top w h (border w h n) p) p)

  drawn_holes : (r : ℕ) → r < mark
      → pieces sides (tops w h (on sides)) r ≡ holes w h (on sides) (parentage w h n) r
  unfolding pieces
  drawn_holes r b =
      rw (sides_on w h s small, length_tops w h (border w h n))
      (count_agree (λ p. eqb (round_at sides (tops w h (border w h n)) p) r) (piece_in w h n r) (points w h)
      (λ p _. round_piece r b p)
      ∙ sym (holes_pieces w h s small r (λ e. omega arith)))

-- Tables that are a drawing.
pub is_drawing_holes : (w h : ℕ) (t : Tables) → within w h ≡ true → is_drawing w h t ≡ true → (r : ℕ) → r < mark
    → pieces t.side1 (tops w h (on t.side1)) r ≡ holes w h (on t.side1) t.parent r
unfolding drawing drawn level plain
is_drawing_holes w h t e j r b =
    let d = is_drawing_drawn w h t j in
    rw (← d.same) (drawn_holes w h d.labels (within_fits w h e) r b)
