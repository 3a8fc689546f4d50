-- A drawing (the paper, "A drawing, and joining in it").
--   drawn w h n     == the seven tables of the sheet whose cells have the names n
--   drawing w h s   == the seven tables of the sheet with the labels s
--   fresh w h s a b == drawn afresh from the cells' names, a and b both bearing the smaller
--   Drawn w h t     == the seven tables are the drawing of some sheet of this size
--   recovered w h s == the labels that the sides of level 1 tell
--   is_drawing w h t    == the seven tables are the drawing of the recovered labels
use Rattle.std.specs.Prelude.{◌≡◌, Bool, cond, ◌&&◌, List, [], ◌∷◌, map, ℕ, zero, suc, ◌+◌, ◌*◌, ◌/◌, eqb, get_or, length}
use Rattle.laws.specs.Equal.{equal}
use Rattle.laws.specs.Least.{lower}
use Rattle.point_darts.specs.Dart.{mark, dart}
use Rattle.paper.specs.Name.{names}
use Rattle.paper.specs.Level.{side, border, level, marked}
use Rattle.paper.specs.Enclosure.{parents}
use Rattle.paper.specs.Total.{cells_of, borders_of, totals}

pub record Tables : Type 0 where
  pub next1 : List ℕ
  pub side1 : List ℕ
  pub next3 : List ℕ
  pub other3 : List ℕ
  pub parent : List ℕ
  pub cells : List ℕ
  pub borders : List ℕ

unfoldable pub drawn : ℕ → ℕ → List ℕ → Tables
drawn w h n =
    let l1 = level w h n 1 in
    let l3 = level w h n 3 in
    record {
      next1 = marked w h l1.on l1.next;
      side1 = marked w h l1.on (side w h n);
      next3 = marked w h l3.on l3.next;
      other3 = marked w h l3.on l3.other;
      parent = parents w h (border w h n) (side w h n);
      cells = totals w h (cells_of w h n) (cells_of w h n);
      borders = totals w h (cells_of w h n) (borders_of w h n);
    }

unfoldable pub drawing : ℕ → ℕ → List ℕ → Tables
drawing w h s = let n = names w h s in drawn w h n

unfoldable pub fresh : ℕ → ℕ → List ℕ → ℕ → ℕ → Tables
fresh w h s a b = let n = names w h s in drawing w h (map (lower a b) n)

pub record Drawn (w h : ℕ) (t : Tables) : Type 0 where
  pub labels : List ℕ
  pub sized : length labels ≡ w * h
  pub same : drawing w h labels ≡ t

-- the labels of n cells from cell i on: the side of the north dart of a cell's left line, or the label v to the left
unfoldable pub recover : ℕ → List ℕ → ℕ → ℕ → ℕ → List ℕ
recover w s v i zero = []
recover w s v i (suc n) =
    let d = get_or s (dart (i + i / w + (w + 1)) 3) mark in
    let u = cond (eqb d mark) v d in
    u ∷ recover w s u (suc i) n

unfoldable pub recovered : ℕ → ℕ → List ℕ → List ℕ
recovered w h s = recover w s mark 0 (w * h)

unfoldable pub same : Tables → Tables → Bool
same t u =
    equal t.next1 u.next1 && equal t.side1 u.side1 && equal t.next3 u.next3
    && equal t.other3 u.other3
    && equal t.parent u.parent
    && equal t.cells u.cells
    && equal t.borders u.borders

unfoldable pub is_drawing : ℕ → ℕ → Tables → Bool
is_drawing w h t = same t (drawing w h (recovered w h t.side1))
