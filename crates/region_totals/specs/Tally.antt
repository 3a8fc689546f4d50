-- The tally of cells and border lines, from the names f with the outside round them, in rows of w + 1. A sheet of m names and n points.
--   name_at w f p    == the name of the cell south-east of point p
--   lines_at w f p   == twice how many of that cell's left line and top line are border lines
--   weighed v k r i == k p added up over the numbers p below i that have v p = r
--   borne_in c o r   == the cells of the name r, in the tables c and o
--   lined_in m b o r == the lines of the name r, in the tables b and o
--   cell_total c o r, line_total m c b o r == these totals, the mark for a name without cells
--   Named m f       == every name is below m
--   Small c b o     == no two entries of a name are too large to be added
--   Ruled w m n f i o == after two entries for each name, all 0, the table o has the lines of the cells of the points below i
--   Tallied w m n f i c b o == the tables c, b and o have the cells and the lines of the points below i, by name; o has also the lines of
--                      the cells of all points
--   Odd w m n f i o == the table o is of such a tally
use Rattle.std.specs.Prelude.{◌≡◌, not, cond, List, ℕ, zero, suc, ◌+◌, ◌*◌, ◌≤◌, ◌<◌, eqb, length, get_or}
use Rattle.laws.specs.Table.{number}
use Rattle.point_darts.specs.Dart.{mark}

unfoldable pub name_at : ℕ → List ℕ → ℕ → ℕ
name_at w f p = get_or f (p + (w + 2)) 0

unfoldable pub lines_at : ℕ → List ℕ → ℕ → ℕ
lines_at w f p =
    2 * number (not (eqb (name_at w f p) (get_or f (p + (w + 1)) 0))) + 2 * number (not (eqb (name_at w f p) (get_or f (p + 1) 0)))

unfoldable pub weighed : (ℕ → ℕ) → (ℕ → ℕ) → ℕ → ℕ → ℕ
weighed v k r zero = 0
weighed v k r (suc i) = cond (eqb (v i) r) (k i) 0 + weighed v k r i

abbrev pub borne_in : List ℕ → List ℕ → ℕ → ℕ
borne_in c o r = get_or c r 0 + get_or o r 0

abbrev pub lined_in : ℕ → List ℕ → List ℕ → ℕ → ℕ
lined_in m b o r = get_or b r 0 + get_or o (m + r) 0

abbrev pub cell_total : List ℕ → List ℕ → ℕ → ℕ
cell_total c o r = cond (eqb (borne_in c o r) 0) mark (borne_in c o r)

abbrev pub line_total : ℕ → List ℕ → List ℕ → List ℕ → ℕ → ℕ
line_total m c b o r = cond (eqb (borne_in c o r) 0) mark (lined_in m b o r)

abbrev pub Named : ℕ → List ℕ → Type 0
Named m f = (k : ℕ) → get_or f k 0 < m

abbrev pub Small : List ℕ → List ℕ → List ℕ → Type 0
Small c b o = (r : ℕ) → r < length c → (borne_in c o r ≤ mark) × (lined_in (length c) b o r ≤ mark)

pub record Ruled (w m n : ℕ) (f : List ℕ) (i : ℕ) (o : List ℕ) : Type 0 where
  pub clear : (r : ℕ) → r < 2 * m → get_or o r 0 ≡ 0
  pub lines : (p : ℕ) → p < i → get_or o (2 * m + p) 0 ≡ lines_at w f p
  pub long : length o ≡ 4 * n

pub record Tallied (w m n : ℕ) (f : List ℕ) (i : ℕ) (c b o : List ℕ) : Type 0 where
  pub cells : (r : ℕ) → r < m → borne_in c o r ≡ weighed (name_at w f) (λ _. 1) r i
  pub borders : (r : ℕ) → r < m → lined_in m b o r ≡ weighed (name_at w f) (lines_at w f) r i
  pub lines : (p : ℕ) → p < n → get_or o (2 * m + p) 0 ≡ lines_at w f p
  pub long_cells : length c ≡ m
  pub long_borders : length b ≡ m
  pub long_odd : length o ≡ 4 * n

pub record Odd (w m n : ℕ) (f : List ℕ) (i : ℕ) (o : List ℕ) : Type 0 where
  pub cells : List ℕ
  pub borders : List ℕ
  pub tallied : Tallied w m n f i cells borders o
