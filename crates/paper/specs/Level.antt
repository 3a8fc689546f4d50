-- The four levels (the paper, "The four levels"). A level is a set of darts with their next and other.
--   side w h n d    == the region on the right hand of dart d, by the table n of names
--   border w h n d  == the two sides of dart d differ
--   mask on p       == the lines at point p that are on
--   next w on d     == at the far point the first line that is on: right turn, straight on, left turn, back
--   plain w on      == the level of the lines that are on
--   along w h on k  == the level of the same lines with the points that pass the test k kept
--   tops w h on     == for each point the least point of its piece
--   level w h n l   == level l of the sheet with the names n
use Rattle.std.specs.Prelude.{Bool, false, cond, not, ◌&&◌, ◌||◌, List, ℕ, zero, suc, ◌+◌, ◌-◌, eqb, ltb, get_or}
use Rattle.laws.specs.Table.{table, some}
use Rattle.laws.specs.Least.{least}
use Rattle.laws.specs.Run.{run}
use Rattle.point_darts.specs.Dart.{mark, points, slots, dart, point, direction, far, reversal, line}
use Rattle.point_darts.specs.Point.{bits, right, parts, degree, inline}
use Rattle.point_rules.specs.Turn.{turn}
use Rattle.paper.specs.Name.{cells}

unfoldable pub side : ℕ → ℕ → List ℕ → ℕ → ℕ
side w h n d = right (cells w h n (point d)) (direction d)

unfoldable pub border : ℕ → ℕ → List ℕ → ℕ → Bool
border w h n d = parts (cells w h n (point d)) (direction d)

unfoldable pub mask : (ℕ → Bool) → ℕ → ℕ
mask on p = bits (λ k. on (dart p k))

unfoldable pub next : ℕ → (ℕ → Bool) → ℕ → ℕ
next w on d =
    let q = far w d in
    dart q (turn (mask on q) (direction d))

pub record Level : Type 0 where
  pub on : ℕ → Bool
  pub next : ℕ → ℕ
  pub other : ℕ → ℕ

unfoldable pub plain : ℕ → (ℕ → Bool) → Level
plain w on = record { on = on; next = next w on; other = reversal w }

-- the last dart of the run from d to the next kept point
unfoldable pub last : ℕ → ℕ → (ℕ → Bool) → (ℕ → Bool) → ℕ → ℕ
last w h on keep d = run (next w on) (λ e. keep (far w e)) (slots w h) d

unfoldable pub along : ℕ → ℕ → (ℕ → Bool) → (ℕ → Bool) → Level
along w h on keep =
    record {
      on = λ d. on d && keep (point d);
      next = λ d. next w on (last w h on keep d);
      other = λ d. reversal w (last w h on keep d);
    }

-- three or four lines
unfoldable pub big : (ℕ → Bool) → ℕ → Bool
big on p = ltb 2 (degree (mask on p))

-- two lines that are not in line with each other
unfoldable pub bent : (ℕ → Bool) → ℕ → Bool
bent on p = eqb (degree (mask on p)) 2 && eqb (inline (mask on p)) 0

unfoldable pub tops : ℕ → ℕ → (ℕ → Bool) → List ℕ
tops w h on = least (points w h) (λ p. cond (on (dart p 2)) (p - 1) p) (λ p. cond (on (dart p 3)) (p - (w + 1)) p)

-- the least point of a closed curve: of a piece that has lines and no point with three or four
unfoldable pub anchor : ℕ → ℕ → (ℕ → Bool) → List ℕ → ℕ → Bool
anchor w h on t p =
    not (eqb (mask on p) 0) && eqb (get_or t p 0) p && not (some (points w h) (λ q. eqb (get_or t q 0) p && big on q))

unfoldable pub kept2 : ℕ → ℕ → (ℕ → Bool) → List Bool
kept2 w h on = table (points w h) (λ p. big on p || bent on p)

unfoldable pub kept3 : ℕ → ℕ → (ℕ → Bool) → List Bool
kept3 w h on =
    let t = tops w h on in
    table (points w h) (λ p. big on p || anchor w h on t p)

-- a table of tests, read as a test that fails past the end
unfoldable pub among : List Bool → ℕ → Bool
among k p = get_or k p false

unfoldable pub level : ℕ → ℕ → List ℕ → ℕ → Level
level w h n zero = plain w (line w h)
level w h n (suc zero) = plain w (border w h n)
level w h n (suc (suc zero)) = let k = kept2 w h (border w h n) in along w h (border w h n) (among k)
level w h n (suc (suc (suc l))) = let k = kept3 w h (border w h n) in along w h (border w h n) (among k)

-- the table of f at the darts that are on, the mark elsewhere
unfoldable pub marked : ℕ → ℕ → (ℕ → Bool) → (ℕ → ℕ) → List ℕ
marked w h on f = table (slots w h) (λ d. cond (on d) (f d) mark)
