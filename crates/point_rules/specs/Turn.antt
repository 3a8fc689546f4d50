-- The next line at a point, and what a point becomes when lines are taken from it.
--   turning m k     == coming in direction k, the first of right turn, straight on, left turn and back that leads to a line of m
--   led k v         == the direction in which the turn v leads from direction k; 4 for none
--   turn m k        == the direction of that line of m
--   is_right, is_left == of a turn
--   without m t     == the lines of m that are not among the lines t
--   becomes m t     == what a point with the lines m becomes when the lines t are taken
--   becomes_at       == the rule of the point table over its places: at 16 m + t
--   turning_of, turn_of, becomes_of == the rules for any numbers: none, or 4, where one is no mask or no direction
--   point_table      == the point table
--   becoming m l    == what a point becomes that had the lines m and has the lines l left
--   kinding         == what the point table says of each mask where no line is taken
use Rattle.std.specs.Prelude.{Bool, true, false, cond, not, ◌&&◌, ◌||◌, List, ℕ, ◌+◌, ◌/◌, ◌%◌, eqb, ltb}
use Rattle.laws.specs.Table.{table}
use Rattle.point_darts.specs.Dart.{turned}
use Rattle.point_darts.specs.Point.{bits, has, degree, inline}
use Rattle.point_rules.specs.declared.turn.Turn.{Turn}

unfoldable pub turning : ℕ → ℕ → Turn
turning m k =
    cond (has m (turned k 1)) Turn.Right
    (cond (has m (turned k 0)) Turn.Straight
    (cond (has m (turned k 3)) Turn.Left
    (cond (has m (turned k 2)) Turn.Back Turn.None)))

unfoldable pub led : ℕ → Turn → ℕ
led k Turn.Right = turned k 1
led k Turn.Straight = turned k 0
led k Turn.Left = turned k 3
led k Turn.Back = turned k 2
led k Turn.None = 4

unfoldable pub turn : ℕ → ℕ → ℕ
turn m k = led k (turning m k)

unfoldable pub is_right : Turn → Bool
is_right Turn.Right = true
is_right Turn.Straight = false
is_right Turn.Left = false
is_right Turn.Back = false
is_right Turn.None = false

unfoldable pub is_left : Turn → Bool
is_left Turn.Right = false
is_left Turn.Straight = false
is_left Turn.Left = true
is_left Turn.Back = false
is_left Turn.None = false

unfoldable pub without : ℕ → ℕ → ℕ
without m t = bits (λ k. has m k && not (has t k))

-- some line is taken that is not present, or exactly one line is present, or exactly one would remain
unfoldable pub impossible : ℕ → ℕ → Bool
impossible m t = not (eqb (without t m) 0) || eqb (degree m) 1 || eqb (degree (without m t)) 1

-- 0 gone, 1 two lines in line, 2 a corner, 3 three or four lines
unfoldable pub kind : ℕ → ℕ
kind m = cond (eqb m 0) 0 (cond (ltb 2 (degree m)) 3 (cond (eqb (inline m) 0) 2 1))

unfoldable pub becomes : ℕ → ℕ → ℕ
becomes m t = cond (impossible m t) 4 (kind (without m t))

unfoldable pub becomes_at : ℕ → ℕ
becomes_at i = becomes (i / 16) (i % 16)

unfoldable pub turning_of : ℕ → ℕ → Turn
turning_of m k = cond (ltb m 16 && ltb k 4) (turning m k) Turn.None

unfoldable pub turn_of : ℕ → ℕ → ℕ
turn_of m k = led k (turning_of m k)

unfoldable pub becomes_of : ℕ → ℕ → ℕ
becomes_of m t = cond (ltb m 16 && ltb t 16) (becomes m t) 4

unfoldable pub point_table : List ℕ
point_table = table 256 becomes_at

unfoldable pub becoming : ℕ → ℕ → ℕ
becoming m l = let taken = without m l in becomes_of (l + taken) taken

unfoldable pub kinding : List ℕ
kinding = table 16 (λ m. becomes_of m 0)
