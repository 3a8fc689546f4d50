-- The four cells round a point, as two rows of two: ((north-west, north-east), (south-west, south-east)).
-- A set of lines at a point is a mask: east 1, south 2, west 4, north 8.
--   bits f          == the mask of the directions that pass the test f
--   has m k         == the mask m has direction k
--   right c k       == the cell to the right of the line in direction k; left likewise
--   present c       == the mask of the lines that are present: those with two sides that differ
--   degree m        == how many lines the mask has
--   inline m        == the mask of the lines whose opposite line the mask has too
use Rattle.std.specs.Prelude.{Bool, not, ◌&&◌, List, [], ℕ, zero, suc, ◌+◌, ◌*◌, ◌/◌, ◌%◌, eqb, get_or}
use Rattle.laws.specs.Table.{number}
use Rattle.point_darts.specs.Dart.{turned}

unfoldable pub bits : (ℕ → Bool) → ℕ
bits f = number (f 0) + 2 * number (f 1) + 4 * number (f 2) + 8 * number (f 3)

unfoldable pub half : ℕ → ℕ → ℕ
half m zero = m
half m (suc k) = half (m / 2) k

unfoldable pub has : ℕ → ℕ → Bool
has m k = eqb (half m k % 2) 1

-- the cell in row i and column j of the four
unfoldable pub corner : List (List ℕ) → ℕ → ℕ → ℕ
corner c i j = get_or (get_or c i []) j 0

unfoldable pub right : List (List ℕ) → ℕ → ℕ
right c zero = corner c 1 1
right c (suc zero) = corner c 1 0
right c (suc (suc zero)) = corner c 0 0
right c (suc (suc (suc zero))) = corner c 0 1
right c (suc (suc (suc (suc k)))) = 0

unfoldable pub left : List (List ℕ) → ℕ → ℕ
left c zero = corner c 0 1
left c (suc zero) = corner c 1 1
left c (suc (suc zero)) = corner c 1 0
left c (suc (suc (suc zero))) = corner c 0 0
left c (suc (suc (suc (suc k)))) = 0

unfoldable pub parts : List (List ℕ) → ℕ → Bool
parts c k = not (eqb (right c k) (left c k))

unfoldable pub present : List (List ℕ) → ℕ
present c = bits (parts c)

unfoldable pub degree : ℕ → ℕ
degree m = number (has m 0) + number (has m 1) + number (has m 2) + number (has m 3)

unfoldable pub inline : ℕ → ℕ
inline m = bits (λ k. has m k && has m (turned k 2))
