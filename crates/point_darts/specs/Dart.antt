-- Points and darts (the paper, "Sheet, names, points and darts").
--   mark            == "none" in every table of links, sides or parents
--   points, slots   == how many points a sheet has, and how many dart numbers
--   dart p k        == the dart that leaves point p in direction k: 0 east, 1 south, 2 west, 3 north
--   point, direction == of a dart
--   far w d         == the point that the dart leads to, on a sheet of width w
--   reversal w d    == the dart that leads back
--   line w h d      == the dart's line lies on the sheet
--   made p k        == the dart of point p and direction k, or the mark where k is no direction or the number does not fit
--   reversed w h d  == the reversal, or the mark where the size is none or the line leaves the sheet
use Rattle.std.specs.Prelude.{Bool, cond, ◌&&◌, ℕ, zero, suc, ◌+◌, ◌*◌, ◌-◌, ◌/◌, ◌%◌, ltb, leb}
use Rattle.sheet_size.specs.Size.{within}

unfoldable pub mark : ℕ
mark = 65535

unfoldable pub points : ℕ → ℕ → ℕ
points w h = (w + 1) * (h + 1)

unfoldable pub slots : ℕ → ℕ → ℕ
unfolding points
slots w h = 4 * points w h

unfoldable pub dart : ℕ → ℕ → ℕ
dart p k = 4 * p + k

unfoldable pub made : ℕ → ℕ → ℕ
made p k = cond (ltb k 4 && leb p (mark / 4)) (dart p k) mark

unfoldable pub point : ℕ → ℕ
point d = d / 4

unfoldable pub direction : ℕ → ℕ
direction d = d % 4

-- the point one line away from p in direction k
unfoldable pub beside : ℕ → ℕ → ℕ → ℕ
beside w p zero = p + 1
beside w p (suc zero) = p + (w + 1)
beside w p (suc (suc zero)) = p - 1
beside w p (suc (suc (suc k))) = p - (w + 1)

unfoldable pub far : ℕ → ℕ → ℕ
far w d = beside w (point d) (direction d)

-- the direction after k, i quarter turns to the right
unfoldable pub turned : ℕ → ℕ → ℕ
turned k i = (k + i) % 4

unfoldable pub reversal : ℕ → ℕ → ℕ
reversal w d = dart (far w d) (turned (direction d) 2)

-- on a sheet of width w and height h, column x and row y of a point, a line in direction k stays on the sheet
unfoldable pub stays : ℕ → ℕ → ℕ → ℕ → ℕ → Bool
stays w h x y zero = ltb x w
stays w h x y (suc zero) = ltb y h
stays w h x y (suc (suc zero)) = ltb 0 x
stays w h x y (suc (suc (suc k))) = ltb 0 y

unfoldable pub line : ℕ → ℕ → ℕ → Bool
line w h d =
    let p = point d in
    leb (p / (w + 1)) h && stays w h (p % (w + 1)) (p / (w + 1)) (direction d)

unfoldable pub reversed : ℕ → ℕ → ℕ → ℕ
reversed w h d = cond (within w h && line w h d) (reversal w d) mark
