-- The size of a sheet.
--   widest, tallest == the greatest width, and the greatest height
--   within w h      == width and height are both 1 to the greatest
use Rattle.std.specs.Prelude.{Bool, ◌&&◌, ℕ, leb}

abbrev pub widest : ℕ
widest = 110

abbrev pub tallest : ℕ
tallest = 72

unfoldable pub within : ℕ → ℕ → Bool
within w h = leb 1 w && leb w widest && leb 1 h && leb h tallest
