-- Whether a line stays on a sheet, by the row of its point p.
use mathlib.Core.Path.{◌≡◌}
use mathlib.Core.Bool.{Bool, true, false, ◌&&◌}
use Prim.Native.Nat.{ℕ, ◌+◌, ◌/◌, ◌%◌, ◌≤◌, ◌<◌}
use borrow.Author.Tests.{lt-leb, le-leb}
use Rattle.sheet_size.specs.Size.{within}
use Rattle.point_darts.specs.Dart.{point, direction, stays, line}

module _ (w h d p : ℕ) (e : within w h ≡ true) (f : p ≡ point d) where
  pub off_rows : h < p / (w + 1) → false ≡ (within w h && line w h d)
  unfolding line
  off_rows b = rw (e, ← f, lt-leb _ _ b)

  pub on_rows : p / (w + 1) ≤ h → (k : ℕ) → k ≡ direction d → (b : Bool) → b ≡ stays w h (p % (w + 1)) (p / (w + 1)) k
      → b ≡ (within w h && line w h d)
  unfolding line
  on_rows c k g b s = rw (e, ← f, le-leb _ _ c, ← g) s
