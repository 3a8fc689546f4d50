-- The lines present at a point: those for which a table by dart has entries.
--   at t d, on t d  == the entry of dart d, the mark past the end; that it is not the mark
use mathlib.Core.Path.{◌≡◌}
use mathlib.Core.Bool.{not}
use mathlib.Core.List.{List}
use Prim.Native.Nat.{ℕ, ◌+◌, ◌*◌, ◌<◌}
use native.Mathlib.Nat.{one-mul}
use lib.Dec.{eqb}
use lib.ListN.{length, get_or}
use Rattle.laws.specs.Table.{number}
use Rattle.point_darts.specs.Dart.{mark, dart}
use Rattle.point_darts.specs.Point.{bits}
use Rattle.point_darts.proofs.Points.{bits_below}
use Rattle.paper.specs.Level.{mask}
use Rattle.paper.specs.Joining.{at, on}
use Rattle.table_entries.proofs.Entries.{at_in}

-- The mask of a point, line by line.
pub mask_sum : (e s w n a b c d : ℕ) → a ≡ 1 * number (not (eqb e mark)) → b ≡ 2 * number (not (eqb s mark))
    → c ≡ 4 * number (not (eqb w mark)) → d ≡ 8 * number (not (eqb n mark)) → (t : List ℕ) (p : ℕ) → e ≡ at t (dart p 0)
    → s ≡ at t (dart p 1) → w ≡ at t (dart p 2) → n ≡ at t (dart p 3)
    → (a + b + c + d ≡ mask (on t) p) × (a + b + c + d < 16)
unfolding mask bits on
mask_sum e s w n a b c d i j k l t p x y z u = (sum, rw sum (bits_below (λ k. on t (dart p k))))
  where
    sum : a + b + c + d ≡ mask (on t) p
    sum = rw (i, j, k, l, x, y, z, u, one-mul)

-- the entry of a dart of a point, read where it lies
pub read_dart : (t : List ℕ) (p k j : ℕ) → j ≡ dart p k → dart p k < length t → get_or t j 0 ≡ at t (dart p k)
read_dart t p k j e b = rw e (at_in t (dart p k) b)
