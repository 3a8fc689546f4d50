-- Tables of a sheet's size have four sides for each of the tops.
use mathlib.Core.Path.{◌≡◌}
use mathlib.Core.Bool.{true}
use mathlib.Core.List.{List}
use Prim.Native.Nat.{ℕ, zero-le}
use native.Mathlib.Omega.{arith}
use lib.ListN.{length}
use Rattle.sheet_size.specs.Size.{within}
use Rattle.point_darts.specs.Dart.{mark, points, slots}
use Rattle.point_darts.proofs.Darts.{place_below}
use Rattle.paper_laws.proofs.Marks.{slots_most}
use Rattle.count_holes.specs.Round.{Sized}

pub sized : (w h : ℕ) (s t : List ℕ) → within w h ≡ true → length s ≡ slots w h → length t ≡ points w h → Sized s t
unfolding slots mark
sized w h s t b e f =
    record {
      four = omega arith;
      some = omega (arith, place_below w h 0 0 zero-le zero-le);
      fits = omega (arith, slots_most w h b);
    }
