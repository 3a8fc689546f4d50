-- The depths of the names below r, on the way to those of all names.
use mathlib.Core.Path.{◌≡◌, refl, sym, ◌∙◌}
use mathlib.Core.Bool.{Bool, true, false, ◌||◌}
use mathlib.Core.List.{List}
use mathlib.Core.Logic.{◌≢◌}
use Prim.Native.Nat.{ℕ, ◌+◌, ◌<◌}
use native.Mathlib.Omega.{arith}
use lib.Dec.{eqb}
use lib.ListN.{get_or}
use borrow.Author.Tests.{eq-eqb, ne_eqb}
use Rattle.point_darts.specs.Dart.{mark}
use Rattle.paper.specs.Joining.{on}
use Rattle.paper.specs.Enclosure.{above, depth}
use Rattle.table_entries.proofs.Entries.{at_in}
use Rattle.region_depths.specs.Tree.{known}
use Rattle.region_depths.proofs.Climb.{depth_le, depth_up}
use Rattle.region_depths.specs.Census.{counted_at, Deepened}

or_true : (b : Bool) → (b || true) ≡ true
or_true true = refl
or_true false = refl

module _ (t : List ℕ) (r : ℕ) (l : List ℕ) (d : Deepened t r l) where
  pub deepened_outside : r ≡ 0 → 0 ≡ counted_at depth t r
  unfolding counted_at known depth above
  deepened_outside e = rw e

  pub deepened_mark : r ≢ 0 → get_or t r 0 ≡ mark → mark ≡ counted_at depth t r
  unfolding counted_at known on
  deepened_mark n e = rw (ne_eqb r 0 n, ← at_in t r d.below, eq-eqb (get_or t r 0) mark e)

  module _ (n : r ≢ 0) (m : get_or t r 0 ≢ mark) where
    in_use : on t r ≡ true
    unfolding on
    in_use = rw (← at_in t r d.below, ne_eqb (get_or t r 0) mark m)

    pub deepened_below : get_or t r 0 < r
    deepened_below = rw (at_in t r d.below) (d.falls.down r in_use)

    above_entry : get_or l (get_or t r 0) 0 ≡ depth t (get_or t r 0)
    unfolding counted_at
    above_entry =
        d.entry (get_or t r 0) deepened_below
        ∙ rw (at_in t r d.below, d.falls.held r in_use)

    pub deepened_fits : get_or l (get_or t r 0) 0 + 1 < 65536
    unfolding mark
    deepened_fits = omega (arith, above_entry, depth_le t (get_or t r 0), deepened_below, d.below, d.fits)

    pub deepened_up : get_or l (get_or t r 0) 0 + 1 ≡ counted_at depth t r
    unfolding counted_at known
    deepened_up =
        rw (in_use, or_true (eqb r 0), above_entry, at_in t r d.below) (sym (depth_up t d.falls r in_use))
