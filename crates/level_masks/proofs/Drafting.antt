-- The lines of level 0 or of level 1.
--   plain_masks w h l f == the lines at each point, of level 0, else of level 1
use mathlib.Core.Path.{◌≡◌}
use mathlib.Core.List.{List}
use mathlib.Core.Logic.{◌≢◌}
use Prim.Native.Nat.{ℕ}
use borrow.Author.Tests.{eq-eqb, ne_eqb}
use Rattle.level_masks.specs.Mask.{masked, ruled, plain_masks}

module _ (w h l : ℕ) (f m : List ℕ) where
  pub ruled_masks : l ≡ 0 → m ≡ ruled w h → m ≡ plain_masks w h l f
  unfolding plain_masks
  ruled_masks e q = rw (eq-eqb l 0 e) q

  pub masked_masks : l ≢ 0 → m ≡ masked w h f → m ≡ plain_masks w h l f
  unfolding plain_masks
  masked_masks e q = rw (ne_eqb l 0 e) q
