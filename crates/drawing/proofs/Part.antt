-- The parts of a drawing, from what the calls leave at the fronts of work tables.
use mathlib.Core.Path.{◌≡◌, ap, ◌∙◌}
use mathlib.Core.List.{List}
use Prim.Native.Nat.{ℕ, ◌+◌}
use lib.ListN.{take}
use Rattle.point_darts.specs.Dart.{points}
use Rattle.paper.specs.Level.{tops}
use Rattle.paper.specs.Joining.{on}
use Rattle.region_names.specs.Frame.{surround}
use Rattle.level_masks.specs.Mask.{masked}
use Rattle.level_lines.specs.Line.{nexts}
use Rattle.level_lines.specs.Side.{sides}
use Rattle.level_kept.specs.Keep.{keeps}
use Rattle.drawing.specs.Parts.{Lined, Kept}

-- of n points
module _ (w h n : ℕ) (z : n ≡ points w h) where
  pub lined_all : (r m e x s : List ℕ) → take n m ≡ e → e ≡ masked w h (take (n + w + 2) r) → x ≡ nexts w h (take n m)
      → s ≡ sides w h (take (n + w + 2) r) (take n m) → Lined w h (take (surround w h) r) m x s
  lined_all r m e x s p q a b =
      let masks = rw z at (p ∙ q) in
      record {
        masks = masks;
        next = (rw z at a) ∙ ap (nexts w h) masks;
        side = (rw z at b) ∙ ap (sides w h (take (surround w h) r)) masks;
      }

  pub kept_all : (s l t k d e : List ℕ) → take n t ≡ d → d ≡ tops w h (on s) → take n k ≡ e
      → e ≡ keeps w h (take n l) (take n t) → Kept w h s (take (points w h) l) t k
  kept_all s l t k d e p q a b = record { tops = rw z at (p ∙ q); points = rw z at (a ∙ b) }
