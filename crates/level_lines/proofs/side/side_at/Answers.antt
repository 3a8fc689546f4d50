use mathlib.Core.Path.{◌≡◌, ap, ◌∙◌}
use Prim.Native.Nat.{ℕ, ◌<◌}
use lib.Dec.{lit<}
use Rattle.point_darts.specs.Dart.{dart}
use Rattle.point_darts.specs.Point.{right}
use Rattle.level_lines.specs.Side.{beheld}
use Rattle.level_lines.proofs.Beheld.{beheld_dart}
use Rattle.level_lines.proofs.side.side_at.Goals as goal

pub returns : goal.returns
returns c =
    let a = c.args in
    let f = beheld a.width a.framed.now in
    let seen : (k : ℕ) → k < 4 → right c.around-cells.result k ≡ f (dart a.p k) =
    λ k b. ap (λ t. right t k) c.around-cells.ensures ∙ beheld_dart a.width a.p a.framed.now k b in
    c.put_present.ensures f (c.right.ensures ∙ seen 0 (lit< tt))
    (c.right-2.ensures ∙ seen 1 (lit< tt))
    (c.right-3.ensures ∙ seen 2 (lit< tt)) (c.right-4.ensures ∙ seen 3 (lit< tt))
