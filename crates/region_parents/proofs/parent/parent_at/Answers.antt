use mathlib.Core.Path.{◌≡◌, ◌∙◌}
use Prim.Native.Nat.{◌+◌, ◌<◌}
use native.Mathlib.Omega.{arith}
use lib.ListN.{length, get_or}
use Rattle.point_darts.specs.Dart.{mark, dart}
use Rattle.region_parents.proofs.Corner.{parent_unused, parent_used}
use Rattle.region_parents.proofs.parent.parent_at.Goals.{After-first_slot, After-first_slot-2, then-first-name, else-first-name}
use Rattle.region_parents.proofs.parent.parent_at.Goals.at as at
use Rattle.region_parents.proofs.parent.parent_at.Goals as goal

-- The slot of the dart east of the corner is in the table.
first-in : (f : After-first_slot) → f.first_slot.result < length f.args.side.now
unfolding dart
first-in f = omega (arith, f.first_slot.ensures, f.requires.0)

-- And so is the slot of the dart that leads back from the top.
module _ (f : After-first_slot-2) where
  back_in : f.first_slot-2.result + 2 < length f.args.side.now
  unfolding dart
  back_in = omega (arith, f.first_slot-2.ensures, f.requires.3.up f.args.corner, f.requires.0)

pub returns : goal.returns
unfolding mark
returns c =
    let f = first-in (at.returns c).After-first_slot in
    let b = back_in (at.returns c).After-first_slot-2 in
    let s = c.type_inv.side (c.first_slot-2.result + 2) in
    elim c.if-first-name.branch [
      | then-first-name w ↦
          let u : c.max.result ≡ get_or c.args.side.now (c.first_slot-2.result + 2) 0 = omega (arith, s, w.other-is) in
          u ∙ parent_used _ _ _ _ _ _ c.first_slot.ensures f w.if-first-name.true c.requires.4 _ c.first_slot-2.ensures b
      | else-first-name w ↦
          let u : c.max.result ≡ mark = omega (arith, s, w.other-is) in
          u ∙ parent_unused _ _ _ _ _ _ c.first_slot.ensures f w.if-first-name.false
    ]
