use mathlib.Core.Path.{sym, ◌∙◌}
use native.Mathlib.Omega.{arith}
use Rattle.join_darts.proofs.Listing.{listing_more, listing_less, bounds_here}
use Rattle.join_darts.proofs.list.list_part.Goals as goal

pub loop-i-preserved-then-is_either : goal.loop-i-preserved-then-is_either
loop-i-preserved-then-is_either c =
    let r = c.loop-i.invariant.1 in
    let e = sym c.is_either.ensures ∙ c.if-is_either.true in
    (omega arith, listing_more _ _ _ _ _ _ r (omega arith) (bounds_here _ _ _ _ _ (omega arith) e))

pub loop-i-preserved : goal.loop-i-preserved
loop-i-preserved c =
    let r = c.loop-i.invariant.1 in
    let e = sym c.is_either.ensures ∙ c.if-is_either.false in
    (omega arith, listing_less _ _ _ _ _ _ r (omega arith) (bounds_here _ _ _ _ _ (omega arith) e))
