use mathlib.Core.Path.{sym}
use native.Mathlib.Omega.{arith}
use Rattle.laws.proofs.Table.{none_some, found_some}
use Rattle.point_darts.specs.Dart.{mark, slots}
use Rattle.sheet_size.proofs.Limit.{within_limits}
use Rattle.point_darts.proofs.Fit.{points_fit}
use Rattle.paper.specs.Refusal.{adjoin}
use Rattle.join_darts.specs.Listed.{part}
use Rattle.join_darts.proofs.Listing.{gap_after}
use Rattle.join_shared.proofs.Sharing.{away_apart}
use Rattle.join_answer.proofs.adjoin.adjoin.Goals as goal

pub is_free-requires : goal.is_free-requires
unfolding slots mark
is_free-requires c =
    let q = c.requires in
    (omega (arith, c.part_start-low.ensures), c.loop-high.invariant.0, omega (arith, q, points_fit _ _ c.args.size.limited))

pub adjoin_part-requires : goal.adjoin_part-requires
unfolding slots mark
adjoin_part-requires c =
    let q = c.requires in (
      omega (arith, c.part_start-low.ensures),
      omega (arith, c.loop-high.invariant.0, q, points_fit _ _ c.args.size.limited, (within_limits _ _ c.args.size.limited).width_most),
    )

pub returns-then-adjoin_part : goal.returns-then-adjoin_part
unfolding adjoin
returns-then-adjoin_part c =
    let m = c.adjoin_part.ensures.0 c.if-adjoin_part.true in
    sym (found_some _ _ _ (omega (arith, m.before, c.loop-high.invariant.0, c.requires)) m.passes)

pub loop-high-smaller : goal.loop-high-smaller
unfolding part
loop-high-smaller c =
    omega (arith, c.part_start-low.ensures, c.loop-high-test.true)

pub loop-high-preserved : goal.loop-high-preserved
loop-high-preserved c =
    let (h, g) = c.loop-high.invariant in
    let free = c.is_free.ensures.0 (c.if-not-is_free.false) in
    (omega (arith, c.part_start-low.ensures), gap_after _ _ _ _ (λ d l u. away_apart _ _ _ _ d (free d l u)) g)

pub returns : goal.returns
unfolding adjoin
returns c =
    let g = c.loop-high.invariant.1 in
    let q = c.requires in
    sym (none_some _ _ (λ d b. g d (omega (arith, c.loop-high-test.false)) (omega (arith, q))))
