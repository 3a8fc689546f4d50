use mathlib.Core.Path.{refl, sym, ap, ◌∙◌}
use Prim.Native.Nat.{◌-◌}
use native.Mathlib.Omega.{arith}
use lib.ListN.{replicate}
use Rattle.point_darts.specs.Dart.{mark}
use Rattle.table_entries.proofs.Entries.{at_entry, on_entry}
use Rattle.region_darts.proofs.Listing.{listing_none, listing_less, listing_more, listing_all}
use Rattle.region_darts.proofs.list.list_sides.Goals as goal

pub loop-i-init : goal.loop-i-init
unfolding mark
loop-i-init c =
    let q = c.requires in
    listing_none _ _ _ _ _ _ c.fill.ensures (c.fill-2.ensures ∙ ap (λ n. replicate n mark) q.2) (sym q.0) refl

pub loop-i-preserved-then-name : goal.loop-i-preserved-then-name
unfolding mark
loop-i-preserved-then-name c =
    let q = c.requires in
    let s = c.args.side.now in
    let r = c.loop-i.invariant in
    let e = c.put_first.ensures in
    let h = at_entry s (c.loop-i.i - 1) (omega (arith, r.room)) in
    let b = q.3 (c.loop-i.i - 1) (on_entry s (c.loop-i.i - 1) (λ z. c.if-name.true (sym h ∙ z))) in
    listing_more _ _ _ _ _ _ _ r (omega arith) _ h c.if-name.true (omega (arith, q.2)) (omega (arith, q.0, q.1))
    _ _ _ e.0 e.1 e.2

pub loop-i-preserved : goal.loop-i-preserved
unfolding mark
loop-i-preserved c =
    let r = c.loop-i.invariant in
    listing_less _ _ _ _ _ _ _ r (omega arith) (at_entry _ _ (omega (arith, r.room)) ∙ c.if-name.false)

pub returns : goal.returns
returns c = listing_all _ _ _ _ _ _ c.loop-i.invariant (omega arith)
