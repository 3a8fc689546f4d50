use mathlib.Core.Path.{refl, sym, ◌∙◌}
use native.Mathlib.Omega.{arith}
use Rattle.join_darts.proofs.Narrowing.{listed_all, narrowed_none, narrowed_rest, narrowed_more}
use Rattle.join_darts.proofs.list.narrow.Goals as goal

pub loop-dart-init : goal.loop-dart-init
loop-dart-init c = λ g.
    narrowed_none _ _ _ _ _ g.list refl _
    (c.reach-start.ensures (record { test = g.test; start = 0; list = listed_all _ _ _ g.list }))

pub reach-after-requires : goal.reach-after-requires
reach-after-requires c =
    let q = c.requires in
    let g = q.2 in
    let r = c.loop-dart.invariant g in
    let m = narrowed_rest _ _ _ _ _ g.list refl _ _ _ r c.loop-dart-test.true in (
      omega (arith, q.0, r.long),
      q.1 ∙ sym r.long,
      rw r.long (record { test = g.test; start = _; list = m }),
    )

pub loop-dart-smaller : goal.loop-dart-smaller
loop-dart-smaller c =
    let q = c.requires in
    let g = q.2 in
    let r = c.loop-dart.invariant g in
    let m = narrowed_rest _ _ _ _ _ g.list refl _ _ _ r c.loop-dart-test.true in
    let f = c.reach-after.ensures (rw r.long (record { test = g.test; start = _; list = m })) in
    omega (arith, f.after)

pub loop-dart-preserved : goal.loop-dart-preserved
loop-dart-preserved c = λ g.
    let r = c.loop-dart.invariant g in
    let h = c.loop-dart-test.true in
    let m = narrowed_rest _ _ _ _ _ g.list refl _ _ _ r h in
    narrowed_more _ _ _ _ _ g.list refl _ _ _ r h _
    (rw r.long at (c.reach-after.ensures (rw r.long (record { test = g.test; start = _; list = m }))))
