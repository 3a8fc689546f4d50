use mathlib.Core.Path.{sym, ◌∙◌}
use native.Mathlib.Omega.{arith}
use Rattle.join_shared.proofs.Leading.{bare_bounded, removed_others}
use Rattle.join_shared.proofs.shared.remove_shared.Goals as goal

pub unpair-requires : goal.unpair-requires
unpair-requires c =
    let q = c.requires in
    (omega (arith, q.0, q.6), q.3 ∙ sym q.6, q.4 ∙ sym q.6, rw q.6 (bare_bounded _ _ _ _ _ _ _ _ q.9 q.7))

pub returns : goal.returns
returns c =
    let q = c.requires in
    removed_others _ _ _ _ _ q.1 q.2 (omega (arith, q.0, q.3)) q.8 _ _ q.5 q.9 _ _ _ q.6
    c.remove_nexts.ensures.0 c.unpair.ensures
