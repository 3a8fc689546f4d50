use mathlib.Core.Path.{sym, ◌∙◌}
use native.Mathlib.Omega.{arith}
use Rattle.join_shared.proofs.Leading.{led_bounded, removed_nexts}
use Rattle.join_shared.proofs.shared.remove_nexts.Goals as goal

pub unlink-requires : goal.unlink-requires
unlink-requires c =
    let q = c.requires in
    let e = c.lead.auto.next ∙ q.5 in
    let g = led_bounded _ _ _ _ _ q.1 q.2 (omega (arith, q.0, q.3)) q.7 _ _ _ q.6 _ _ c.lead.ensures in
    (omega (arith, q.0, e), q.3 ∙ sym e, q.4 ∙ sym e, rw e g)

pub returns : goal.returns
returns c =
    let q = c.requires in
    let e = c.lead.auto.next ∙ q.5 in (
      removed_nexts _ _ _ _ _ q.1 q.2 (omega (arith, q.0, q.3)) q.7 _ _ q.5 _ _ _ _ q.5 e c.lead.ensures
          c.unlink.ensures.0,
      rw e at c.unlink.ensures.1,
    )
