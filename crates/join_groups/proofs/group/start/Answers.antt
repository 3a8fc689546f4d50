use mathlib.Core.Path.{sym, ◌∙◌}
use native.Mathlib.Omega.{arith}
use Rattle.paper_laws.proofs.Marks.{within_fits}
use Rattle.join_groups.proofs.Regrouping.{names_some, sides_fit, standing_first}
use Rattle.join_groups.proofs.group.start.Goals as goal

pub take_one-requires : goal.take_one-requires
take_one-requires c =
    let p = c.requires in
    let (t, d, q) = p.5 in
    names_some _ _ c.args.size.limited t d _ q _ c.recover.ensures

pub list_sides-requires : goal.list_sides-requires
list_sides-requires c =
    let p = c.requires in
    let e = c.args.size.limited in
    let (t, d, q) = p.5 in
    (p.0 ∙ sym p.2, omega (arith, p.2, within_fits _ _ e), p.3 ∙ sym p.4, sides_fit _ _ e t d _ q _ p.3)

pub returns : goal.returns
returns c t d q =
    let p = c.requires in
    let k = c.list_sides.auto in
    standing_first _ _ c.args.size.limited t d _ q p.0 _ _ _ _ _ c.recover.ensures c.take_one.ensures
    (c.take_one.auto.names ∙ c.recover.auto.labels ∙ p.1) (k.list ∙ p.2) (k.first ∙ p.3) (k.last ∙ p.4) c.list_sides.ensures
