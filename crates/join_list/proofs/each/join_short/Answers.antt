use mathlib.Core.Path.{◌∙◌}
use Rattle.table_lengths.proofs.Tested.{stated_names, stated_slots}
use Rattle.join_rule.proofs.Applying.{cleared_long}
use Rattle.join_list.proofs.Ending.{open_found, all_ended}
use Rattle.join_list.proofs.each.join_short.Goals as goal

pub join_each-end-requires : goal.join_each-end-requires
join_each-end-requires c =
    let q = c.requires in
    (q.0, open_found _ _ _ _ _ _ _ _ _ _ _ q.1)

pub parents_after-requires : goal.parents_after-requires
parents_after-requires c =
    let q = c.requires in
    let k = c.join_each-end.auto in
    let z = stated_slots _ _ _ _ q.1.sizes in
    let l = c.join_each-end.ensures.1 in (
      k.side1 ∙ z.1.0,
      (stated_names _ _ _ _ q.1.sizes).0,
      k.back ∙ z.1.1.1.1.0,
      λ y. let (_, b, m) = l.none y in rw (b, m) q.2,
      l.some,
    )

pub returns : goal.returns
returns c =
    let q = c.requires in
    let k = c.join_each-end.auto in
    let p = c.parents_after.ensures in (
      all_ended _ _ _ _ _ _ _ _ _ _ _ q.1 _ _ _ _ _ _ _ _ _ _ _ _ c.join_each-end.ensures.0 c.join_each-end.ensures.1 p.0
          p.1 _ c.told.ensures,
      p.2 ∙ cleared_long _ _ _ _ k.back k.list,
    )
