use mathlib.Core.Path.{◌∙◌}
use Rattle.paper.specs.Joining.{rest1, rest3, joined}
use Rattle.table_lengths.proofs.Tested.{stated_names, stated_slots}
use Rattle.join_rule.proofs.Applying.{cleared_long}
use Rattle.join_rule.proofs.Readiness.{ready_found}
use Rattle.join_rule.proofs.apply.apply.Goals as goal

pub unite-requires : goal.unite-requires
unite-requires c =
    ready_found _ _ _ _ _ _ _ _ _ _ _ _ c.requires

pub find_parents-requires : goal.find_parents-requires
find_parents-requires c =
    let q = c.requires in
    let z = stated_slots _ _ _ _ q.sizes in (
      c.unite.auto.side1 ∙ z.1.0,
      (stated_names _ _ _ _ q.sizes).0,
      c.unite.auto.back ∙ z.1.1.1.1.0,
      c.unite.ensures.1,
    )

pub returns : goal.returns
unfolding joined rest1 rest3
returns c = (
  rw c.find_parents.ensures.0 c.unite.ensures.0,
  c.find_parents.ensures.1 ∙ cleared_long _ _ _ _ c.unite.auto.back c.unite.auto.list,
)
