use native.Mathlib.Omega.{arith}
use Rattle.region_darts.proofs.Linking.{link_lists}
use Rattle.region_darts.proofs.list.link_lists.Goals as goal

pub returns : goal.returns
returns c = λ s g d e same named room o p r.
    link_lists s g _ _ _ _ _ d e same named room o p r (omega arith) _ _ _ _ _ c.get.ensures
    c.get-2.ensures c.get-3.ensures c.put.ensures c.put-2.ensures
