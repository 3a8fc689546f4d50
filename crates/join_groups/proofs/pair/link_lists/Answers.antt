use Rattle.join_groups.proofs.Pairing.{lists_swap}
use Rattle.join_groups.proofs.pair.link_lists.Goals as goal

pub returns-then-a-b : goal.returns-then-a-b
returns-then-a-b c s g d e l i j m o p = c.link_lists.ensures s g d e l i m o p

pub returns-else-a-b : goal.returns-else-a-b
returns-else-a-b c s g d e l i j m o p q =
    lists_swap s g _ _ _ _ _ (c.link_lists-else-a-b.ensures s g e d l j m p o q)
