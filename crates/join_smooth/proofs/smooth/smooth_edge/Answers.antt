use mathlib.Core.Path.{◌∙◌}
use Rattle.join_smooth.proofs.Splicing.{links_path, splice_loop, splice_edges}
use Rattle.join_smooth.proofs.smooth.smooth_edge.Goals as goal

pub returns-then-x-v : goal.returns-then-x-v
returns-then-x-v c = splice_loop _ _ _ _ c.get-x.ensures c.if-x-v.true

pub returns : goal.returns
returns c =
    links_path _ _ _ (c.splice_next.ensures _) (c.splice_other.ensures _)
    ∙ splice_edges _ _ _ _ _ c.get-x.ensures c.if-x-v.false c.get-y.ensures
