use mathlib.Core.Path.{◌∙◌}
use Rattle.point_darts.specs.Dart.{mark}
use Rattle.join_smooth.proofs.Splicing.{splice_nexts}
use Rattle.join_smooth.proofs.smooth.splice_next.Goals as goal

pub returns : goal.returns
unfolding mark
returns c =
    λ o. c.put_pair-2.ensures
    ∙ splice_nexts _ o _ _ _ _ _ _ _ c.get-after_v.ensures c.get-after_u.ensures c.put_pair.ensures
