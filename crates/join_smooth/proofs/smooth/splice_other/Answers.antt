use mathlib.Core.Path.{◌∙◌}
use Rattle.point_darts.specs.Dart.{mark}
use Rattle.join_smooth.proofs.Splicing.{splice_others}
use Rattle.join_smooth.proofs.smooth.splice_other.Goals as goal

pub returns : goal.returns
unfolding mark
returns c =
    λ n. c.put_pair-2.ensures ∙ splice_others n _ _ _ _ _ _ c.put_pair.ensures
