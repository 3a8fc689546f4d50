use Rattle.point_darts.specs.Dart.{mark}
use Rattle.join_close.proofs.Closing.{move_loop}
use Rattle.join_close.proofs.close.move_loop.Goals as goal

pub returns : goal.returns
unfolding mark
returns c =
    move_loop _ _ _ _ _ _ _ _ _ _ c.put_pair.ensures c.put_pair-2.ensures c.put_pair-3.ensures
    c.put_pair-4.ensures
