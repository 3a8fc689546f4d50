use Rattle.level_masks.proofs.Ruling.{Ruling}
use Rattle.level_masks.proofs.mask.rule.Given as goal

abbrev pub invariant-loop-i : goal.invariant-loop-i
invariant-loop-i l = Ruling l.size.width l.size.height l.i l.x l.y l.initial.masks l.masks
