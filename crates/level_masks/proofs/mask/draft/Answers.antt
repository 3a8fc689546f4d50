use Rattle.level_masks.proofs.Drafting.{ruled_masks, masked_masks}
use Rattle.level_masks.proofs.mask.draft.Goals as goal

pub returns-then-level-eq0 : goal.returns-then-level-eq0
returns-then-level-eq0 c = ruled_masks _ _ _ _ _ c.if-level-eq0.true c.rule.ensures

pub returns : goal.returns
returns c = masked_masks _ _ _ _ _ c.if-level-eq0.false c.masks.ensures
