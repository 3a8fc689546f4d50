use Rattle.table_entries.proofs.Masked.{mask_sum}
use Rattle.table_entries.proofs.present.mask_of.Goals as goal

pub returns : goal.returns
returns c =
    mask_sum _ _ _ _ _ _ _ _ c.where_on-e.ensures.0 c.where_on-s.ensures.0
    c.where_on-w.ensures.0 c.where_on-n.ensures.0
