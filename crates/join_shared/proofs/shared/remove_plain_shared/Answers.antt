use mathlib.Core.Path.{◌∙◌}
use Rattle.paper_laws.proofs.Marks.{within_fits}
use Rattle.join_darts.specs.Listed.{bounds}
use Rattle.join_darts.proofs.Listing.{bounded_all}
use Rattle.join_shared.proofs.Counting.{shared_counted}
use Rattle.join_shared.proofs.shared.remove_plain_shared.Goals as goal

pub remove_nexts-requires : goal.remove_nexts-requires
remove_nexts-requires c =
    let q = c.requires in
    (within_fits _ _ c.args.size.limited, q.0, q.1, q.2, q.3, q.4, bounded_all _ _ _ _ _ _ _ q.6, rw c.fill_reversals.ensures q.7)

pub returns : goal.returns
returns c =
    let q = c.requires in
    let r = rw c.fill_reversals.ensures at c.remove_nexts.ensures in
    (r.0, r.1 (record { test = bounds _ _ _; list = q.6 }) ∙ shared_counted _ _ _ _ _)
