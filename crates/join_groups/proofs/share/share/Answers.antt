use mathlib.Core.Path.{◌∙◌}
use Rattle.join_groups.proofs.Sharing.{adjoin_swap}
use Rattle.join_groups.proofs.Standing.{passed_chosen, chosen_swap, meets_ready, meets_told}
use Rattle.join_groups.proofs.share.share.Goals as goal

pub meets-requires : goal.meets-requires
meets-requires c =
    let (z, p) = c.requires in
    let (h, e, u, v) = p in
    meets_ready _ h _ _ _ _ _ e u v _ _ _ (passed_chosen _ _ _ z) c.get-then-get.ensures

pub returns-then-get : goal.returns-then-get
returns-then-get c h e u v =
    meets_told _ h _ _ _ _ _ e u v _ _ _ (passed_chosen _ _ _ c.requires.0) c.get-then-get.ensures _
    c.meets.auto.groups _ c.meets.ensures

pub meets-requires-2 : goal.meets-requires-2
meets-requires-2 c =
    let (z, p) = c.requires in
    let (h, e, u, v) = p in
    meets_ready _ h _ _ _ _ _ e u v _ _ _ (chosen_swap (passed_chosen _ _ _ z)) c.get-3.ensures

pub returns : goal.returns
returns c h e u v =
    let (o, q) =
    meets_told _ h _ _ _ _ _ e u v _ _ _ (chosen_swap (passed_chosen _ _ _ c.requires.0)) c.get-3.ensures _
    c.meets-2.auto.groups _ c.meets-2.ensures in
    (o, q ∙ adjoin_swap _ h _ _ _)
