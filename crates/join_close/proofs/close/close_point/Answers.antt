use mathlib.Core.Path.{◌∙◌}
use Rattle.join_close.proofs.Closing.{top_fit, close_other, close_edges, close_big, close_loop}
use Rattle.join_close.proofs.close.close_point.Goals as goal

pub returns-then-not-two : goal.returns-then-not-two
returns-then-not-two c =
    close_other _ _ _ _ _ c.mask-curves.ensures.0 _ c.two.ensures (c.if-not-two.true)

pub returns-then-x-v : goal.returns-then-x-v
returns-then-x-v c =
    close_edges _ _ _ _ _ c.mask-curves.ensures.0 _ c.two.ensures (c.if-not-two.false) _ _ _
    c.seen-seen.ensures.0 c.seen-seen.ensures.1 c.get-x.ensures c.if-x-v.true

pub returns-then-not-two-2 : goal.returns-then-not-two-2
returns-then-not-two-2 c =
    close_big _ _ _ _ _ c.mask-curves.ensures.0 _ c.two.ensures (c.if-not-two.false) _ _ _
    c.seen-seen.ensures.0 c.seen-seen.ensures.1 c.get-x.ensures c.if-x-v.false _
    c.mask-left.ensures.0 _ c.two-2.ensures (c.if-not-two-2.true)

pub mask-requires-2 : goal.mask-requires-2
mask-requires-2 c =
    let q = c.requires in
    (top_fit _ _ _ q.6 q.1, top_fit _ _ _ q.6 q.3)

pub seen-anchor-requires : goal.seen-anchor-requires
seen-anchor-requires c =
    let q = c.requires in
    top_fit _ _ _ q.6 q.1

pub returns : goal.returns
returns c =
    c.move_loop.ensures
    ∙ close_loop _ _ _ _ _ c.mask-curves.ensures.0 _ c.two.ensures (c.if-not-two.false) _ _ _
    c.seen-seen.ensures.0 c.seen-seen.ensures.1 c.get-x.ensures c.if-x-v.false _
    c.mask-left.ensures.0 _ c.two-2.ensures (c.if-not-two-2.false) _ c.mask-2.ensures.0
    _ _ c.seen-anchor.ensures.0 c.seen-anchor.ensures.1
