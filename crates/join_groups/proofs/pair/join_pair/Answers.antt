use mathlib.Core.Path.{sym, ap, ◌∙◌}
use native.Mathlib.Omega.{arith}
use Rattle.answer.specs.Answer.{number_of}
use Rattle.answer.proofs.Outcome.{handed_on}
use Rattle.join_groups.proofs.Standing.{Chosen, passed_chosen}
use Rattle.join_groups.proofs.Pairing.{pair_named, pair_apart, pair_done, pair_ready, standing_joined}
use Rattle.join_groups.proofs.pair.join_pair.Goals.{After-share}
use Rattle.join_groups.proofs.pair.join_pair.Goals.at as at
use Rattle.join_groups.proofs.pair.join_pair.Goals as goal

-- the two names pass their tests
chosen : (s : After-share) → let b = s.args in Chosen b.cells.now b.a b.b
unfolding number_of
chosen s = passed_chosen _ _ _ (sym s.in_ok-check_names.ensures)

pub returns-in_err-check_names : goal.returns-in_err-check_names
returns-in_err-check_names c h u v =
    let (n, e) = handed_on _ c.from_residual.result _ c.in_err-check_names.was c.from_residual.ensures.1 in (
      ap number_of e ∙ pair_named _ h _ _ _ _ _ _ u v _ _ _ c.check_names.ensures n,
      λ z. absurd (n (sym (ap number_of e) ∙ z)),
      λ z. v,
    )

pub share-requires : goal.share-requires
unfolding number_of
share-requires c = let (h, u, v) = c.requires in (sym c.in_ok-check_names.ensures, (h, _, u, v))

pub returns-then-not-share : goal.returns-then-not-share
unfolding number_of
returns-then-not-share c h u v =
    let (o, r) = c.share.ensures h _ u v in (
      pair_apart _ h _ _ _ _ _ _ u v _ _ c.in_ok-check_names.ensures (sym c.if-not-share.true ∙ r),
      λ e. absurd (omega (arith, e)),
      λ e. o,
    )

pub put_together-requires : goal.put_together-requires
put_together-requires c =
    let (h, u, v) = c.requires in
    let (o, _) = c.share.ensures h _ u v in
    pair_ready _ h _ _ _ _ _ _ u o _ _ (chosen (at.put_together-requires c).After-share)

pub returns : goal.returns
unfolding number_of
returns c h u v =
    let k = c.put_together.auto in
    let q = c.put_together.ensures in
    let (o, r) = c.share.ensures h _ u v in
    let i = sym c.if-not-share.false ∙ r in (
      pair_done _ h _ _ _ _ _ _ u v _ _ c.in_ok-check_names.ensures i,
      λ e.
          standing_joined _ h _ _ _ _ _ _ u o _ _ (chosen (at.returns c).After-share) (sym i) _ _ _ _
          k.cells k.groups k.list k.last q.counted q.linked q.listed,
      λ e. absurd (omega (arith, e)),
    )
