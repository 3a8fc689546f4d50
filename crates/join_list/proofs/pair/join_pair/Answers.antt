use mathlib.Core.Path.{refl, sym, ap, ◌∙◌}
use Rattle.answer.specs.Answer.{number_of}
use Rattle.answer.proofs.Outcome.{handed_on}
use Rattle.table_lengths.proofs.Tested.{stated_slots}
use Rattle.join_list.proofs.Pairing.{pair_number, pair_ready}
use Rattle.join_list.proofs.pair.join_pair.Goals as goal

pub asked-requires : goal.asked-requires
asked-requires c =
    let q = c.requires in
    λ z. (q.size, (stated_slots _ _ _ _ q.sizes).1.0)

pub returns-in_err-asked : goal.returns-in_err-asked
returns-in_err-asked c =
    let (n, e) = handed_on _ c.from_residual.result _ c.in_err-asked.was c.from_residual.ensures.1 in (
      ap number_of e ∙ pair_number _ _ _ _ c.requires _ _ _ c.asked.ensures,
      λ z. absurd (n (sym (ap number_of e) ∙ z)),
      λ z. (refl, refl, refl),
    )

pub unite-requires : goal.unite-requires
unfolding number_of
unite-requires c = pair_ready _ _ _ _ c.requires _ _ c.in_ok-asked.ensures

pub returns : goal.returns
unfolding number_of
returns c = (
  pair_number _ _ _ _ c.requires _ _ _ c.in_ok-asked.ensures,
  λ z. c.unite.ensures,
  λ z. absurd (z refl),
)
