use mathlib.Core.Path.{◌≡◌, sym, ◌∙◌}
use Rattle.answer.specs.Answer.{number_of}
use Rattle.region_depths.proofs.Climb.{known_in}
use Rattle.count_answer.proofs.After.{after_refused}
use Rattle.count_answer.proofs.depth_after.Goals as goal

pub returns-in_err-answer : goal.returns-in_err-answer
returns-in_err-answer c = after_refused _ _ c.in_err-answer.was _ c.from_residual.ensures.1 _ _

pub depth-requires : goal.depth-requires
unfolding number_of
depth-requires c =
    let p = c.requires in
    let z : number_of c.args.answer ≡ 0 = rw c.in_ok-answer.was in
    let e = sym c.is_known.ensures ∙ c.if-not-is_known.false in
    (p.falls z, known_in _ (p.some z) _ e, e)
