use mathlib.Core.Path.{refl}
use Rattle.std.specs.Prelude.{Ok, Err}
use Rattle.answer.specs.Answer.{number_of}
use Rattle.answer.proofs.Outcome.{told_on}
use Rattle.level_call.proofs.Refused.{all_fit, refused, done}
use Rattle.level_call.proofs.draw.draw.Goals as goal

pub returns-in_err-size : goal.returns-in_err-size
unfolding number_of
returns-in_err-size c =
    let r = c.in_err-size in
    told_on (Err _) c.from_residual.result _ refl c.from_residual.ensures.1 _ _ _
    (refused _ _ _ _ _ _ (Err _) r.ensures.number)

pub fill-requires : goal.fill-requires
unfolding number_of
fill-requires c =
    let r = c.in_ok-size.ensures in
    let (w, l, s, t) = all_fit _ _ _ _ _ r.number in
    rw (r.size.0, r.size.1)
    (l, s, t.0, t.1.0, t.1.1.0, t.1.1.1.0, t.1.1.1.1.0, t.1.1.1.1.1.0, t.1.1.1.1.1.1.0)

pub returns : goal.returns
unfolding number_of
returns c =
    let r = c.in_ok-size.ensures in
    done _ _ _ _ _ _ (Ok tt) r.number refl _ _ r.size _ _ c.fill.ensures.0 c.fill.ensures.1
