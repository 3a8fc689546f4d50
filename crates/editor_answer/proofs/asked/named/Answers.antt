use mathlib.Core.Path.{ap, ◌∙◌}
use Rattle.answer.specs.Answer.{number_of}
use Rattle.answer.proofs.Outcome.{handed_on}
use Rattle.editor_answer.proofs.Asking.{named_refused}
use Rattle.editor_answer.proofs.asked.named.Goals as goal

pub returns-in_err-answer : goal.returns-in_err-answer
returns-in_err-answer c =
    let (n, e) = handed_on _ c.from_residual.result _ c.in_err-answer.was c.from_residual.ensures.1 in
    ap number_of e ∙ named_refused _ _ _ _ _ _ n
