use Rattle.answer.specs.Answer.{told}
use Rattle.raimenolta.proofs.drawings.raimenolta_check.Goals as goal

pub returns : goal.returns
unfolding told
returns c =
    rw c.number.ensures
    c.check-answer.ensures
