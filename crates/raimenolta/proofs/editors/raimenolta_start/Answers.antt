use Rattle.answer.specs.Answer.{told}
use Rattle.raimenolta.proofs.editors.raimenolta_start.Goals as goal

pub returns : goal.returns
unfolding told
returns c =
    rw c.number.ensures
    c.start-started.ensures
