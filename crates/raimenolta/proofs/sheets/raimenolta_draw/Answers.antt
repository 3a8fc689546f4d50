use Rattle.answer.specs.Answer.{told}
use Rattle.raimenolta.proofs.sheets.raimenolta_draw.Goals as goal

pub returns : goal.returns
unfolding told
returns c =
    rw c.number.ensures
    c.draw-drawn.ensures
