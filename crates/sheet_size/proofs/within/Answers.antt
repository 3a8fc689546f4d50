use borrow.Author.Tests.{le-leb, lt-leb}
use Rattle.sheet_size.specs.Size.{widest, within}
use Rattle.sheet_size.proofs.within.Goals as goal

pub returns-then-width-lt1 : goal.returns-then-width-lt1
unfolding within
returns-then-width-lt1 c = simp (lt-leb 1 _ c.if-width-lt1.true)

pub returns-then-width-gt-WIDEST : goal.returns-then-width-gt-WIDEST
unfolding within
returns-then-width-gt-WIDEST c = simp (le-leb 1 _ c.if-width-lt1.false, lt-leb _ widest c.if-width-gt-WIDEST.true)

pub returns-then-height-lt1 : goal.returns-then-height-lt1
unfolding within
returns-then-height-lt1 c =
    simp (le-leb 1 _ c.if-width-lt1.false, le-leb _ widest c.if-width-gt-WIDEST.false, lt-leb 1 _ c.if-height-lt1.true)

pub returns : goal.returns
unfolding within
returns c =
    simp (le-leb 1 _ c.if-width-lt1.false, le-leb _ widest c.if-width-gt-WIDEST.false, le-leb 1 _ c.if-height-lt1.false)
