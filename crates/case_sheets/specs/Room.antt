-- room == how long a table of a program can be
-- WorksFit l, Fits l == there is room for tables of the lengths l
use Rattle.std.specs.Prelude.{ℕ, ◌≤◌}
use Rattle.case_sheets.specs.declared.lengths.WorkLengths.{WorkLengths}
use Rattle.case_sheets.specs.declared.lengths.Lengths.{Lengths}

abbrev pub room : ℕ
room = 32416

pub record WorksFit (l : WorkLengths) : Type 0 where
  pub a : l.a ≤ room
  pub b : l.b ≤ room
  pub c : l.c ≤ room
  pub d : l.d ≤ room

pub record Fits (l : Lengths) : Type 0 where
  pub next1 : l.next1 ≤ room
  pub side1 : l.side1 ≤ room
  pub next3 : l.next3 ≤ room
  pub other3 : l.other3 ≤ room
  pub parent : l.parent ≤ room
  pub cells : l.cells ≤ room
  pub borders : l.borders ≤ room
  pub works : WorksFit l.works
