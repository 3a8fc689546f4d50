use mathlib.Core.Bool.{cond}
use mathlib.Core.Path.{◌≡◌, sym, ◌∙◌}
use native.Mathlib.Omega.{arith}
use Rattle.deck_card.specs.Card.{columns, places, long}
use Rattle.deck_card.proofs.Parts.{whole_is}
use Rattle.deck_faults.specs.Fault.{form}
use Rattle.deck_faults.proofs.Forms.{bears_is}
use Rattle.deck_faults.proofs.form.refusal.Goals.{After-agrees}
use Rattle.deck_faults.proofs.form.refusal.Goals.at as at
use Rattle.deck_faults.proofs.form.refusal.Goals as goal

-- what is left to judge: the number
decided : (c : After-agrees)
    → let s = c.args in
    form s.number s.card.now ≡ cond c.agrees.result 0 22
unfolding columns places form
decided c =
    simp (
      ← c.is_empty.ensures,
      c.if-is_empty.false,
      ← c.whole.ensures,
      c.if-not-whole.false,
      bears_is,
      ← c.agrees.ensures,
    )

pub returns-then-is_empty : goal.returns-then-is_empty
unfolding form
returns-then-is_empty c = rw (← c.is_empty.ensures, c.if-is_empty.true)

pub returns-then-not-whole : goal.returns-then-not-whole
unfolding form
returns-then-not-whole c =
    simp (
      ← c.is_empty.ensures,
      c.if-is_empty.false,
      ← c.whole.ensures,
      c.if-not-whole.true,
    )

pub returns-then-not-agrees : goal.returns-then-not-agrees
returns-then-not-agrees c = rw (decided (at.returns-then-not-agrees c).After-agrees, c.if-not-agrees.true)

pub returns : goal.returns
returns c = rw (decided (at.returns c).After-agrees, c.if-not-agrees.false)

pub agrees-requires-clause-columns_there : goal.agrees-requires-clause-columns_there
unfolding columns places long
agrees-requires-clause-columns_there c =
    let n = (whole_is c.args.card.now (sym c.whole.ensures ∙ c.if-not-whole.false)).length_is in
    omega arith
