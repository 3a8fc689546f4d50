use mathlib.Core.Bool.{cond}
use mathlib.Core.Path.{◌≡◌, sym, ◌∙◌}
use Rattle.std.proofs.Common.{arith}
use Rattle.std.specs.Prelude.{Some, None}
use Rattle.deck_card.specs.declared.answer.Fault.{Fault}
use Rattle.std.proofs.lemmas.Result.{err_from_is_err_and}
use Rattle.deck_card.specs.Card.{columns, places, long}
use Rattle.deck_card.proofs.Parts.{whole_is}
use Rattle.deck_layout.proofs.Headings.{heading_fits, heading_bytes}
use Rattle.deck_faults.specs.Fault.{form, header}
use Rattle.deck_faults.proofs.Forms.{headed_is, header_formed, header_is, form_none}
use Rattle.deck_faults.proofs.header.size.Goals.{In_ok-refusal, In_ok-size, After-agrees}
use Rattle.deck_faults.proofs.header.size.Goals.at as at
use Rattle.deck_faults.proofs.header.size.Goals as goal

-- the form is that of a card with the number 1
formed : (c : In_ok-refusal) → form 1 c.args.card.now ≡ 0
formed c = sym c.in_ok-refusal.ensures

-- the size is one
named : (c : In_ok-size) → c.new.result ≡ Some c.in_ok-size.size
named c = grind arith

-- what is left to judge: the layout
decided : (c : After-agrees) → header c.args.card.now ≡ cond c.agrees.result 0 21
unfolding columns
decided c =
    simp (
      header_is _ (formed (at.After-agrees c).In_ok-refusal),
      headed_is,
      ← c.width-width.ensures,
      ← c.height-height.ensures,
      ← c.new.ensures.tested,
      named (at.After-agrees c).In_ok-size,
      ← c.heading-content.ensures,
      ← c.agrees.ensures,
    )

pub returns-in_err-refusal : goal.returns-in_err-refusal
returns-in_err-refusal c =
    let p = err_from_is_err_and c.from_residual.result c.from_residual.ensures.1 in
    rw (p.1, p.2) (record { fault = header_formed _ _ c.in_err-refusal.ensures; named = tt })

pub returns-in_err-size-clause-fault : goal.returns-in_err-size-clause-fault
returns-in_err-size-clause-fault c =
    let p = err_from_is_err_and c.from_residual-in_err-size.result c.from_residual-in_err-size.ensures.1 in
    let none : c.new.result ≡ None = grind arith in
    let fault : c.in_err-size.field-0.0 ≡ Fault.Header = grind arith in
    rw (p.1, p.2, fault)
    (simp (
      header_is _ (formed (at.returns-in_err-size-clause-fault c).In_ok-refusal),
      headed_is,
      ← c.width-width.ensures,
      ← c.height-height.ensures,
      ← c.new.ensures.tested,
      none,
    ))

pub agrees-requires-clause-content_fits : goal.agrees-requires-clause-content_fits
agrees-requires-clause-content_fits c =
    let w = c.width-width.result in
    let h = c.height-height.result in
    rw c.heading-content.ensures (heading_fits w h, heading_bytes w h)

pub agrees-requires-clause-columns_there : goal.agrees-requires-clause-columns_there
unfolding columns places long
agrees-requires-clause-columns_there c =
    let f = form_none 1 c.args.card.now (sym c.in_ok-refusal.ensures) in
    let n = (whole_is c.args.card.now f.whole_is).length_is in
    omega arith

pub returns-then-not-agrees : goal.returns-then-not-agrees
returns-then-not-agrees c =
    record { fault = rw (decided (at.returns-then-not-agrees c).After-agrees, c.if-not-agrees.true); named = tt }

pub returns : goal.returns
returns c =
    record {
      fault = rw (decided (at.returns c).After-agrees, c.if-not-agrees.false);
      named = (
        rw (named (at.returns c).In_ok-size) at c.new.ensures.width ∙ c.width-width.ensures,
        rw (named (at.returns c).In_ok-size) at c.new.ensures.height ∙ c.height-height.ensures,
      );
    }
