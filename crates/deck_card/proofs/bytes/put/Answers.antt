use mathlib.Core.Path.{◌∙◌}
use Prim.Native.Nat.{◌≤◌, ◌<◌}
use native.Mathlib.Omega.{arith}
use lib.ListN.{length, length-set}
use Rattle.deck_card.specs.Card.{card}
use Rattle.deck_card.proofs.Cards.{length_card}
use Rattle.deck_card.proofs.Table.{fill_more, fill_end}
use Rattle.deck_card.proofs.bytes.put.Goals as goal

pub loop-place-preserved : goal.loop-place-preserved
loop-place-preserved c =
    let l = c.loop-place in
    let n = length_card c.args.number c.args.content.now c.requires.content_fits.0 in
    let b : l.place < length l.bytes = omega arith in
    let h : l.place < length (card c.args.number c.args.content.now) = omega arith in (
      length-set l.bytes l.place c.byte.result ∙ l.invariant.0,
      fill_more l.bytes (card c.args.number c.args.content.now) l.place c.byte.result
          b h l.invariant.1 c.byte.ensures,
    )

pub returns : goal.returns
returns c =
    let l = c.loop-place in
    let n = length_card c.args.number c.args.content.now c.requires.content_fits.0 in
    let b : length l.bytes ≤ l.place = omega arith in
    let h : length (card c.args.number c.args.content.now) ≤ l.place = omega arith in
    fill_end l.bytes (card c.args.number c.args.content.now) l.place b h l.invariant.1
