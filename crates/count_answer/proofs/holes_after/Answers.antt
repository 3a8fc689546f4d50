use mathlib.Core.Path.{◌≡◌, refl, sym, ◌∙◌}
use mathlib.Core.Bool.{true}
use Prim.Native.Nat.{◌<◌}
use native.Mathlib.Omega.{arith}
use Rattle.point_darts.specs.Dart.{mark}
use Rattle.answer.specs.Answer.{number_of}
use Rattle.region_depths.specs.Tree.{known}
use Rattle.region_depths.proofs.Climb.{known_in}
use Rattle.count_answer.specs.Count.{after}
use Rattle.count_answer.proofs.After.{after_refused}
use Rattle.count_answer.proofs.holes_after.Goals.{Else-not-is_known}
use Rattle.count_answer.proofs.holes_after.Goals.at as at
use Rattle.count_answer.proofs.holes_after.Goals as goal

-- The answer is done and the name is known.
module _ (c : Else-not-is_known) where
  done : number_of c.args.answer ≡ 0
  unfolding number_of
  done = rw c.in_ok-answer.was

  is_known : known c.args.parent.now c.args.name ≡ true
  is_known = sym c.is_known.ensures ∙ c.if-not-is_known.false

  name_small : c.args.name < mark
  name_small =
      let l = c.requires done in
      omega (arith, l.fits, known_in _ l.some _ is_known)

pub returns-in_err-answer : goal.returns-in_err-answer
returns-in_err-answer c = (after_refused _ _ c.in_err-answer.was _ c.from_residual.ensures.1 _ _, refl)

pub invariant_of-holes : goal.invariant_of-holes
invariant_of-holes c =
    record { limited = (c.requires (done (at.invariant_of-holes c).Else-not-is_known)).size }

pub holes-requires : goal.holes-requires
holes-requires c =
    let l = c.requires (done (at.holes-requires c).Else-not-is_known) in
    (l.sides, l.work, name_small (at.holes-requires c).Else-not-is_known)

pub returns : goal.returns
unfolding after
returns c =
    let l = c.requires (done (at.returns c).Else-not-is_known) in (
      rw (
        ← (l.rounds _ (name_small (at.returns c).Else-not-is_known)),
        ← c.holes.ensures.0,
        c.in_ok-answer.was,
        is_known (at.returns c).Else-not-is_known,
      ),
      c.holes.ensures.1 ∙ l.clear,
    )
