use mathlib.Core.List.{List}
use Prim.Native.Nat.{ℕ, suc, ◌≤◌}
use Rattle.laws.specs.Least.{tie}
use Rattle.table_forest.specs.Forest.{Forest}
use Rattle.table_forest.proofs.Label.{led_planted, found_planted, roots_room, tied_alike, tied, instead_le, tied_instead}
use Rattle.table_forest.proofs.nodes.plant.Goals.{After-instead-second}
use Rattle.table_forest.proofs.nodes.plant.Goals.at as at
use Rattle.table_forest.proofs.nodes.plant.Goals as goal

module _ (s : After-instead-second) where
  first-le : s.instead-first.result ≤ s.args.i
  first-le = instead_le _ _ _ _ s.requires.2 s.requires.3 s.instead-first.ensures

  second-le : s.instead-second.result ≤ s.args.i
  second-le = instead_le _ _ _ _ s.requires.3 s.requires.2 s.instead-second.ensures

  -- a node tied with the two that were chosen is tied with the two that were given
  as-given : (l t : List ℕ) → let i = s.args.i in
      Forest (suc i) (tie i s.instead-second.result (tie i s.instead-first.result l)) t
      → Forest (suc i) (tie i s.args.k (tie i s.args.j l)) t
  as-given l t = tied_instead _ _ _ _ _ _ l t s.instead-first.ensures s.instead-second.ensures

pub returns-then-a-b : goal.returns-then-a-b
returns-then-a-b c g =
    let s = (at.returns-then-a-b c).After-instead-second in
    as-given s _ _ (tied_alike _ _ _ _ g c.requires.1 (first-le s) (second-le s) c.if-a-b.true)

pub find-x-requires : goal.find-x-requires
find-x-requires c =
    let s = (at.find-x-requires c).After-instead-second in
    led_planted _ _ _ _ c.requires.0 c.requires.1 (first-le s) (second-le s)

pub find-y-requires : goal.find-y-requires
find-y-requires c =
    let s = (at.find-y-requires c).After-instead-second in
    let (g, h, _, _) = c.requires in
    found_planted _ _ _ _ g h (first-le s) (second-le s) _ _
    (c.find-x.ensures (led_planted _ _ _ _ g h (first-le s) (second-le s)))

pub link-root-requires : goal.link-root-requires
link-root-requires c =
    let s = (at.link-root-requires c).After-instead-second in
    let (g, h, _, _) = c.requires in
    let x = c.find-x.ensures (led_planted _ _ _ _ g h (first-le s) (second-le s)) in
    let y = c.find-y.ensures (found_planted _ _ _ _ g h (first-le s) (second-le s) _ _ x) in
    roots_room _ _ _ _ g h (first-le s) (second-le s) _ _ x _ _ y

pub returns : goal.returns
returns c g =
    let s = (at.returns c).After-instead-second in
    let h = c.requires.1 in
    let x = c.find-x.ensures (led_planted _ _ _ _ g h (first-le s) (second-le s)) in
    let y = c.find-y.ensures (found_planted _ _ _ _ g h (first-le s) (second-le s) _ _ x) in
    let l = c.link-root.ensures in
    as-given s _ _ (tied _ _ _ _ g h (first-le s) (second-le s) _ _ x _ _ y _ _ l.smaller l.linked)
