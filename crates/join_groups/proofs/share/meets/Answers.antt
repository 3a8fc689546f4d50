use mathlib.Core.Path.{◌≡◌, ap, ◌∙◌}
use mathlib.Core.Bool.{false≢true, true≢false}
use native.Mathlib.Omega.{arith}
use Rattle.point_darts.specs.Dart.{mark, reversal}
use Rattle.paper.specs.Joining.{at}
use Rattle.table_entries.proofs.Entries.{on_below}
use Rattle.join_groups.proofs.Walking.{walking_none, grown_on, walked_out, dart_sided, name_below, walked_met, walking_on}
use Rattle.join_groups.proofs.share.meets.Goals.{After-get}
use Rattle.join_groups.proofs.share.meets.Goals.at as at
use Rattle.join_groups.proofs.share.meets.Goals as goal

-- the name that is read is the one on the dart's left hand
facing : (c : After-get)
    → let s = c.args in c.get.result ≡ at s.side.now (reversal s.width c.loop.dart)
facing c = c.get.ensures ∙ ap (at _) c.back-back.ensures

pub loop-init : goal.loop-init
loop-init c = walking_none _ _ _ _ _ _

pub returns-then-dart : goal.returns-then-dart
unfolding mark
returns-then-dart c l f =
    let v = c.loop.invariant in
    let (_, m, _, _) = c.requires in
    (v.kept l f, λ e. absurd (false≢true e), λ e. walked_out _ _ _ _ _ _ _ _ _ v m c.if-dart.true l f)

pub back-back-requires : goal.back-back-requires
unfolding mark
back-back-requires c =
    let (m, _, _, k) = c.requires in
    omega (arith, m, on_below _ _ (dart_sided _ _ _ _ _ _ _ _ _ c.loop.invariant c.if-dart.false k).0)

pub group_of-requires : goal.group_of-requires
unfolding mark
group_of-requires c =
    let v = c.loop.invariant in
    let (_, _, g, k) = c.requires in
    (grown_on _ _ _ _ _ _ _ _ _ v g, name_below _ _ _ _ _ _ _ _ _ v c.if-dart.false k _ (facing c))

pub returns-then-group_of-y : goal.returns-then-group_of-y
unfolding mark
returns-then-group_of-y c l f =
    let r =
    walked_met _ _ _ _ _ _ _ _ _ c.loop.invariant c.if-dart.false c.requires.3 _
    c.group_of.auto.groups _ _ (facing (at.returns-then-group_of-y c).After-get) c.group_of.ensures c.if-group_of-y.true l f in
    (r.0, λ e. r.1, λ e. absurd (true≢false e))

pub loop-preserved : goal.loop-preserved
unfolding mark
loop-preserved c =
    rw c.get-dart.ensures
    (walking_on _ _ _ _ _ _ _ _ _ c.loop.invariant c.if-dart.false c.requires.3 _
    c.group_of.auto.groups _ _ (facing (at.loop-preserved c).After-get) c.group_of.ensures c.if-group_of-y.false)
