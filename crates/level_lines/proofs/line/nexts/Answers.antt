use mathlib.Core.Path.{◌≡◌}
use Prim.Native.Nat.{ℕ, ◌+◌, ◌*◌, ◌-◌, ◌≤◌, ◌<◌}
use native.Mathlib.Omega.{arith}
use lib.ListN.{length}
use Rattle.point_darts.specs.Dart.{mark, dart}
use Rattle.paper.specs.Level.{marked}
use Rattle.point_darts.proofs.Fit.{point_fits}
use Rattle.table_entries.proofs.Entries.{at_out}
use Rattle.table_entries.proofs.Passed.{Passed, passed_none, passed_room, passed_more, passed_so_far, passed_all}
use Rattle.level_lines.specs.Line.{onward, entry_of, nexts}
use Rattle.level_lines.proofs.Pointing.{beside_fit, next_beside, lines_in, two_rows}
use Rattle.level_lines.proofs.line.nexts.Goals.{After-points-n, In-loop-p, In-loop-p-2, In-loop-p-3, After-loop-p-3}
use Rattle.level_lines.proofs.line.nexts.Goals.at as at
use Rattle.level_lines.proofs.line.nexts.Goals as goal

-- What is known of the size and the tables before the loops.
module _ (a : After-points-n) where
  rows_in : a.args.size.width + 1 + (a.args.size.width + 1) ≤ a.points-n.result
  rows_in = omega (arith, a.points-n.ensures, two_rows _ _ a.args.size.limited)

  point-0 : 0 < a.points-n.result
  point-0 = omega (arith, rows_in)

  none : Passed a.args.size.width a.args.size.height
      (entry_of a.args.masks.now (onward a.args.size.width a.args.masks.now)) 0 a.args.next.now
      a.args.next.now
  none = passed_none _ _ _ _ a.requires.1

  module _ (p : ℕ) (b : p < a.points-n.result) where
    point-in : p < length a.args.masks.now
    point-in = omega (arith, a.requires.0, a.points-n.ensures)

    fits : dart p 3 + 4 * (a.args.size.width + 2) < mark
    fits = point_fits _ _ a.args.size.limited _ a.points-n.ensures p b

    far-fits : p + (a.args.size.width + 1) < 65535
    unfolding mark dart
    far-fits = omega (arith, fits)

-- The point at hand in the first row, in the rows between, and in the last.
module _ (l : In-loop-p) where
  south-in : l.loop-p.p + (l.args.size.width + 1) < l.points-n.result
  south-in = omega (arith, rows_in (at.In-loop-p l).After-points-n, l.loop-p-test.true)

  inside : l.loop-p.p + 1 < l.points-n.result
  inside = omega (arith, south-in)

  here : l.loop-p.p < l.points-n.result
  here = omega (arith, inside)

  near : l.loop-p.p + (l.args.size.width + 1) < 65535
  near = far-fits (at.In-loop-p l).After-points-n _ here

module _ (l : In-loop-p-2) where
  south-in2 : l.loop-p-2.p + (l.args.size.width + 1) < l.points-n.result
  south-in2 = omega (arith, l.loop-p-2-test.true)

  inside2 : l.loop-p-2.p + 1 < l.points-n.result
  inside2 = omega (arith, south-in2)

  here2 : l.loop-p-2.p < l.points-n.result
  here2 = omega (arith, inside2)

  near2 : l.loop-p-2.p + (l.args.size.width + 1) < 65535
  near2 = far-fits (at.In-loop-p-2 l).After-points-n _ here2

module _ (l : In-loop-p-3) where
  inside3 : l.loop-p-3.p + 1 < l.points-n.result
  inside3 = omega (arith, l.loop-p-3-test.true)

  here3 : l.loop-p-3.p < l.points-n.result
  here3 = omega (arith, inside3)

  near3 : l.loop-p-3.p + (l.args.size.width + 1) < 65535
  near3 = far-fits (at.In-loop-p-3 l).After-points-n _ here3

  north-in3 : l.args.size.width + 1 ≤ l.loop-p-3.p
  north-in3 = omega (arith, rows_in (at.In-loop-p-3 l).After-points-n, l.loop-p-3.auto)

-- The last point.
module _ (e : After-loop-p-3) where
  last : e.points-n.result - 1 < e.points-n.result
  last = omega (arith, point-0 (at.After-loop-p-3 e).After-points-n)

  all-but-last : Passed e.args.size.width e.args.size.height
      (entry_of e.args.masks.now (onward e.args.size.width e.args.masks.now)) (e.points-n.result - 1) e.loop-p-2.next
      e.loop-p-3.next
  all-but-last =
      let q : e.loop-p-3.p ≡ e.points-n.result - 1 = omega (arith, rows_in (at.After-loop-p-3 e).After-points-n, e.loop-p-3-test.false) in
      rw q at e.loop-p-3.invariant

pub overflow_add-row : goal.overflow_add-row
overflow_add-row c = omega (arith, rows_in (at.overflow_add-row c).After-points-n)

pub next_at-requires : goal.next_at-requires
next_at-requires c =
    let a = (at.next_at-requires c).After-points-n in
    let b = point-0 a in
    (point-in a _ b, fits a _ b, passed_room _ _ _ _ c.points-n.ensures _ _ _ (none a) b)

pub loop-p-init : goal.loop-p-init
loop-p-init c =
    let a = (at.loop-p-init c).After-points-n in
    let r = passed_more _ _ _ _ c.points-n.ensures _ _ _ (none a) (point-0 a) _ c.next_at.ensures in
    passed_so_far _ _ _ _ _ _ r

pub besides-far-requires : goal.besides-far-requires
besides-far-requires c = omega (arith, near c)

pub overflow_add-p : goal.overflow_add-p
overflow_add-p c =
    let l = (at.overflow_add-p c).In-loop-p in
    omega (arith, near l)

pub bounds-masks-p : goal.bounds-masks-p
bounds-masks-p c =
    let a = (at.bounds-masks-p c).After-points-n in
    let l = (at.bounds-masks-p c).In-loop-p in
    point-in a _ (omega (arith, south-in l))

pub bounds-masks-0 : goal.bounds-masks-0
bounds-masks-0 c =
    let a = (at.bounds-masks-0 c).After-points-n in
    let l = (at.bounds-masks-0 c).In-loop-p in
    point-in a _ (omega (arith, inside l))

pub lines_beside-lines-requires : goal.lines_beside-lines-requires
lines_beside-lines-requires c =
    let a = (at.lines_beside-lines-requires c).After-points-n in
    let l = (at.lines_beside-lines-requires c).In-loop-p in
    (c.loop-p.auto.p, point-in a _ (inside l))

pub follow_four-requires : goal.follow_four-requires
follow_four-requires c =
    let a = (at.follow_four-requires c).After-points-n in
    let l = (at.follow_four-requires c).In-loop-p in
    beside_fit _ _ _ _ _ _ (fits a _ (here l)) c.besides-far.ensures

pub put_present-requires : goal.put_present-requires
put_present-requires c =
    let a = (at.put_present-requires c).After-points-n in
    let l = (at.put_present-requires c).In-loop-p in
    (point-in a _ (here l), passed_room _ _ _ _ c.points-n.ensures _ _ _ c.loop-p.invariant (here l))

pub loop-p-preserved : goal.loop-p-preserved
loop-p-preserved c =
    let a = (at.loop-p-preserved c).After-points-n in
    let l = (at.loop-p-preserved c).In-loop-p in
    let m = c.args.masks.now in
    let r = c.loop-p.invariant in
    passed_more _ _ _ _ c.points-n.ensures _ _ _ r (here l) _
    (next_beside _ _ _ _ c.besides-far.ensures c.follow_four.ensures
    c.put_present.ensures c.lines_beside-lines.ensures
    (lines_in m _ _ (omega arith) (point-in a _ (south-in l)))
    (lines_in m _ _ (omega arith) (point-in a _ (point-0 a))))

pub loop-p-2-init : goal.loop-p-2-init
loop-p-2-init c =
    let a = (at.loop-p-2-init c).After-points-n in
    let e : c.loop-p.p ≡ c.args.size.width + 1 = omega (arith, c.loop-p-test.false) in
    passed_so_far _ _ _ _ _ _ (rw e at c.loop-p.invariant)

pub loop-p-3-init : goal.loop-p-3-init
loop-p-3-init c =
    let a = (at.loop-p-3-init c).After-points-n in
    let e : c.loop-p-2.p ≡ c.points-n.result - (c.args.size.width + 1) = omega (arith, rows_in a, c.loop-p-2-test.false) in
    passed_so_far _ _ _ _ _ _ (rw e at c.loop-p-2.invariant)

pub overflow_sub-p-end : goal.overflow_sub-p-end
overflow_sub-p-end c = omega (arith, rows_in (at.overflow_sub-p-end c).After-points-n)

pub follow_four-requires-in-loop-p-2 : goal.follow_four-requires-in-loop-p-2
follow_four-requires-in-loop-p-2 c =
    let a = (at.follow_four-requires-in-loop-p-2 c).After-points-n in
    let l = (at.follow_four-requires-in-loop-p-2 c).In-loop-p-2 in
    beside_fit _ _ _ _ _ _ (fits a _ (here2 l)) c.besides-far-in-loop-p-2.ensures

pub put_present-requires-in-loop-p-2 : goal.put_present-requires-in-loop-p-2
put_present-requires-in-loop-p-2 c =
    let a = (at.put_present-requires-in-loop-p-2 c).After-points-n in
    let l = (at.put_present-requires-in-loop-p-2 c).In-loop-p-2 in
    (point-in a _ (here2 l), passed_room _ _ _ _ c.points-n.ensures _ _ _ c.loop-p-2.invariant (here2 l))

pub loop-p-2-preserved : goal.loop-p-2-preserved
loop-p-2-preserved c =
    let a = (at.loop-p-2-preserved c).After-points-n in
    let l = (at.loop-p-2-preserved c).In-loop-p-2 in
    let m = c.args.masks.now in
    let r = c.loop-p-2.invariant in
    passed_more _ _ _ _ c.points-n.ensures _ _ _ r (here2 l) _
    (next_beside _ _ _ _ c.besides-far-in-loop-p-2.ensures c.follow_four-in-loop-p-2.ensures
    c.put_present-in-loop-p-2.ensures c.lines_beside-lines-in-loop-p-2.ensures
    (lines_in m _ _ (omega arith) (point-in a _ (south-in2 l)))
    (lines_in m _ _ (omega arith) (point-in a _ (omega (arith, here2 l)))))

pub overflow_sub-p-end-2 : goal.overflow_sub-p-end-2
overflow_sub-p-end-2 c = omega (arith, rows_in (at.overflow_sub-p-end-2 c).After-points-n)

pub overflow_step-p-2 : goal.overflow_step-p-2
overflow_step-p-2 c = omega (arith, rows_in (at.overflow_step-p-2 c).After-points-n)

pub lines_beside-lines-requires-in-loop-p-3 : goal.lines_beside-lines-requires-in-loop-p-3
lines_beside-lines-requires-in-loop-p-3 c =
    let a = (at.lines_beside-lines-requires-in-loop-p-3 c).After-points-n in
    let l = (at.lines_beside-lines-requires-in-loop-p-3 c).In-loop-p-3 in
    (omega (arith, north-in3 l), point-in a _ (inside3 l))

pub overflow_sub-p : goal.overflow_sub-p
overflow_sub-p c = omega (arith, north-in3 (at.overflow_sub-p c).In-loop-p-3)

pub overflow_sub-n : goal.overflow_sub-n
overflow_sub-n c = omega (arith, rows_in (at.overflow_sub-n c).After-points-n)

pub besides-far-requires-in-loop-p-3 : goal.besides-far-requires-in-loop-p-3
besides-far-requires-in-loop-p-3 c = omega (arith, near3 c)

pub follow_four-requires-in-loop-p-3 : goal.follow_four-requires-in-loop-p-3
follow_four-requires-in-loop-p-3 c =
    let a = (at.follow_four-requires-in-loop-p-3 c).After-points-n in
    let l = (at.follow_four-requires-in-loop-p-3 c).In-loop-p-3 in
    beside_fit _ _ _ _ _ _ (fits a _ (here3 l)) c.besides-far-in-loop-p-3.ensures

pub put_present-requires-in-loop-p-3 : goal.put_present-requires-in-loop-p-3
put_present-requires-in-loop-p-3 c =
    let a = (at.put_present-requires-in-loop-p-3 c).After-points-n in
    let l = (at.put_present-requires-in-loop-p-3 c).In-loop-p-3 in
    (point-in a _ (here3 l), passed_room _ _ _ _ c.points-n.ensures _ _ _ c.loop-p-3.invariant (here3 l))

pub loop-p-3-preserved : goal.loop-p-3-preserved
unfolding mark
loop-p-3-preserved c =
    let a = (at.loop-p-3-preserved c).After-points-n in
    let l = (at.loop-p-3-preserved c).In-loop-p-3 in
    let m = c.args.masks.now in
    let r = c.loop-p-3.invariant in
    passed_more _ _ _ _ c.points-n.ensures _ _ _ r (here3 l) _
    (next_beside _ _ _ _ c.besides-far-in-loop-p-3.ensures c.follow_four-in-loop-p-3.ensures
    c.put_present-in-loop-p-3.ensures c.lines_beside-lines-in-loop-p-3.ensures
    (at_out m _ (omega (arith, c.requires.0, c.points-n.ensures)))
    (lines_in m _ _ (omega arith) (point-in a _ (omega (arith, here3 l)))))

pub next_at-requires-2 : goal.next_at-requires-2
next_at-requires-2 c =
    let a = (at.next_at-requires-2 c).After-points-n in
    let e = (at.next_at-requires-2 c).After-loop-p-3 in
    (point-in a _ (last e), fits a _ (last e), passed_room _ _ _ _ c.points-n.ensures _ _ _ (all-but-last e) (last e))

pub returns : goal.returns
unfolding nexts marked entry_of
returns c =
    let e = (at.returns c).After-loop-p-3 in
    let u = passed_more _ _ _ _ c.points-n.ensures _ _ _ (all-but-last e) (last e) _ c.next_at-2.ensures in
    passed_all _ _ _ _ c.points-n.ensures _ _ _ u (omega arith)
