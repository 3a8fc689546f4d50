use Prim.Native.Nat.{◌+◌, ◌<◌}
use native.Mathlib.Numerals.{add-one}
use native.Mathlib.Omega.{arith}
use lib.ListN.{length}
use lib.Seq.{paste-suc}
use Rattle.deck_reading.proofs.fill.copy.Goals as goal

pub loop-i-preserved : goal.loop-i-preserved
loop-i-preserved c =
    let l = c.loop-i in
    let h : c.args.from + l.i < length c.args.cells.now = omega arith in
    rw (add-one, l.invariant) (paste-suc c.args.cells.now c.args.from c.args.row.now l.i 0 h c.loop-i-test.true)
