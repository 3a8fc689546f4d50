use mathlib.Core.Path.{◌≡◌}
use mathlib.Core.Bool.{true, false}
use Rattle.join_darts.specs.Listed.{bounds, Gap, Met}
use Rattle.join_darts.proofs.list.is_free.Given as goal

abbrev pub invariant-loop-i : goal.invariant-loop-i
invariant-loop-i l =
    (l.free ≡ true → Gap (bounds l.side l.a l.b) l.low l.i) ×
    (l.free ≡ false → Met (bounds l.side l.a l.b) l.low l.i)
