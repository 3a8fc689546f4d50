use Prim.Native.Nat.{◌≤◌}
use lib.ListN.{length}
use Rattle.join_darts.specs.Listed.{bounds, Listing}
use Rattle.join_darts.proofs.list.list_part.Given as goal

abbrev pub invariant-loop-i : goal.invariant-loop-i
invariant-loop-i l = (l.low ≤ l.i) × Listing (bounds l.side l.a l.b) (length l.initial.list) l.i l.first l.list
