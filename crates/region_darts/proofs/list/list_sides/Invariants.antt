use lib.ListN.{length}
use Rattle.region_darts.proofs.Listing.{Listing}
use Rattle.region_darts.proofs.list.list_sides.Given as goal

abbrev pub invariant-loop-i : goal.invariant-loop-i
invariant-loop-i l = Listing l.side (length l.initial.last) l.i l.list l.first l.last
