use Prim.Native.Nat.{ℕ}
use lib.ListN.{length}
use Rattle.paper.specs.Drawing.{Tables}
use Rattle.join_groups.specs.Group.{Standing}
use Rattle.join_groups.proofs.Stopping.{Stood}
use Rattle.join_groups.proofs.each.join_each.Given as goal

abbrev pub invariant-loop-rest : goal.invariant-loop-rest
invariant-loop-rest l =
    (h : ℕ) (t₀ : Tables) → Standing l.width h l.side l.initial.cells l.initial.groups l.initial.list l.first l.initial.last t₀
    → Stood l.width h l.names t₀ l.side l.cells l.groups l.list l.first l.last l.rest l.place

abbrev pub decreases-loop-rest : goal.decreases-loop-rest
decreases-loop-rest l = length l.rest
