use mathlib.Core.Path.{◌≡◌}
use Prim.Native.Nat.{◌%◌}
use Rattle.paper.specs.Name.{west, north}
use Rattle.table_forest.proofs.Reach.{Reached}
use Rattle.region_names.proofs.cells.first_cells.Given as goal

abbrev pub invariant-loop-i : goal.invariant-loop-i
invariant-loop-i l =
    let w = l.fn.size.width in
    Reached l.n (west w l.sheet) (north w l.sheet) l.i l.first × (l.column ≡ l.i % w)
