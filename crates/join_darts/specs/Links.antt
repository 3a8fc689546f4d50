-- Links in two tables.
--   links n o       == the links whose next are in the table n and whose others are in the table o
--   splice l u v    == the links without darts u and v, where they are of two different edges
use Rattle.std.specs.Prelude.{true, false, List, ℕ, eqb}
use Rattle.paper.specs.Joining.{Links, at, spliced}

abbrev pub links : List ℕ → List ℕ → Links
links n o = record { next = n; other = o }

unfoldable pub splice : Links → ℕ → ℕ → Links
splice l u v =
    let x = at l.other u in
    elim (eqb x v) [ true ↦ l | false ↦ spliced l u v x (at l.other v) ]
