-- A point more among the pieces of the points before it.
--   toward s d p m   == the point m points before p where the dart d is on by the sides s, else p itself
--   Pieced w s p t u == with p more, the forest t has become u: p is tied with the points that its darts west and north lead to
use Rattle.std.specs.Prelude.{cond, List, ℕ, suc, ◌+◌, ◌-◌}
use Rattle.laws.specs.Least.{tie}
use Rattle.point_darts.specs.Dart.{dart}
use Rattle.paper.specs.Joining.{on}
use Rattle.table_forest.specs.Forest.{Forest, Grown}

abbrev pub toward : List ℕ → ℕ → ℕ → ℕ → ℕ
toward s d p m = cond (on s d) (p - m) p

abbrev pub Pieced : ℕ → List ℕ → ℕ → List ℕ → List ℕ → Type 0
Pieced w s p t u =
    (g : Grown p t)
    → Forest (suc p) (tie p (toward s (dart p 3) p (w + 1)) (tie p (toward s (dart p 2) p 1) g.labels)) u
