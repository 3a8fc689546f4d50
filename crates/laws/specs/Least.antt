-- The least node reachable. A node has up to two back neighbours, each given by a rule; a node that is its own
-- neighbour has none there.
--   lower a b v     == the larger of a and b becomes the smaller, every other number stays
--   tie i j t       == the table with the entries of i and j lowered to the smaller, wherever they stand
--   ties b c n t    == every node below n tied with its neighbours by b and by c
--   least n b c     == for each node below n the least node that neighbours lead to
use Rattle.std.specs.Prelude.{cond, List, map, ℕ, zero, suc, min, max, eqb, get_or}
use Rattle.laws.specs.Table.{table}

unfoldable pub lower : ℕ → ℕ → ℕ → ℕ
lower a b v = cond (eqb v (max a b)) (min a b) v

unfoldable pub tie : ℕ → ℕ → List ℕ → List ℕ
tie i j t =
    let a = get_or t i 0 in
    let b = get_or t j 0 in
    map (lower a b) t

unfoldable pub ties : (ℕ → ℕ) → (ℕ → ℕ) → ℕ → List ℕ → List ℕ
ties b c zero t = t
ties b c (suc n) t = tie n (c n) (tie n (b n) (ties b c n t))

unfoldable pub least : ℕ → (ℕ → ℕ) → (ℕ → ℕ) → List ℕ
least n b c = ties b c n (table n (λ i. i))
