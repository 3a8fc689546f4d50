-- Step 1 of the removal rule, for the darts that remain.
--   leaping l f d   == where a chase goes on from dart d: for a dart that passes the test f the next of its other, else d itself
--   led s l a b d   == the next of dart d, past the darts with the sides a and b; a dart with these sides keeps its next
use Rattle.std.specs.Prelude.{Bool, cond, List, ℕ}
use Rattle.paper.specs.Joining.{Links, at, shared, chase}

unfoldable pub leaping : Links → (ℕ → Bool) → ℕ → ℕ
leaping l f d = cond (f d) (at l.next (at l.other d)) d

unfoldable pub led : List ℕ → Links → ℕ → ℕ → ℕ → ℕ
led s l a b d =
    let gone = shared s (at l.other) a b in
    cond (gone d) (at l.next d) (chase l gone (at l.next d))
