-- Step 5: the sides of the lines that remain.
--   lower a b v     == the larger of a and b becomes the smaller
use mathlib.Core.Path.{◌≡◌, sym, ◌∙◌}
use mathlib.Core.Bool.{cond, not}
use mathlib.Core.List.{List}
use mathlib.Core.Logic.{◌≢◌, ⊎_elim}
use Prim.Native.Nat.{ℕ, ◌<◌, min, max}
use native.Mathlib.Omega.{arith}
use lib.Dec.{eqb}
use lib.ListN.{length, get_or}
use Rattle.laws.specs.Least.{lower}
use Rattle.laws.proofs.Least.{lower_cases}
use Rattle.point_darts.specs.Dart.{mark}
use Rattle.paper.specs.Joining.{at, on}
use Rattle.table_entries.proofs.Entries.{at_in}
use Rattle.table_entries.proofs.Half.{Half}
use Rattle.table_entries.proofs.Half.{half_here}

-- a name, by whether it is the larger of a and b
pub lower_by : (a b v r : ℕ) → (v ≡ max a b → r ≡ min a b) → (v ≢ max a b → r ≡ v) → r ≡ lower a b v
lower_by a b v r f g = ⊎_elim (λ p. f p.0 ∙ sym p.1) (λ p. g p.0 ∙ sym p.1) (lower_cases a b v)

-- an entry more of the sides
pub side_more : (l s t : List ℕ) (a b i r : ℕ) → Half (λ d. cond (on l d) (lower a b (at s d)) mark) i s t
    → length l ≡ length s → i < length s → r ≡ cond (not (eqb (get_or l i 0) mark)) (lower a b (get_or t i 0)) mark
    → r ≡ cond (on l i) (lower a b (at s i)) mark
unfolding on
side_more l s t a b i r p e h q =
    rw (← (at_in l i (omega arith)), half_here (λ d. cond (on l d) (lower a b (at s d)) mark) i s t p h) q
