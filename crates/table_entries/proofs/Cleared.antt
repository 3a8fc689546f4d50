-- Four tables cleared.
use mathlib.Core.Path.{◌≡◌}
use mathlib.Core.List.{List, [], ◌∷◌}
use Prim.Native.Nat.{ℕ}
use lib.ListN.{length, replicate}
use Rattle.paper.specs.Refusal.{cleared}

pub cleared_four : (a b c d x y z u : List ℕ) → x ≡ replicate (length a) 0 → y ≡ replicate (length b) 0
    → z ≡ replicate (length c) 0 → u ≡ replicate (length d) 0
    → ◌≡◌ {A = List (List ℕ)} (x ∷ y ∷ z ∷ u ∷ []) (cleared (a ∷ b ∷ c ∷ d ∷ []))
unfolding cleared
cleared_four a b c d x y z u p q r s = λ i. p i ∷ q i ∷ r i ∷ s i ∷ []

-- only the lengths of what is cleared matter
pub cleared_same : (a b c d x y z u : List ℕ) → length a ≡ length x → length b ≡ length y → length c ≡ length z
    → length d ≡ length u → cleared (a ∷ b ∷ c ∷ d ∷ []) ≡ cleared (x ∷ y ∷ z ∷ u ∷ [])
unfolding cleared
cleared_same a b c d x y z u p q r s =
    λ i. replicate (p i) 0 ∷ replicate (q i) 0 ∷ replicate (r i) 0 ∷ replicate (s i) 0 ∷ []
