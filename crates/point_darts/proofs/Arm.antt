-- The last arm of a match on a direction: whatever none of the arms before it took.
use mathlib.Core.Path.{◌≡◌, refl}
use mathlib.Core.List.{List}
use Prim.Native.Nat.{ℕ, zero, suc, ◌+◌, ◌-◌}
use lib.Dec.{ltb}
use Rattle.point_darts.specs.Dart.{beside, stays}
use Rattle.point_darts.specs.Point.{right, left}

pub stays_rest : (w h x y k : ℕ) → (k ≡ 0 → ⊥) → (k ≡ 1 → ⊥) → (k ≡ 2 → ⊥) → stays w h x y k ≡ ltb 0 y
unfolding stays
stays_rest w h x y zero a b c = absurd (a refl)
stays_rest w h x y (suc zero) a b c = absurd (b refl)
stays_rest w h x y (suc (suc zero)) a b c = absurd (c refl)
stays_rest w h x y (suc (suc (suc k))) a b c = refl

pub beside_rest : (w p k : ℕ) → (k ≡ 0 → ⊥) → (k ≡ 1 → ⊥) → (k ≡ 2 → ⊥) → beside w p k ≡ p - (w + 1)
unfolding beside
beside_rest w p zero a b c = absurd (a refl)
beside_rest w p (suc zero) a b c = absurd (b refl)
beside_rest w p (suc (suc zero)) a b c = absurd (c refl)
beside_rest w p (suc (suc (suc k))) a b c = refl

pub right_rest : (c : List (List ℕ)) (k : ℕ) → (k ≡ 0 → ⊥) → (k ≡ 1 → ⊥) → (k ≡ 2 → ⊥) → (k ≡ 3 → ⊥)
    → right c k ≡ 0
unfolding right
right_rest c zero h i j l = absurd (h refl)
right_rest c (suc zero) h i j l = absurd (i refl)
right_rest c (suc (suc zero)) h i j l = absurd (j refl)
right_rest c (suc (suc (suc zero))) h i j l = absurd (l refl)
right_rest c (suc (suc (suc (suc k)))) h i j l = refl

pub left_rest : (c : List (List ℕ)) (k : ℕ) → (k ≡ 0 → ⊥) → (k ≡ 1 → ⊥) → (k ≡ 2 → ⊥) → (k ≡ 3 → ⊥)
    → left c k ≡ 0
unfolding left
left_rest c zero h i j l = absurd (h refl)
left_rest c (suc zero) h i j l = absurd (i refl)
left_rest c (suc (suc zero)) h i j l = absurd (j refl)
left_rest c (suc (suc (suc zero))) h i j l = absurd (l refl)
left_rest c (suc (suc (suc (suc k)))) h i j l = refl
