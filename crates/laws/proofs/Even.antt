-- Sets of lines of a grid that have an even number of lines at each place. Cells stand in columns and rows, and a cell has a
-- place at its south-east corner.
--   v x y           == the line that runs north from the place in column x and row y is of the set
--   l x y           == the line that runs west from it is of the set
--   odd a b         == exactly one of a and b
--   Even v l        == of the four lines at each place an even number are of the set, and none runs west from column 0
--   crossed v x y   == west of the cell in column x and row y, in its row, is an odd number of lines of the set
use mathlib.Core.Path.{◌≡◌, refl, sym, ap, ◌∙◌}
use mathlib.Core.Bool.{Bool, true, false, not, not-not}
use Prim.Native.Nat.{ℕ, zero, suc, ◌<◌}
use native.Mathlib.Nat.{le_refl}
use native.Mathlib.Omega.{arith}

-- Exactly one of two.
abbrev pub odd : Bool → Bool → Bool
odd true b = not b
odd false b = b

pub odd_false : (b : Bool) → odd b false ≡ b
odd_false true = refl
odd_false false = refl

pub odd_comm : (a b : Bool) → odd a b ≡ odd b a
odd_comm true true = refl
odd_comm true false = refl
odd_comm false true = refl
odd_comm false false = refl

odd_assoc : (a b c : Bool) → odd (odd a b) c ≡ odd a (odd b c)
odd_assoc true true c = sym (not-not c)
odd_assoc true false c = refl
odd_assoc false b c = refl

-- twice is none
pub odd_twice : (a b : Bool) → odd a (odd a b) ≡ b
odd_twice true b = not-not b
odd_twice false b = refl

-- what is changed alike from equals is equal
pub odd_once : (a b c : Bool) → odd a b ≡ odd a c → b ≡ c
odd_once a b c e = sym (odd_twice a b) ∙ rw e (odd_twice a c)

odd_undo : (a b : Bool) → odd (odd a b) b ≡ a
odd_undo a b = odd_comm (odd a b) b ∙ ap (odd b) (odd_comm a b) ∙ odd_twice b a

-- of two pairs that change alike, the ends change as the starts do
pub odd_cross : (a b c d : Bool) → odd a b ≡ odd c d → odd b d ≡ odd a c
odd_cross a b c d e =
    ap (λ x. odd x d) (sym (odd_twice a b) ∙ ap (odd a) e) ∙ odd_assoc a (odd c d) d ∙ ap (odd a) (odd_undo c d)

odd_none : (a b : Bool) → odd a b ≡ false → a ≡ b
odd_none a b e = sym (odd_twice b a) ∙ rw (odd_comm b a, e) (odd_false b)

odd_same : (a : Bool) → odd a a ≡ false
odd_same true = refl
odd_same false = refl

-- four may be paired as one likes
pub odd_pairs : (a b c d : Bool) → odd (odd (odd a b) (odd c d)) (odd (odd a c) (odd b d)) ≡ false
odd_pairs a b c d =
    let middle = sym (odd_assoc b c d) ∙ ap (λ x. odd x d) (odd_comm b c) ∙ odd_assoc c b d in
    rw (odd_assoc a b (odd c d) ∙ ap (odd a) middle ∙ sym (odd_assoc a c (odd b d))) (odd_same (odd (odd a c) (odd b d)))

pub record Even (v l : ℕ → ℕ → Bool) : Type 0 where
  pub west : (y : ℕ) → l 0 y ≡ false
  pub even : (x y : ℕ) → odd (odd (v x y) (v x (suc y))) (odd (l x y) (l (suc x) y)) ≡ false

unfoldable pub crossed : (ℕ → ℕ → Bool) → ℕ → ℕ → Bool
crossed v zero y = false
crossed v (suc x) y = odd (crossed v x y) (v x y)

module _ (v : ℕ → ℕ → Bool) where
  pub crossed_west : (y : ℕ) → crossed v 0 y ≡ false
  unfolding crossed
  crossed_west y = refl

  pub crossed_east : (x y : ℕ) → crossed v (suc x) y ≡ odd (crossed v x y) (v x y)
  unfolding crossed
  crossed_east x y = refl

  -- as far as no line is of the set, none is crossed
  pub crossed_start : (x y : ℕ) → ((k : ℕ) → k < x → v k y ≡ false) → crossed v x y ≡ false
  crossed_start zero y f = crossed_west y
  crossed_start (suc x) y f =
      crossed_east x y ∙ rw (crossed_start x y (λ k b. f k (omega arith)), f x (le_refl (suc x)))

-- round a place, on the one way and on the other
around : (c a b d e : Bool) → odd (odd a b) (odd d e) ≡ false → odd (odd c d) b ≡ odd (odd c a) e
around c a b d e q =
    odd_assoc c d b
    ∙ ap (odd c) (odd_comm d b ∙ sym (odd_cross b a d e (odd_comm b a ∙ odd_none (odd a b) (odd d e) q)))
    ∙ sym (odd_assoc c a e)

-- one row down a line is crossed as one is from column to column
pub crossed_down : {v l : ℕ → ℕ → Bool} → Even v l → (x y : ℕ) → crossed v x (suc y) ≡ odd (crossed v x y) (l x y)
crossed_down {v} {l} g zero y = crossed_west v (suc y) ∙ rw (crossed_west v y, g.west y)
crossed_down {v} {l} g (suc x) y =
    crossed_east v x (suc y)
    ∙ rw (
      crossed_down g x y,
      crossed_east v x y,
      around (crossed v x y) (v x y) (v x (suc y)) (l x y) (l (suc x) y) (g.even x y),
    )
