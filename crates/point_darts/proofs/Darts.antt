-- Points and darts by column and row.
--   place w x y     == the point in column x and row y
--   every_dart      == a law of the darts that leave places is a law of every dart
--   every_line      == a law of the darts along rows and along columns is a law of every dart whose line is on the sheet
use mathlib.Core.Path.{◌≡◌, ap, ap₂, ◌∙◌, subst}
use mathlib.Core.Bool.{true, ◌&&◌, and-eq-true_iff}
use Prim.Native.Nat.{ℕ, zero, suc, ◌+◌, ◌*◌, ◌-◌, ◌/◌, ◌%◌, ◌<◌, ◌≤◌}
use native.Mathlib.Nat.{mul-add-div_right, mul-add-mod_self_right, div-eq_of_lt, mod-eq_of_lt, mod-lt, div-add-mod'}
use native.Mathlib.Nat.{add-zero, suc-mul, mul_comm, mul-le-mul_right}
use native.Mathlib.Numerals.{add-one}
use native.Mathlib.Omega.{arith}
use lib.Dec.{leb, lit<}
use borrow.Author.Tests.{ltb-true, leb-true, lt-ltb, le-leb}
use Rattle.point_darts.specs.Dart.{dart, point, direction, beside, far, turned, reversal, stays, line, points, slots}

-- a law of every number below four is a law of each of them
pub four : (P : ℕ → Type 0) → P 0 → P 1 → P 2 → P 3 → (k : ℕ) → k < 4 → P k
four P a b c d zero h = a
four P a b c d (suc zero) h = b
four P a b c d (suc (suc zero)) h = c
four P a b c d (suc (suc (suc zero))) h = d
four P a b c d (suc (suc (suc (suc k)))) h = absurd (omega arith)

pub point_dart : (p k : ℕ) → k < 4 → point (dart p k) ≡ p
unfolding point dart
point_dart p k h = omega arith

pub direction_dart : (p k : ℕ) → k < 4 → direction (dart p k) ≡ k
unfolding direction dart
direction_dart p k h = omega arith

pub dart_own : (d : ℕ) → dart (point d) (direction d) ≡ d
unfolding dart point direction
dart_own d = omega arith

pub direction_below : (d : ℕ) → direction d < 4
unfolding direction
direction_below d = omega arith

pub turned_below : (k i : ℕ) → turned k i < 4
unfolding turned
turned_below k i = omega arith

pub turned_none : (k : ℕ) → k < 4 → turned k 0 ≡ k
unfolding turned
turned_none k h = omega arith

pub turned_back : (k i : ℕ) → turned (turned k (suc i)) 3 ≡ turned k i
unfolding turned
turned_back k i = omega arith

pub turned_round : (k : ℕ) → turned k 4 ≡ turned k 0
unfolding turned
turned_round k = omega arith

pub point_reversal : (w d : ℕ) → point (reversal w d) ≡ far w d
unfolding reversal
point_reversal w d = point_dart (far w d) (turned (direction d) 2) (turned_below (direction d) 2)

pub direction_reversal : (w d : ℕ) → direction (reversal w d) ≡ turned (direction d) 2
unfolding reversal
direction_reversal w d = direction_dart (far w d) (turned (direction d) 2) (turned_below (direction d) 2)

unfoldable pub place : ℕ → ℕ → ℕ → ℕ
place w x y = y * (w + 1) + x

pub column : (w x y : ℕ) → x ≤ w → place w x y % (w + 1) ≡ x
unfolding place
column w x y h = mul-add-mod_self_right y (w + 1) x ∙ mod-eq_of_lt (let l : x < w + 1 = omega arith in l)

pub row : (w x y : ℕ) → x ≤ w → place w x y / (w + 1) ≡ y
unfolding place
row w x y h =
    let l : x < w + 1 = omega arith in
    let z : 0 < w + 1 = omega arith in
    mul-add-div_right z y x ∙ ap (λ i. y + i) (div-eq_of_lt l) ∙ add-zero y

pub place_own : (w p : ℕ) → place w (p % (w + 1)) (p / (w + 1)) ≡ p
unfolding place
place_own w p = div-add-mod' p (w + 1)

pub column_below : (w p : ℕ) → p % (w + 1) ≤ w
column_below w p = let z : 0 < w + 1 = omega arith in omega (arith, mod-lt p z)

-- every dart leaves some place east, south, west or north
pub every_dart : (w : ℕ) (P : ℕ → Type 0)
    → ((x y k : ℕ) → x ≤ w → k < 4 → P (dart (place w x y) k)) → (d : ℕ) → P d
every_dart w P f d =
    let p : ℕ = point d in
    let t = f (p % (w + 1)) (p / (w + 1)) (direction d) (column_below w p) (direction_below d) in
    subst P (ap (λ q. dart q (direction d)) (place_own w p) ∙ dart_own d) t

-- the place beside a place
module _ (w x y : ℕ) where
  pub beside_east : beside w (place w x y) 0 ≡ place w (suc x) y
  unfolding beside place
  beside_east = omega arith

  pub beside_south : beside w (place w x y) 1 ≡ place w x (suc y)
  unfolding beside place
  beside_south = rw suc-mul (omega arith)

  pub beside_west : beside w (place w (suc x) y) 2 ≡ place w x y
  unfolding beside place
  beside_west = omega arith

  pub beside_north : beside w (place w x (suc y)) 3 ≡ place w x y
  unfolding beside place
  beside_north = rw suc-mul (omega arith)

pub far_dart : (w p k : ℕ) → k < 4 → far w (dart p k) ≡ beside w p k
unfolding far
far_dart w p k h = ap₂ (beside w) (point_dart p k h) (direction_dart p k h)

pub reversal_dart : (w p k : ℕ) → k < 4 → reversal w (dart p k) ≡ dart (beside w p k) (turned k 2)
unfolding reversal
reversal_dart w p k h = ap₂ dart (far_dart w p k h) (ap (λ j. turned j 2) (direction_dart p k h))

-- the dart east of a point, and the dart west that leads back to it
pub east_back : (w p : ℕ) → reversal w (dart p 0) ≡ dart (p + 1) 2
unfolding beside turned
east_back w p = reversal_dart w p 0 (lit< tt)

pub west_back : (w p : ℕ) → reversal w (dart (p + 1) 2) ≡ dart p 0
unfolding beside turned
west_back w p = reversal_dart w (p + 1) 2 (lit< tt) ∙ ap (λ q. dart q 0) (let e : p + 1 - 1 ≡ p = omega arith in e)

-- the reversal of a dart that leaves a place
module _ (w x y : ℕ) where
  pub reversal_east : reversal w (dart (place w x y) 0) ≡ dart (place w (suc x) y) 2
  unfolding turned
  reversal_east = reversal_dart w (place w x y) 0 (lit< tt) ∙ ap (λ p. dart p 2) (beside_east w x y)

  pub reversal_south : reversal w (dart (place w x y) 1) ≡ dart (place w x (suc y)) 3
  unfolding turned
  reversal_south = reversal_dart w (place w x y) 1 (lit< tt) ∙ ap (λ p. dart p 3) (beside_south w x y)

  pub reversal_west : reversal w (dart (place w (suc x) y) 2) ≡ dart (place w x y) 0
  unfolding turned
  reversal_west = reversal_dart w (place w (suc x) y) 2 (lit< tt) ∙ ap (λ p. dart p 0) (beside_west w x y)

  pub reversal_north : reversal w (dart (place w x (suc y)) 3) ≡ dart (place w x y) 1
  unfolding turned
  reversal_north = reversal_dart w (place w x (suc y)) 3 (lit< tt) ∙ ap (λ p. dart p 1) (beside_north w x y)

pub line_dart : (w h x y k : ℕ) → x ≤ w → k < 4 → line w h (dart (place w x y) k) ≡ (leb y h && stays w h x y k)
unfolding line
line_dart w h x y k l b =
    rw (point_dart (place w x y) k b, direction_dart (place w x y) k b, column w x y l, row w x y l)

-- a line is one of four: along a row east or west, along a column south or north
module _ (w h : ℕ) (P : ℕ → Type 0)
    (east : (x y : ℕ) → x < w → y ≤ h → P (dart (place w x y) 0))
    (south : (x y : ℕ) → x ≤ w → y < h → P (dart (place w x y) 1))
    (west : (x y : ℕ) → x < w → y ≤ h → P (dart (place w (suc x) y) 2))
    (north : (x y : ℕ) → x ≤ w → y < h → P (dart (place w x (suc y)) 3)) where
  of_stays : (x y k : ℕ) → x ≤ w → k < 4 → y ≤ h → stays w h x y k ≡ true → P (dart (place w x y) k)
  unfolding stays
  of_stays x y zero l b v e = east x y (ltb-true x w e) v
  of_stays x y (suc zero) l b v e = south x y l (ltb-true y h e)
  of_stays zero y (suc (suc zero)) l b v e = absurd (omega (arith, ltb-true 0 0 e))
  of_stays (suc x) y (suc (suc zero)) l b v e = west x y l v
  of_stays x zero (suc (suc (suc zero))) l b v e = absurd (omega (arith, ltb-true 0 0 e))
  of_stays x (suc y) (suc (suc (suc zero))) l b v e = north x y l v
  of_stays x y (suc (suc (suc (suc k)))) l b v e = absurd (omega arith)

  pub every_line : (d : ℕ) → line w h d ≡ true → P d
  every_line = every_dart w (λ d. line w h d ≡ true → P d) (λ x y k l b e. at x y k l b (rw (line_dart w h x y k l b) at e))
    where
      at : (x y k : ℕ) → x ≤ w → k < 4 → (leb y h && stays w h x y k) ≡ true → P (dart (place w x y) k)
      at x y k l b e =
          let both = (and-eq-true_iff (leb y h) (stays w h x y k)).0 e in
          of_stays x y k l b (leb-true y h both.0) both.1

-- the four lines are on the sheet
module _ (w h x y : ℕ) where
  pub line_east : x < w → y ≤ h → line w h (dart (place w x y) 0) ≡ true
  unfolding stays
  line_east a b =
      let l : x ≤ w = omega arith in
      rw (line_dart w h x y 0 l (lit< tt), le-leb y h b) (lt-ltb x w a)

  pub line_south : x ≤ w → y < h → line w h (dart (place w x y) 1) ≡ true
  unfolding stays
  line_south a b =
      let l : y ≤ h = omega arith in
      rw (line_dart w h x y 1 a (lit< tt), le-leb y h l) (lt-ltb y h b)

  pub line_west : x < w → y ≤ h → line w h (dart (place w (suc x) y) 2) ≡ true
  unfolding stays
  line_west a b = rw (line_dart w h (suc x) y 2 a (lit< tt), le-leb y h b) (lt-ltb 0 (suc x) (omega arith))

  pub line_north : x ≤ w → y < h → line w h (dart (place w x (suc y)) 3) ≡ true
  unfolding stays
  line_north a b = rw (line_dart w h x (suc y) 3 a (lit< tt), le-leb (suc y) h b) (lt-ltb 0 (suc y) (omega arith))

module _ (w h : ℕ) where
  pub line_reversal : (d : ℕ) → line w h d ≡ true → line w h (reversal w d) ≡ true
  line_reversal = every_line w h (λ d. line w h (reversal w d) ≡ true)
      (λ x y a b. rw (reversal_east w x y) (line_west w h x y a b))
      (λ x y a b. rw (reversal_south w x y) (line_north w h x y a b))
      (λ x y a b. rw (reversal_west w x y) (line_east w h x y a b))
      (λ x y a b. rw (reversal_north w x y) (line_south w h x y a b))

  pub reversal_twice : (d : ℕ) → line w h d ≡ true → reversal w (reversal w d) ≡ d
  reversal_twice = every_line w h (λ d. reversal w (reversal w d) ≡ d)
      (λ x y a b. rw (reversal_east w x y) (reversal_west w x y))
      (λ x y a b. rw (reversal_south w x y) (reversal_north w x y))
      (λ x y a b. rw (reversal_west w x y) (reversal_east w x y))
      (λ x y a b. rw (reversal_north w x y) (reversal_south w x y))

  pub place_below : (x y : ℕ) → x ≤ w → y ≤ h → place w x y < points w h
  unfolding place points
  place_below x y a b =
      rw (mul_comm (w + 1) (h + 1), add-one h, suc-mul h (w + 1)) (omega (arith, mul-le-mul_right (w + 1) b))

  pub dart_below : (p k : ℕ) → p < points w h → k < 4 → dart p k < slots w h
  unfolding dart slots
  dart_below p k a b = omega arith

  pub line_below : (d : ℕ) → line w h d ≡ true → d < slots w h
  line_below = every_line w h (λ d. d < slots w h)
      (λ x y a b. dart_below (place w x y) 0 (place_below x y (omega arith) b) (lit< tt))
      (λ x y a b. dart_below (place w x y) 1 (place_below x y a (omega arith)) (lit< tt))
      (λ x y a b. dart_below (place w (suc x) y) 2 (place_below (suc x) y a b) (lit< tt))
      (λ x y a b. dart_below (place w x (suc y)) 3 (place_below x (suc y) a b) (lit< tt))
