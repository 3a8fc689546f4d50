-- Filling a table point by point.
--   pointed f p t   == t with the entries of f at the four darts that leave point p
--   Passed w h f p o t == of the darts of a sheet those of the first p points have the entries of f, the others still those of o
use mathlib.Core.Path.{◌≡◌, refl}
use mathlib.Core.List.{List}
use Prim.Native.Nat.{ℕ, ◌+◌, ◌≤◌, ◌<◌}
use native.Mathlib.Omega.{arith}
use lib.ListN.{length, set}
use Rattle.laws.specs.Table.{table}
use Rattle.point_darts.specs.Dart.{points, slots, dart}
use Rattle.table_entries.specs.Pointed.{four_at, pointed}
use Rattle.table_entries.proofs.Filled.{Filled, filled_none, filled_more, filled_all}

abbrev pub Passed : ℕ → ℕ → (ℕ → ℕ) → ℕ → List ℕ → List ℕ → Type 0
Passed w h f p o t = Filled (slots w h) f (dart p 0) o t

-- the four entries of a point, set one after another
pub four_is : (t : List ℕ) (p i a b c d : ℕ) → i ≡ dart p 0
    → set (set (set (set t i a) (i + 1) b) (i + 2) c) (i + 3) d ≡ four_at t p a b c d
unfolding four_at dart
four_is t p i a b c d e =
    let x : i + 1 ≡ dart p 1 = omega arith in
    let y : i + 2 ≡ dart p 2 = omega arith in
    let z : i + 3 ≡ dart p 3 = omega arith in
    rw (x, y, z, e)

pub pointed_is : (f : ℕ → ℕ) (t : List ℕ) (p a b c d : ℕ) → a ≡ f (dart p 0) → b ≡ f (dart p 1) → c ≡ f (dart p 2)
    → d ≡ f (dart p 3) → four_at t p a b c d ≡ pointed f p t
unfolding pointed
pointed_is f t p a b c d i j k l = rw (i, j, k, l)

module _ (w h : ℕ) (f : ℕ → ℕ) where
  pub passed_none : (t : List ℕ) → length t ≡ slots w h → Passed w h f 0 t t
  unfolding dart
  passed_none t e = filled_none (slots w h) f t e

  -- the same, told from the table as it is
  pub passed_so_far : (p : ℕ) (o t : List ℕ) → Passed w h f p o t → Passed w h f p t t
  passed_so_far p o t r = record { done = r.done; rest = λ k b. refl; long = r.long }

  -- of n points
  module _ (n : ℕ) (e : n ≡ points w h) (p : ℕ) (o t : List ℕ) (r : Passed w h f p o t) where
    -- the darts of a point are in the table
    pub passed_room : p < n → dart p 3 < length t
    unfolding slots dart
    passed_room b = omega (arith, r.long)

    -- a dart more of a point
    dart_more : (k : ℕ) (s : List ℕ) → p < n → k < 4 → Filled (slots w h) f (dart p k) o s
        → Filled (slots w h) f (dart p (k + 1)) o (set s (dart p k) (f (dart p k)))
    unfolding slots dart
    dart_more k s b l q =
        let z : dart p k + 1 ≡ dart p (k + 1) = omega arith in
        rw z at (filled_more (slots w h) f (dart p k) o s q (f (dart p k)) (omega arith) refl)

    -- a point more
    pub passed_more : p < n → (u : List ℕ) → u ≡ pointed f p t → Passed w h f (p + 1) o u
    unfolding pointed four_at
    passed_more b u i =
        let q = dart_more 2 _ b (omega arith) (dart_more 1 _ b (omega arith) (dart_more 0 t b (omega arith) r)) in
        let z : dart p 4 ≡ dart (p + 1) 0 = unfold dart in omega arith in
        rw i (rw z at (dart_more 3 _ b (omega arith) q))

    -- all points
    pub passed_all : n ≤ p → t ≡ table (slots w h) f
    unfolding slots dart
    passed_all b = filled_all (slots w h) f (dart p 0) o t r (omega arith)
