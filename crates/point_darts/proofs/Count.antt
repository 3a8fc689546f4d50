-- How many darts have their line on the sheet.
use mathlib.Core.Path.{◌≡◌, refl, sym, ◌∙◌}
use mathlib.Core.Bool.{Bool, true, ◌&&◌, and-true}
use Prim.Native.Nat.{ℕ, zero, suc, ◌+◌, ◌*◌, ◌<◌}
use native.Mathlib.Nat.{le_refl, suc-mul, mul-suc, mul_comm, zero-add}
use native.Mathlib.Numerals.{add-one}
use native.Mathlib.Omega.{arith}
use lib.Dec.{ltb, lit<}
use borrow.Author.Tests.{lt-ltb, le-ltb, le-leb}
use Rattle.laws.specs.Table.{count}
use Rattle.laws.proofs.Table.{count_agree}
use Rattle.laws.proofs.Count.{count_all, count_product}
use Rattle.point_darts.specs.Dart.{points, slots, dart, stays, line}
use Rattle.point_darts.proofs.Darts.{place, line_dart}

dart_zero : (p : ℕ) → dart p 0 ≡ 4 * p
unfolding dart
dart_zero p = omega arith

dart_suc : (p k : ℕ) → dart p (suc k) ≡ suc (dart p k)
unfolding dart
dart_suc p k = omega arith

-- the darts of n points, direction by direction
pub count_darts : (n : ℕ) (f : ℕ → Bool)
    → count (4 * n) f
    ≡ count n (λ p. f (dart p 0)) + count n (λ p. f (dart p 1)) + count n (λ p. f (dart p 2)) + count n (λ p. f (dart p 3))
unfolding count
count_darts zero f = refl
count_darts (suc n) f =
    let e : 4 * suc n ≡ suc (suc (suc (suc (4 * n)))) = omega arith in
    rw (e, count_darts n f, dart_suc n 2, dart_suc n 1, dart_suc n 0, dart_zero n) (omega arith)

-- of the numbers up to n, those below n, and those above 0
pub count_before : (n : ℕ) → count (suc n) (λ i. ltb i n) ≡ n
unfolding count
count_before n =
    rw (le-ltb n n (le_refl n), count_agree (λ i. ltb i n) (λ i. true) n (λ i l. lt-ltb i n l), count_all n) (zero-add n)

pub count_after : (n : ℕ) → count (suc n) (λ i. ltb 0 i) ≡ n
unfolding count
count_after zero = refl
count_after (suc n) = rw (lt-ltb 0 (suc n) (omega arith), count_after n) (omega arith)

module _ (w h : ℕ) where
  -- the darts of direction k: as many rows as r passes times as many columns as c passes
  count_direction : (k : ℕ) (r c : ℕ → Bool) → k < 4 → ((x y : ℕ) → stays w h x y k ≡ (r y && c x))
      → count (suc h * (w + 1)) (λ p. line w h (dart p k)) ≡ count (suc h) r * count (w + 1) c
  unfolding place
  count_direction k r c b e =
      count_product (w + 1) (suc h) (λ p. line w h (dart p k)) r c
      (λ x y l m. line_dart w h x y k (omega arith) b ∙ rw (le-leb y h (omega arith)) (e x y))

  pub count_line : count (slots w h) (line w h) ≡ 4 * (w * h) + 2 * w + 2 * h
  unfolding slots points stays
  count_line = rw (
    mul_comm (w + 1) (h + 1),
    add-one h,
    count_darts (suc h * (w + 1)) (line w h),
    count_direction 0 (λ y. true) (λ x. ltb x w) (lit< tt) (λ x y. refl),
    count_direction 1 (λ y. ltb y h) (λ x. true) (lit< tt) (λ x y. sym (and-true (ltb y h))),
    count_direction 2 (λ y. true) (λ x. ltb 0 x) (lit< tt) (λ x y. refl),
    count_direction 3 (λ y. ltb 0 y) (λ x. true) (lit< tt) (λ x y. sym (and-true (ltb 0 y))),
    add-one w,
    count_all (suc h),
    count_all (suc w),
    count_before w,
    count_before h,
    count_after w,
    count_after h,
    suc-mul h w,
    mul-suc h w,
    mul_comm h w,
  ) (omega arith)
