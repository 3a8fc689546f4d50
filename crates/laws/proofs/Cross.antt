-- Entering and leaving: where numbers in a row change to r, and where they change from r.
--   enters g r m i  == the number m places after place i is r, and that at place i is another
--   leaves g r m i  == the number at place i is r, and that m places after it is another
--   four_ways       == numbers that are 0 up to place m and from place n on, in rows of m: as many leave as enter, in a row and
--                      from row to row
use mathlib.Core.Path.{◌≡◌, sym, ap, ◌∙◌}
use mathlib.Core.Bool.{Bool, false, not, ◌&&◌}
use Prim.Native.Nat.{ℕ, ◌+◌, ◌*◌, ◌<◌, ◌≤◌}
use native.Mathlib.Nat.{add_comm}
use native.Mathlib.Decide.{ℕ_discrete}
use native.Mathlib.Omega.{arith}
use lib.Dec.{eqb}
use borrow.Author.Tests.{eq-eqb, ne_eqb}
use Rattle.laws.specs.Table.{number, count}
use Rattle.laws.proofs.Table.{count_agree}
use Rattle.laws.proofs.Count.{count_add, count_nothing, count_sums}

abbrev pub enters : (ℕ → ℕ) → ℕ → ℕ → ℕ → Bool
enters g r m i = not (eqb (g (i + m)) (g i)) && eqb (g (i + m)) r

abbrev pub leaves : (ℕ → ℕ) → ℕ → ℕ → ℕ → Bool
leaves g r m i = not (eqb (g i) (g (i + m))) && eqb (g i) r

-- from x to y
cross_step : (x y r : ℕ) → number (not (eqb y x) && eqb y r) + number (eqb x r) ≡ number (not (eqb x y) && eqb x r) + number (eqb y r)
cross_step x y r = go (ℕ_discrete x y)
  where
    go : Dec (x ≡ y) → number (not (eqb y x) && eqb y r) + number (eqb x r) ≡ number (not (eqb x y) && eqb x r) + number (eqb y r)
    go (yes e) = rw (eq-eqb x y e, eq-eqb y x (sym e), e)
    go (no e) = rw (ne_eqb x y e, ne_eqb y x (λ q. e (sym q))) (omega arith)

-- a test m places on, and at n places
shift : (f : ℕ → Bool) (m n : ℕ) → count n (λ i. f (i + m)) + count m f ≡ count n f + count m (λ i. f (i + n))
shift f m n =
    let a = count_add f m n in
    let b = count_add f n m in
    let c = count_agree (λ i. f (m + i)) (λ i. f (i + m)) n (λ i l. ap f (add_comm m i)) in
    let d = count_agree (λ i. f (n + i)) (λ i. f (i + n)) m (λ i l. ap f (add_comm n i)) in
    let e : count (m + n) f ≡ count (n + m) f = ap (λ k. count k f) (add_comm m n) in
    omega (arith, a, b, c, d, e)

-- where no test of the first m places nor of the m from n on passes, as many pass m places on
shift_same : (f : ℕ → Bool) (m n : ℕ) → ((i : ℕ) → i < m → f i ≡ false) → ((i : ℕ) → i < m → f (i + n) ≡ false)
    → count n (λ i. f (i + m)) ≡ count n f
shift_same f m n p q =
    omega (arith, shift f m n, count_nothing f m p, count_nothing (λ i. f (i + n)) m q)

module _ (g : ℕ → ℕ) (r m n : ℕ) (front : (i : ℕ) → i ≤ m → g i ≡ 0) (back : (i : ℕ) → n ≤ i → g i ≡ 0) where
  -- nothing changes among zeros
  still : (i j : ℕ) → g i ≡ 0 → g j ≡ 0 → (not (eqb (g i) (g j)) && eqb (g i) r) ≡ false
  still i j p q = rw (p, q)

  is : ℕ → Bool
  is i = eqb (g i) r

  ends_same : (k : ℕ) → k ≤ m → count n (λ i. is (i + k)) ≡ count n is
  unfolding is
  ends_same k l =
      let a = shift is k n in
      let b = count_agree is (λ i. is (i + n)) k
      (λ i j. ap (λ v. eqb v r) (front i (omega arith) ∙ sym (back (i + n) (omega arith)))) in
      omega (arith, a, b)

  -- from row to row
  down : count n (leaves g r m) ≡ count n (enters g r m)
  unfolding is
  down =
      let a =
      count_sums (enters g r m) is (leaves g r m) (λ i. is (i + m)) n (λ i l. cross_step (g i) (g (i + m)) r) in
      omega (arith, a, ends_same m (omega arith))

  down_on : count n (λ i. enters g r m (i + 1)) ≡ count n (enters g r m)
  down_on =
      shift_same (enters g r m) 1 n
      (λ i l. still (i + m) i (front (i + m) (omega arith)) (front i (omega arith)))
      (λ i l. still (i + n + m) (i + n) (back (i + n + m) (omega arith)) (back (i + n) (omega arith)))

  -- in a row
  along : count n (λ i. leaves g r 1 (i + m)) ≡ count n (λ i. enters g r 1 (i + m))
  unfolding is
  along =
      let a =
      count_sums (λ i. enters g r 1 (i + m)) (λ i. is (i + m)) (λ i. leaves g r 1 (i + m)) (λ i. is (i + m + 1)) n
      (λ i l. cross_step (g (i + m)) (g (i + m + 1)) r) in
      let b = shift (λ i. is (i + m)) 1 n in
      let c = count_agree (λ i. is (i + m)) (λ i. is (i + n + m)) 1
      (λ i j. ap (λ v. eqb v r) (front (i + m) (omega arith) ∙ sym (back (i + n + m) (omega arith)))) in
      let d = count_agree (λ i. is (i + 1 + m)) (λ i. is (i + m + 1)) n
      (λ i j. ap is (let e : i + 1 + m ≡ i + m + 1 = omega arith in e)) in
      omega (arith, a, b, c, d)

  along_on : count n (λ i. enters g r 1 (i + m)) ≡ count n (enters g r 1)
  along_on =
      shift_same (enters g r 1) m n
      (λ i l. still (i + 1) i (front (i + 1) (omega arith)) (front i (omega arith)))
      (λ i l. still (i + n + 1) (i + n) (back (i + n + 1) (omega arith)) (back (i + n) (omega arith)))

  pub four_ways :
      count n (λ i. enters g r m (i + 1)) + count n (λ i. leaves g r 1 (i + m)) + count n (leaves g r m) + count n (enters g r 1)
      ≡ 2 * (count n (λ i. enters g r m (i + 1)) + count n (λ i. enters g r 1 (i + m)))
  four_ways = omega (arith, down, down_on, along, along_on)
