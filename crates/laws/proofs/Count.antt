-- Counts.
--   count n f       == how many numbers below n pass the test f
--   count_product   == a test of column and row: as many pass as rows pass times columns pass
--   count_single    == where exactly one number passes, the count is 1
--   count_less      == where one number that passes is left out, the count is 1 less
--   Into n m F G f g == f leads from the numbers below n that pass F to numbers below m that pass G, and g leads back
--   count_sums      == two counts add up to two others where, number by number, the tests do
--   count_matched   == two counts are equal where two maps lead from each to the other and back
use mathlib.Core.Path.{◌≡◌, refl, sym, ap, ◌∙◌}
use mathlib.Core.Bool.{Bool, true, false, not, ◌&&◌, and-true, and-false}
use mathlib.Core.Logic.{◌≢◌, ⊎_elim}
use Prim.Native.Nat.{ℕ, zero, suc, ◌+◌, ◌*◌, ◌<◌, ◌≤◌, zero-le}
use native.Mathlib.Nat.{add-zero, add-suc, zero-mul, one-mul, suc-mul, add-mul, not-suc-le-zero}
use native.Mathlib.Omega.{arith}
use lib.Dec.{eqb}
use borrow.Author.Tests.{eq-eqb, ne_eqb, eqb-false, not-true}
use Rattle.laws.specs.Table.{number, count}
use Rattle.laws.proofs.Test.{clash, and_left, and_right}
use Rattle.laws.proofs.Table.{count_agree, below_suc}

pub count_all : (n : ℕ) → count n (λ i. true) ≡ n
unfolding count
count_all zero = refl
count_all (suc n) = rw (count_all n) (omega arith)

pub count_none : (n : ℕ) → count n (λ i. false) ≡ 0
unfolding count
count_none zero = refl
count_none (suc n) = rw (count_none n)

-- no more pass than there are
pub number_below : (b : Bool) → number b ≤ 1
number_below true = omega arith
number_below false = omega arith

pub count_le : (f : ℕ → Bool) (n : ℕ) → count n f ≤ n
unfolding count
count_le f zero = zero-le
count_le f (suc n) = let l = count_le f n in let m = number_below (f n) in omega arith

pub count_add : (f : ℕ → Bool) (m n : ℕ) → count (m + n) f ≡ count m f + count n (λ i. f (m + i))
unfolding count
count_add f m zero = rw (add-zero m) (omega arith)
count_add f m (suc n) = rw (add-suc m n, count_add f m n) (omega arith)

-- the columns of a row that passes, none of a row that does not
count_row : (b : Bool) (n : ℕ) (c : ℕ → Bool) → count n (λ i. b && c i) ≡ number b * count n c
count_row true n c = sym (one-mul (count n c))
count_row false n c = count_none n ∙ sym (zero-mul (count n c))

pub count_product : (a b : ℕ) (f r c : ℕ → Bool)
    → ((x y : ℕ) → x < a → y < b → f (y * a + x) ≡ (r y && c x)) → count (b * a) f ≡ count b r * count a c
unfolding count
count_product a zero f r c e = rw (zero-mul a, zero-mul (count a c))
count_product a (suc b) f r c e =
    rw (
      suc-mul b a,
      count_add f (b * a) a,
      count_product a b f r c (λ x y k l. e x y k (omega arith)),
      count_agree (λ x. f (b * a + x)) (λ x. r b && c x) a (λ x k. e x b k (omega arith)),
      count_row (r b) a c,
      add-mul (number (r b)) (count b r) (count a c),
    ) (omega arith)

pub count_sums : (f g p q : ℕ → Bool) (n : ℕ)
    → ((i : ℕ) → i < n → number (f i) + number (g i) ≡ number (p i) + number (q i)) → count n f + count n g ≡ count n p + count n q
unfolding count
count_sums f g p q zero e = refl
count_sums f g p q (suc n) e = omega (arith, e n (omega arith), count_sums f g p q n (λ i l. e i (omega arith)))

-- where none passes
pub count_nothing : (f : ℕ → Bool) (n : ℕ) → ((i : ℕ) → i < n → f i ≡ false) → count n f ≡ 0
count_nothing f n e = count_agree f (λ i. false) n e ∙ count_none n

-- One of the numbers that pass, and the test of all others.
module _ (f : ℕ → Bool) (k : ℕ) (pass : f k ≡ true) where
  abbrev but : ℕ → Bool
  but i = f i && not (eqb i k)

  but_own : but k ≡ false
  but_own = rw (eq-eqb k k refl) (and-false (f k))

  but_other : (i : ℕ) → i ≢ k → but i ≡ f i
  but_other i e = rw (ne_eqb i k e) (and-true (f i))

  count_less : (n : ℕ) → k < n → count n f ≡ suc (count n (λ i. f i && not (eqb i k)))
  unfolding count
  count_less zero b = absurd (not-suc-le-zero b)
  count_less (suc n) b = ⊎_elim here (λ l. below l (count_less n l)) (below_suc n k b)
    where
      here : k ≡ n → count (suc n) f ≡ suc (count (suc n) but)
      here e =
          let a : f n ≡ true = ap f (sym e) ∙ pass in
          let c : but n ≡ false = ap but (sym e) ∙ but_own in
          rw (c, a, count_agree f but n (λ i l. sym (but_other i (omega arith)))) (omega arith)

      below : k < n → count n f ≡ suc (count n but) → count (suc n) f ≡ suc (count (suc n) but)
      below l r = let c : but n ≡ f n = but_other n (omega arith) in rw (c, r) (omega arith)

  pub count_single : (n : ℕ) → k < n → ((i : ℕ) → i < n → f i ≡ true → i ≡ k) → count n f ≡ 1
  count_single n b only = count_less n b ∙ ap suc (count_nothing but n (λ i l. go i (f i) refl (only i l)))
    where
      go : (i : ℕ) (t : Bool) → f i ≡ t → (f i ≡ true → i ≡ k) → but i ≡ false
      go i true e u = ap but (u e) ∙ but_own
      go i false e u = rw e

-- where one passes, some do
pub count_some : (f : ℕ → Bool) (n k : ℕ) → k < n → f k ≡ true → count n f ≢ 0
count_some f n k l e z = omega (arith, count_less f k e n l)

-- f leads from the numbers below n that pass F to numbers below m that pass G, and g leads back
abbrev pub Into : ℕ → ℕ → (ℕ → Bool) → (ℕ → Bool) → (ℕ → ℕ) → (ℕ → ℕ) → Type 0
Into n m F G f g = (i : ℕ) → i < n → F i ≡ true → (f i < m) × (G (f i) ≡ true) × (g (f i) ≡ i)

into_none : (m : ℕ) (F G : ℕ → Bool) (f g : ℕ → ℕ) → Into m 0 G F g f → (j : ℕ) → j < m → G j ≡ false
into_none m F G f g from j l = go (G j) refl
  where
    go : (t : Bool) → G j ≡ t → t ≡ false
    go true e = absurd (not-suc-le-zero (from j l e).0)
    go false e = refl

module _ (n m : ℕ) (F G : ℕ → Bool) (f g : ℕ → ℕ) (to : Into (suc n) m F G f g) (from : Into m (suc n) G F g f) where
  -- where n fails, all goes on below it
  fail_from : F n ≡ false → Into m n G F g f
  fail_from e j l p =
      let (b, c, d) = from j l p in
      let o : g j ≢ n = λ q. clash c (ap F q ∙ e) in
      (omega arith, c, d)

  -- where n passes, without it and its partner
  module _ (e : F n ≡ true) where
    abbrev fewer : ℕ → Bool
    fewer j = G j && not (eqb j (f n))

    pass_to : Into n m F fewer f g
    pass_to i l p =
        let (b, c, d) = to i (omega arith) p in
        let (x, y, z) = to n (omega arith) e in
        let o : f i ≢ f n = λ q. omega (arith, ap g q) in
        (b, but_other G (f n) y (f i) o ∙ c, d)

    pass_from : Into m n fewer F g f
    pass_from j l p =
        let (b, c, d) = from j l (and_left (G j) (not (eqb j (f n))) p) in
        let o : g j ≢ n =
        λ q. eqb-false j (f n) (not-true (eqb j (f n)) (and_right (G j) (not (eqb j (f n))) p)) (sym d ∙ ap f q) in
        (omega arith, c, d)

pub count_matched : (n m : ℕ) (F G : ℕ → Bool) (f g : ℕ → ℕ) → Into n m F G f g → Into m n G F g f
    → count n F ≡ count m G
unfolding count
count_matched zero m F G f g to from = sym (count_nothing G m (into_none m F G f g from))
count_matched (suc n) m F G f g to from = go (F n) refl (λ H. count_matched n m F H f g)
  where
    go : (t : Bool) → F n ≡ t → ((H : ℕ → Bool) → Into n m F H f g → Into m n H F g f → count n F ≡ count m H)
        → number (F n) + count n F ≡ count m G
    go true e r =
        let (b, c, d) = to n (omega arith) e in
        rw (e, r (fewer n m F G f g to from e) (pass_to n m F G f g to from e) (pass_from n m F G f g to from e))
        (omega (arith, count_less G (f n) c m b))
    go false e r =
        rw e (omega (arith, r G (λ i l. to i (omega arith)) (fail_from n m F G f g to from e)))
