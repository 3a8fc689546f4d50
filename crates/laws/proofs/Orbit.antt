-- Orbits of a map that is one-to-one.
--   times f i d     == f applied i times to d
--   Below n g       == g has values below n at 0, 1, .. n
--   Twice n g       == at two of these places g has one value
--   moved v w x     == x, but w in the place of v
--   Turns n on f    == f is one-to-one on the darts that are on, and stays among them; all are below n
use mathlib.Core.Path.{◌≡◌, refl, sym, ◌∙◌, ap}
use mathlib.Core.Bool.{Bool, true, cond}
use mathlib.Core.Logic.{◌⊎◌, inl, inr, ◌≢◌}
use Prim.Native.Nat.{ℕ, zero, suc, ◌<◌, ◌≤◌, zero-le, ◌+◌, ◌-◌}
use native.Mathlib.Nat.{zero-add, suc-add}
use native.Mathlib.Decide.{ℕ_discrete}
use native.Mathlib.Omega.{arith}
use borrow.Author.Tests.{eq-eqb, ne_eqb}
use lib.Dec.{eqb}
use Rattle.laws.proofs.Chart.{Turns, times}

-- one more, at the other end
pub times_suc : (f : ℕ → ℕ) (i d : ℕ) → times f (suc i) d ≡ f (times f i d)
unfolding times
times_suc f zero d = refl
times_suc f (suc i) d = times_suc f i (f d)

-- i times and then j times
pub times_add : (f : ℕ → ℕ) (i j d : ℕ) → times f (i + j) d ≡ times f j (times f i d)
unfolding times
times_add f zero j d = rw zero-add
times_add f (suc i) j d = rw suc-add (times_add f i j (f d))

-- the same steps at the same dart
pub times_same : (f : ℕ → ℕ) (d : ℕ) {i j : ℕ} → i ≡ j → times f i d ≡ times f j d
times_same f d e = ap (λ i. times f i d) e

-- a round may be left out
pub skip_round : (f : ℕ → ℕ) (p k d : ℕ) → p ≤ k → times f p d ≡ d → times f k d ≡ times f (k - p) d
skip_round f p k d l e = times_same f d (omega arith) ∙ times_add f p (k - p) d ∙ ap (times f (k - p)) e

-- what holds below b and at b holds below suc b
below_suc : (P : ℕ → Type 0) (b : ℕ) → ((i : ℕ) → i < b → P i) → P b → (i : ℕ) → i < suc b → P i
below_suc P b h p i l = go (ℕ_discrete i b)
  where
    go : Dec (i ≡ b) → P i
    go (yes e) = rw e p
    go (no k) = h i (omega arith)

-- a value is met before b, or it is not
met : (g : ℕ → ℕ) (v b : ℕ) → ((i : ℕ) × (i < b) × (g i ≡ v)) ⊎ ((i : ℕ) → i < b → g i ≢ v)
met g v zero = inr (λ i h. absurd (omega arith))
met g v (suc b) = go (ℕ_discrete (g b) v) (met g v b)
  where
    go : Dec (g b ≡ v) → ((i : ℕ) × (i < b) × (g i ≡ v)) ⊎ ((i : ℕ) → i < b → g i ≢ v)
        → ((i : ℕ) × (i < suc b) × (g i ≡ v)) ⊎ ((i : ℕ) → i < suc b → g i ≢ v)
    go (yes e) o = inl (b, omega arith, e)
    go (no h) (inl (i, l, e)) = inl (i, omega arith, e)
    go (no h) (inr k) = inr (below_suc (λ i. g i ≢ v) b k h)

moved : ℕ → ℕ → ℕ → ℕ
moved v w x = cond (eqb x v) w x

module _ (v w : ℕ) where
  moved_at : (x : ℕ) → x ≡ v → moved v w x ≡ w
  unfolding moved
  moved_at x e = rw (eq-eqb x v e)

  moved_off : (x : ℕ) → x ≢ v → moved v w x ≡ x
  unfolding moved
  moved_off x h = rw (ne_eqb x v h)

  moved_once : (x y : ℕ) → x ≢ w → y ≢ w → moved v w x ≡ moved v w y → x ≡ y
  moved_once x y h k e = go (ℕ_discrete x v) (ℕ_discrete y v)
    where
      go : Dec (x ≡ v) → Dec (y ≡ v) → x ≡ y
      go (yes p) (yes q) = p ∙ sym q
      go (yes p) (no q) = absurd (k (sym (moved_off y q) ∙ sym e ∙ moved_at x p))
      go (no p) (yes q) = absurd (h (sym (moved_off x p) ∙ e ∙ moved_at y q))
      go (no p) (no q) = sym (moved_off x p) ∙ e ∙ moved_off y q

  moved_below : (x : ℕ) → x < suc v → w < suc v → x ≢ w → moved v w x < v
  moved_below x h k l = go (ℕ_discrete x v)
    where
      go : Dec (x ≡ v) → moved v w x < v
      go (yes p) = rw (moved_at x p) (omega arith)
      go (no p) = rw (moved_off x p) (omega arith)

abbrev pub Below : ℕ → (ℕ → ℕ) → Type 0
Below n g = (i : ℕ) → i ≤ n → g i < n

abbrev pub Twice : ℕ → (ℕ → ℕ) → Type 0
Twice n g = (i : ℕ) × (j : ℕ) × (i < j) × (j ≤ n) × (g i ≡ g j)

-- the value at suc n in the place of n
abbrev packed : ℕ → (ℕ → ℕ) → ℕ → ℕ
packed n g i = moved n (g (suc n)) (g i)

module _ (n : ℕ) (g : ℕ → ℕ) (b : Below (suc n) g) where
  packed_below : ((i : ℕ) → i < suc n → g i ≢ g (suc n)) → Below n (packed n g)
  packed_below h i l =
      moved_below n (g (suc n)) (g i) (b i (omega arith)) (b (suc n) (omega arith)) (h i (omega arith))

  unpacked : ((i : ℕ) → i < suc n → g i ≢ g (suc n)) → Twice n (packed n g) → Twice (suc n) g
  unpacked h (i, j, l, m, e) =
      (i, j, l, omega arith, moved_once n (g (suc n)) (g i) (g j) (h i (omega arith)) (h j (omega arith)) e)

  pigeon_step : (Below n (packed n g) → Twice n (packed n g)) → Twice (suc n) g
  pigeon_step ih = go (met g (g (suc n)) (suc n))
    where
      go : ((i : ℕ) × (i < suc n) × (g i ≡ g (suc n))) ⊎ ((i : ℕ) → i < suc n → g i ≢ g (suc n)) → Twice (suc n) g
      go (inl (i, l, e)) = (i, suc n, l, omega arith, e)
      go (inr h) = unpacked h (ih (packed_below h))

-- two of n + 1 numbers below n are equal
pub pigeonhole : (n : ℕ) (g : ℕ → ℕ) → Below n g → Twice n g
pigeonhole zero g h = absurd (omega (arith, h 0 zero-le))
pigeonhole (suc n) g h = pigeon_step n g h (pigeonhole n (packed n g))

-- one map after another, and a map that is the same where darts are on
pub turns_after : {n : ℕ} {on : ℕ → Bool} {f g : ℕ → ℕ} → Turns n on f → Turns n on g → Turns n on (λ d. f (g d))
turns_after {f = f} {g = g} t u =
    record {
      below = u.below;
      stays = λ d h. t.stays (g d) (u.stays d h);
      once = λ d e h k p. u.once d e h k (t.once (g d) (g e) (u.stays d h) (u.stays e k) p);
    }

pub turns_alike : {n : ℕ} {on : ℕ → Bool} {f : ℕ → ℕ} (g : ℕ → ℕ) → Turns n on f
    → ((d : ℕ) → on d ≡ true → g d ≡ f d) → Turns n on g
turns_alike g t a =
    record {
      below = t.below;
      stays = λ d h. rw (a d h) (t.stays d h);
      once = λ d e h k p. t.once d e h k (sym (a d h) ∙ p ∙ a e k);
    }

module _ {n : ℕ} {on : ℕ → Bool} {f : ℕ → ℕ} (t : Turns n on f) where
  -- every dart of the orbit is on
  pub orbit_on : (i d : ℕ) → on d ≡ true → on (times f i d) ≡ true
  unfolding times
  orbit_on zero d h = h
  orbit_on (suc i) d h = orbit_on i (f d) (t.stays d h)

  -- as many steps lead to one dart only from one dart
  pub times_once : (i d e : ℕ) → on d ≡ true → on e ≡ true → times f i d ≡ times f i e → d ≡ e
  unfolding times
  times_once zero d e h k p = p
  times_once (suc i) d e h k p = t.once d e h k (times_once i (f d) (f e) (t.stays d h) (t.stays e k) p)

  -- a dart met twice has gone round in between
  round : (i k d : ℕ) → on d ≡ true → times f i d ≡ times f (suc k + i) d → times f (suc k) d ≡ d
  round i k d h e =
      sym (times_once i d (times f (suc k) d) h (orbit_on (suc k) d h) (e ∙ times_add f (suc k) i d))

  -- a dart comes back in as many steps as colours are needed to tell the darts of its orbit apart
  pub returns_by : (b : ℕ) (c : ℕ → ℕ) (d : ℕ) → on d ≡ true → ((i : ℕ) → c (times f i d) < b)
      → ((i j : ℕ) → c (times f i d) ≡ c (times f j d) → times f i d ≡ times f j d)
      → (k : ℕ) × (k < b) × (times f (suc k) d ≡ d)
  returns_by b c d h below apart =
      let (i, j, l, m, e) = pigeonhole b (λ i. c (times f i d)) (λ i _. below i) in
      let k : ℕ = j - suc i in
      (k, omega arith, round i k d h (apart i j e ∙ times_same f d (omega arith)))

  -- a dart comes back in at most n steps
  pub returns : (d : ℕ) → on d ≡ true → (k : ℕ) × (k < n) × (times f (suc k) d ≡ d)
  returns d h = returns_by n (λ e. e) d h (λ i. t.below (times f i d) (orbit_on i d h)) (λ i j e. e)

  -- a dart ahead leads back
  times_back : (i d : ℕ) → on d ≡ true → (j : ℕ) × (times f j (times f i d) ≡ d)
  unfolding times
  times_back zero d h = (0, refl)
  times_back (suc i) d h =
      let (j, e) = times_back i (f d) (t.stays d h) in
      let (k, l, r) = returns d h in
      (j + k, times_add f j k (times f i (f d)) ∙ ap (times f k) e ∙ r)

  pub leads_back : (i d e : ℕ) → on d ≡ true → e ≡ times f i d → (j : ℕ) × (times f j e ≡ d)
  leads_back i d e h p = rw p (times_back i d h)
