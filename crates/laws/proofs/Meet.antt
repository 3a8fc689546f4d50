-- Which points an orbit meets, and points with two darts.
--   Meets m d q     == the orbit of d meets the point q
--   Two m p u v     == the darts at point p are u and v, and these are two
--   Covers m k      == from every dart some kept point is ahead
use mathlib.Core.Path.{◌≡◌, refl, sym, ◌∙◌, ap}
use mathlib.Core.Bool.{Bool, true}
use mathlib.Core.Logic.{◌⊎◌, ◌≢◌, ⊎_elim, ⊎_swap}
use Prim.Native.Nat.{ℕ, zero, suc, zero-le, ◌<◌, ◌≤◌, ◌+◌}
use native.Mathlib.Decide.{dec_lt}
use native.Mathlib.Omega.{arith}
use Rattle.laws.proofs.Chart.{Map, Chart, times, Covers}
use Rattle.laws.proofs.Orbit.{times_suc, times_add, orbit_on, returns}

abbrev pub Meets : Map → ℕ → ℕ → Type 0
Meets m d q = (i : ℕ) × (m.pt (times m.nx i d) ≡ q)

pub record Two (m : Map) (p u v : ℕ) : Type 0 where
  pub one : m.on u ≡ true
  pub two : m.on v ≡ true
  pub apart : u ≢ v
  pub one_at : m.pt u ≡ p
  pub two_at : m.pt v ≡ p
  pub only : (d : ℕ) → m.on d ≡ true → m.pt d ≡ p → (d ≡ u) ⊎ (d ≡ v)

pub times_none : (f : ℕ → ℕ) (d : ℕ) → times f 0 d ≡ d
unfolding times
times_none f d = refl

-- an orbit that closes after suc i steps has no dart but its first suc i
module _ (f : ℕ → ℕ) (i d : ℕ) (e : times f (suc i) d ≡ d) where
  round_step : (j l : ℕ) → times f j d ≡ times f l d → Dec (l < i) → l ≤ i
      → (l : ℕ) × (l ≤ i) × (times f (suc j) d ≡ times f l d)
  round_step j l q (yes h) g = (suc l, h, times_suc f j d ∙ ap f q ∙ sym (times_suc f l d))
  round_step j l q (no h) g =
      let n : l ≡ i = omega arith in
      let met : times f (suc j) d ≡ times f (suc i) d =
      times_suc f j d ∙ ap f (q ∙ ap (λ b. times f b d) n) ∙ sym (times_suc f i d) in
      (0, zero-le, met ∙ e ∙ sym (times_none f d))

  pub round_about : (j : ℕ) → (l : ℕ) × (l ≤ i) × (times f j d ≡ times f l d)
  round_about zero = (0, zero-le, refl)
  round_about (suc j) = let (l, g, q) = round_about j in round_step j l q (dec_lt l i) g

module _ {m : Map} (c : Chart m) where
  open m use {on, rev, nx, pt, side}

  -- an orbit meets the point where it starts
  pub meets_start : (d : ℕ) → Meets m d (pt d)
  meets_start d = (0, ap pt (times_none nx d))

  -- it meets what is met from a later dart
  pub meets_after : (i d : ℕ) {q : ℕ} → Meets m (times nx i d) q → Meets m d q
  meets_after i d (j, e) = (i + j, ap pt (times_add nx i j d) ∙ e)

  -- the point after the i-th dart
  pub after_at : (i d : ℕ) → on d ≡ true → pt (times nx (suc i) d) ≡ pt (rev (times nx i d))
  after_at i d h = ap pt (times_suc nx i d) ∙ c.leaves (times nx i d) (orbit_on c.turns i d h)

  -- each dart of an orbit is the next of one of its darts
  pub before : (d : ℕ) → on d ≡ true → (i : ℕ) → (j : ℕ) × (times nx (suc j) d ≡ times nx i d)
  before d h zero = let (j, _, e) = returns c.turns d h in (j, e ∙ sym (times_none nx d))
  before d h (suc i) = (i, refl)

  -- the darts of an orbit have one side
  pub orbit_side : (i d : ℕ) → on d ≡ true → side (times nx i d) ≡ side d
  unfolding times
  orbit_side zero d h = refl
  orbit_side (suc i) d h = orbit_side i (nx d) (c.turns.stays d h) ∙ c.keeps d h

  -- to cover is that every orbit meets a kept point
  module _ {k : ℕ → Bool} where
    pub covers_meets : Covers m k → (d : ℕ) → on d ≡ true → (q : ℕ) × Meets m d q × (k q ≡ true)
    covers_meets w d h = let (i, e) = w.ahead d h in (pt (rev (times nx i d)), (suc i, after_at i d h), e)

    pub meets_covers : ((d : ℕ) → on d ≡ true → (q : ℕ) × Meets m d q × (k q ≡ true)) → Covers m k
    meets_covers f = record { ahead = ahead }
      where
        ahead : (d : ℕ) → on d ≡ true → (i : ℕ) × (k (pt (rev (times nx i d))) ≡ true)
        ahead d h =
            let (q, (i, a), e) = f d h in
            let (j, b) = before d h i in
            (j, ap k (sym (after_at j d h) ∙ ap pt b ∙ a) ∙ e)

  -- the way back along a dart is not its next
  pub back_apart : (d : ℕ) → on d ≡ true → rev d ≢ nx d
  back_apart d h e = c.parts d h (ap side e ∙ c.keeps d h)

  -- back along a dart the next starts where the dart does, and is another dart
  pub turn_on : (d : ℕ) → on d ≡ true → on (nx (rev d)) ≡ true
  turn_on d h = c.turns.stays (rev d) (c.rev_on d h)

  pub turn_at : (d : ℕ) → on d ≡ true → pt (nx (rev d)) ≡ pt d
  turn_at d h = c.leaves (rev d) (c.rev_on d h) ∙ ap pt (c.rev_rev d h)

  pub turn_side : (d : ℕ) → on d ≡ true → side (nx (rev d)) ≢ side d
  turn_side d h e = c.parts d h (sym (c.keeps (rev d) (c.rev_on d h)) ∙ e)

-- the two darts in the other order
pub two_swap : {m : Map} {p u v : ℕ} → Two m p u v → Two m p v u
two_swap t =
    record {
      one = t.two;
      two = t.one;
      apart = λ e. t.apart (sym e);
      one_at = t.two_at;
      two_at = t.one_at;
      only = λ d h e. ⊎_swap (t.only d h e);
    }

module _ {m : Map} (c : Chart m) {p : ℕ} where
  open m use {on, rev, nx, pt, side}

  -- back along one of two darts, the next is the other
  pub two_turn : {u v : ℕ} → Two m p u v → nx (rev u) ≡ v
  two_turn {u} {v} t =
      ⊎_elim (λ e. absurd (turn_side c u t.one (ap side e))) (λ e. e)
      (t.only (nx (rev u)) (turn_on c u t.one) (turn_at c u t.one ∙ t.one_at))
