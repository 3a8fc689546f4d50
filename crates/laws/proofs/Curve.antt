-- Closed curves: orbits that meet no big point.
--   Meets m d q     == the orbit of d meets the point q
--   Clear m big d   == the orbit of d meets no big point
--   Joined m p q    == a chain of lines leads from p to q
--   Tops m top      == top is the same at both ends of a line, and joined with each point that has a dart
--   Few m big       == a point that is not big has at most two darts: one, and the next of its reversal
use mathlib.Core.Path.{◌≡◌, refl, sym, ◌∙◌, ap}
use mathlib.Core.Bool.{Bool, true, false}
use mathlib.Core.Logic.{◌⊎◌, inl, inr, ⊎_elim, ⊎_map}
use Prim.Native.Nat.{ℕ, zero, suc, ◌<◌}
use native.Mathlib.Decide.{ℕ_discrete}
use native.Mathlib.Omega.{arith}
use Rattle.laws.proofs.Chart.{Map, Chart, times, Few}
use Rattle.laws.proofs.Orbit.{times_suc, orbit_on, returns, leads_back}
use Rattle.laws.proofs.Meet.{Meets, times_none, round_about, meets_start, after_at, before}
use Rattle.laws.proofs.Loop.{few_passes}

pub record Clear (m : Map) (big : ℕ → Bool) (d : ℕ) : Type 0 where
  pub clear : {q : ℕ} → Meets m d q → big q ≡ false

pub data Joined (m : Map) : ℕ → ℕ → Type 0 where
  alone : {p : ℕ} → Joined m p p
  line : (d : ℕ) → m.on d ≡ true → Joined m (m.pt d) (m.pt (m.rev d))
  back : {p q : ℕ} → Joined m p q → Joined m q p
  onward : {p q r : ℕ} → Joined m p q → Joined m q r → Joined m p r

pub record Tops (m : Map) (top : ℕ → ℕ) : Type 0 where
  pub along : (d : ℕ) → m.on d ≡ true → top (m.pt d) ≡ top (m.pt (m.rev d))
  pub joined : (d : ℕ) → m.on d ≡ true → Joined m (m.pt d) (top (m.pt d))

module _ {m : Map} {big : ℕ → Bool} (c : Chart m) (f : Few m big) where
  open m use {on, rev, nx, pt}

  module _ {d : ℕ} (h : on d ≡ true) (k : Clear m big d) where
    -- The curve law: with a point that has a line, the orbit meets the other end of the line.
    pub meets_line : (e : ℕ) → on e ≡ true → Meets m d (pt e) → Meets m d (pt (rev e))
    meets_line e n (i, q) = ⊎_elim ahead behind (f.two g e o n q (k.clear (i, refl)))
      where
        g : ℕ
        g = times nx i d

        o : on g ≡ true
        o = orbit_on c.turns i d h

        ahead : e ≡ g → Meets m d (pt (rev e))
        ahead a = (suc i, after_at c i d h ∙ ap (λ x. pt (rev x)) (sym a))

        behind : e ≡ nx (rev g) → Meets m d (pt (rev e))
        behind a =
            let (j, b) = before c d h i in
            let x : ℕ = times nx j d in
            let s : on x ≡ true = orbit_on c.turns j d h in
            let next_is : nx x ≡ g = sym (times_suc nx j d) ∙ b in
            let small : big (pt (nx x)) ≡ false = ap (λ y. big (pt y)) next_is ∙ k.clear (i, refl) in
            let through : nx (rev (nx x)) ≡ rev x = (few_passes c f).back x s small in
            (j, ap pt (sym (c.rev_rev x s) ∙ ap rev (sym through ∙ ap (λ y. nx (rev y)) next_is ∙ sym a)))

    -- with the point of a dart, it meets every point that the dart's orbit meets
    meets_orbit : (i e : ℕ) → on e ≡ true → Meets m d (pt e) → Meets m d (pt (times nx i e))
    unfolding times
    meets_orbit zero e n a = a
    meets_orbit (suc i) e n a = meets_orbit i (nx e) (c.turns.stays e n) (rw (c.leaves e n) (meets_line e n a))

    pub meets_within : {e q : ℕ} → on e ≡ true → Meets m d (pt e) → Meets m e q → Meets m d q
    meets_within {e} n a (i, b) = rw b at (meets_orbit i e n a)

    -- which is clear too
    pub clear_within : {e : ℕ} → on e ≡ true → Meets m d (pt e) → Clear m big e
    clear_within n a = record { clear = λ b. k.clear (meets_within n a b) }

    -- with a point, it meets every point joined with it
    pub meets_joined : {p q : ℕ} → Joined m p q → (Meets m d p → Meets m d q) × (Meets m d q → Meets m d p)
    meets_joined alone = (λ a. a, λ a. a)
    meets_joined (line e n) =
        (meets_line e n, λ a. rw (ap pt (c.rev_rev e n)) at (meets_line (rev e) (c.rev_on e n) a))
    meets_joined (back j) = let (a, b) = meets_joined j in (b, a)
    meets_joined (onward i j) =
        let (a, b) = meets_joined i in
        let (x, y) = meets_joined j in
        (λ z. x (a z), λ z. b (y z))

  -- two clear orbits with a common point meet the same points
  pub meets_back : {d e : ℕ} → on d ≡ true → Clear m big d → on e ≡ true → Meets m d (pt e) → Meets m e (pt d)
  meets_back {d} {e} h k n (i, a) =
      let o : on (times nx i d) ≡ true = orbit_on c.turns i d h in
      let (j, b) = leads_back c.turns i d (times nx i d) h refl in
      meets_within n (clear_within h k n (i, a)) o (0, ap pt (times_none nx e) ∙ sym a) (j, ap pt b)

  pub meets_both : {d e q : ℕ} → on d ≡ true → Clear m big d → on e ≡ true → Meets m d (pt e) → Meets m d q
      → Meets m e q
  meets_both h k n a b = meets_within n (clear_within h k n a) h (meets_back h k n a) b

-- An orbit is clear, or it meets a big point.
--   a test passes before b, or it fails everywhere there
seek : (s : ℕ → Bool) (b : ℕ) → ((i : ℕ) × (s i ≡ true)) ⊎ ((i : ℕ) → i < b → s i ≡ false)
seek s zero = inr (λ i h. absurd (omega arith))
seek s (suc b) = go (s b) refl (seek s b)
  where
    go : (x : Bool) → s b ≡ x → ((i : ℕ) × (s i ≡ true)) ⊎ ((i : ℕ) → i < b → s i ≡ false)
        → ((i : ℕ) × (s i ≡ true)) ⊎ ((i : ℕ) → i < suc b → s i ≡ false)
    go true e o = inl (b, e)
    go false e (inl o) = inl o
    go false e (inr o) = inr λ i h. at i h (ℕ_discrete i b)
      where
        at : (i : ℕ) → i < suc b → Dec (i ≡ b) → s i ≡ false
        at i h (yes q) = ap s q ∙ e
        at i h (no q) = o i (omega arith)

module _ {m : Map} (big : ℕ → Bool) (c : Chart m) (d : ℕ) (h : m.on d ≡ true) where
  -- the point of the i-th dart is big
  abbrev big_at : ℕ → Bool
  big_at i = big (m.pt (times m.nx i d))

  -- a closed round that fails the test everywhere
  clear_round : (j : ℕ) → times m.nx (suc j) d ≡ d → ((i : ℕ) → i < suc j → big_at i ≡ false) → Clear m big d
  clear_round j e o = record { clear = clear }
    where
      clear : {q : ℕ} → Meets m d q → big q ≡ false
      clear (i, a) =
          let (l, b, z) = round_about m.nx j d e i in
          ap big (sym a ∙ ap m.pt z) ∙ o l (omega arith)

  pub clear_or : ((q : ℕ) × Meets m d q × (big q ≡ true)) ⊎ Clear m big d
  clear_or =
      let (j, _, e) = returns c.turns d h in
      ⊎_map (λ s. (m.pt (times m.nx s.0 d), (s.0, refl), s.1)) (clear_round j e) (seek big_at (suc j))

-- The point that stands for all that are joined.
module _ {m : Map} {top : ℕ → ℕ} (c : Chart m) (t : Tops m top) where
  open m use {on, nx, pt}

  pub tops_joined : {p q : ℕ} → Joined m p q → top p ≡ top q
  tops_joined alone = refl
  tops_joined (line d h) = t.along d h
  tops_joined (back j) = sym (tops_joined j)
  tops_joined (onward i j) = tops_joined i ∙ tops_joined j

  -- it stands for itself
  pub tops_top : (d : ℕ) → on d ≡ true → top (top (pt d)) ≡ top (pt d)
  tops_top d h = sym (tops_joined (t.joined d h))

  -- it is the same along an orbit
  tops_orbit : (i d : ℕ) → on d ≡ true → top (pt (times nx i d)) ≡ top (pt d)
  unfolding times
  tops_orbit zero d h = refl
  tops_orbit (suc i) d h = tops_orbit i (nx d) (c.turns.stays d h) ∙ ap top (c.leaves d h) ∙ sym (t.along d h)

  pub tops_meets : {d q : ℕ} → on d ≡ true → Meets m d q → top q ≡ top (pt d)
  tops_meets {d} h (i, e) = ap top (sym e) ∙ tops_orbit i d h

  -- a clear orbit meets it, and every point that it stands for
  module _ {big : ℕ → Bool} (f : Few m big) {d : ℕ} (h : on d ≡ true) (k : Clear m big d) where
    pub meets_top : Meets m d (top (pt d))
    meets_top = (meets_joined c f h k (t.joined d h)).0 (meets_start c d)

    pub meets_same : (e : ℕ) → on e ≡ true → top (pt e) ≡ top (pt d) → Meets m d (pt e)
    meets_same e n q = (meets_joined c f h k (t.joined e n)).1 (rw q meets_top)
