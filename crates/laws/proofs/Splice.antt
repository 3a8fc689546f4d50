-- A point with two darts of two different edges is taken out of a level: its two edges become one.
--   Two m p u v     == the darts at point p are u and v, and these are two
--   Over .. nt ot   == nt and ot have the entries of the level m k at every dart
--   splice-passes   == at a point with two darts, next of the way back is the way back of next
--   splice_covers   == without the point there is still a kept point ahead of every dart
--   splice_over     == the tables of the level without the point
use mathlib.Core.Path.{◌≡◌, sym, ◌∙◌, ap}
use mathlib.Core.Bool.{Bool, true, and-false}
use mathlib.Core.Logic.{◌≢◌, ⊎_elim}
use Prim.Native.Nat.{ℕ}
use native.Mathlib.Decide.{ℕ_discrete}
use Rattle.laws.proofs.Chart.{Map, Chart, times, last, Covers, Passes}
use Rattle.laws.proofs.Orbit.{orbit_on}
use Rattle.laws.proofs.Level.{last_kept, last_other}
use Rattle.laws.proofs.Over.{next, other, put, without, Entry, Over, put_cases}
use Rattle.laws.proofs.Over.{without_off, without_at, without_else}
use Rattle.laws.proofs.Over.{entry_on, entry_off, entries, entry_stays, over_next, over_other}
use Rattle.laws.proofs.Meet.{Meets, Two, two_swap, two_turn, meets_after, covers_meets, meets_covers}
use Rattle.laws.proofs.Link.{other_on, other_apart, other_other, other_meets, last_same, last_next}

module _ {m : Map} {k : ℕ → Bool} (c : Chart m) (w : Covers m k) (s : Passes m k) {p : ℕ} (kp : k p ≡ true) where
  open m use {on, nx, pt}

  -- the darts of the point are on in the level
  one_kept : {u v : ℕ} → Two m p u v → k (pt u) ≡ true
  one_kept t = ap k t.one_at ∙ kp

  -- two edges, seen from either dart
  edges_swap : {u v : ℕ} → Two m p u v → other m k u ≢ v → other m k v ≢ u
  edges_swap {u} {v} t x e =
      x (ap (other m k) (sym e) ∙ other_other c w s v t.two (one_kept (two_swap t)))

  -- their other ends are kept without the point
  end_kept : {u v : ℕ} → Two m p u v → other m k u ≢ v → without k p (pt (other m k u)) ≡ true
  end_kept {u} t x = without_else k p (pt (other m k u)) away ∙ last_kept c w u t.one
    where
      away : pt (other m k u) ≢ p
      away e = ⊎_elim (other_apart c w u t.one) x (t.only (other m k u) (other_on c w u t.one) e)

  -- and are ahead of the darts
  end_ahead : {u v : ℕ} → Two m p u v → other m k u ≢ v → (d : ℕ) → d ≡ u
      → (q : ℕ) × Meets m d q × (without k p q ≡ true)
  end_ahead {u} t x d e = rw e (pt (other m k u), other_meets c w u t.one, end_kept t x)

  covers_without : {u v : ℕ} → Two m p u v → other m k u ≢ v → Covers m (without k p)
  covers_without t x = meets_covers c λ d h. let (q, a, e) = covers_meets c w d h in go d h q a e (ℕ_discrete q p)
    where
      go : (d : ℕ) → on d ≡ true → (q : ℕ) → Meets m d q → k q ≡ true → Dec (q ≡ p)
          → (q : ℕ) × Meets m d q × (without k p q ≡ true)
      go d h q (i, a) e (yes b) =
          let l : ℕ = times nx i d in
          let (z, r, y) = ⊎_elim (end_ahead t x l) (end_ahead (two_swap t) (edges_swap t x) l)
          (t.only l (orbit_on c.turns i d h) (a ∙ b)) in
          (z, meets_after c i d r, y)
      go d h q a e (no b) = (q, a, without_else k p q b ∙ e)

  -- the other end of one edge leads on along the other edge
  splice_last : {u v : ℕ} → Two m p u v → other m k u ≢ v → last m (without k p) (other m k u) ≡ last m k v
  splice_last {u} {v} t x =
      last_next c w (without_off k p) (other m k u) (other_on c w u t.one)
      (without_at k p _ (ap pt (other_other c w s u t.one (one_kept t)) ∙ t.one_at))
      (rw through (end_kept (two_swap t) (edges_swap t x)))
      ∙ ap (last m k) through
    where
      through : next m k (other m k u) ≡ v
      through = ap nx (last_other c w s u t.one (one_kept t)) ∙ two_turn c t

  module _ {none : ℕ} {nt ot : ℕ → ℕ} (o : Over none m k nt ot) where
    -- a dart at the point is no more
    splice_gone : (d : ℕ) → pt d ≡ p → Entry none m (without k p) d none none
    splice_gone d e = entry_off none m (without k p) d (rw (without_at k p (pt d) e) (and-false (on d)))

    -- the other end of one edge takes the entries that the other edge has at the point
    splice_end : {u v : ℕ} → Two m p u v → other m k u ≢ v → Entry none m (without k p) (other m k u) (nt v) (ot v)
    splice_end {u} {v} t x =
        rw (over_next o v t.two kv, over_other o v t.two kv)
        (entry_on none m (without k p) (other m k u) (other_on c w u t.one) (end_kept t x) (splice_last t x))
      where
        kv : k (pt v) ≡ true
        kv = one_kept (two_swap t)

    -- every other dart keeps its entries
    splice_rest : {u v : ℕ} → Two m p u v → (d : ℕ) → d ≢ u → d ≢ v → d ≢ other m k u → d ≢ other m k v
        → Entry none m (without k p) d (nt d) (ot d)
    splice_rest {u} {v} t d du dv dx dy =
        entry_stays o d (without k p) (λ h. without_else k p (pt d) (λ a. ⊎_elim du dv (t.only d h a))) stays
      where
        stays : on d ≡ true → k (pt d) ≡ true → last m (without k p) d ≡ last m k d
        stays h e = last_same c w (without_off k p) d h (without_else k p _ far ∙ last_kept c w d h)
          where
            home : {b : ℕ} → other m k d ≡ b → d ≡ other m k b
            home a = sym (other_other c w s d h e) ∙ ap (other m k) a

            far : pt (other m k d) ≢ p
            far a = ⊎_elim (λ b. dx (home b)) (λ b. dy (home b)) (t.only (other m k d) (other_on c w d h) a)

-- The point p taken out, whose darts u and v are not each other's other.
module _ {none : ℕ} {m : Map} {k : ℕ → Bool} (c : Chart m) (w : Covers m k) (s : Passes m k) {nt ot : ℕ → ℕ}
    (o : Over none m k nt ot) {p u v : ℕ} (kp : k p ≡ true) (t : Two m p u v) (x : ot u ≢ v) where
  x_is : ot u ≡ other m k u
  x_is = over_other o u t.one (one_kept c w s kp t)

  y_is : ot v ≡ other m k v
  y_is = over_other o v t.two (one_kept c w s kp (two_swap t))

  edges : other m k u ≢ v
  edges e = x (x_is ∙ e)

  pub splice_covers : Covers m (without k p)
  splice_covers = covers_without c w s kp t edges

  pub splice_over : Over none m (without k p)
      (put (put (put (put nt (ot u) (nt v)) (ot v) (nt u)) u none) v none)
      (put (put (put (put ot (ot u) (ot v)) (ot v) (ot u)) u none) v none)
  splice_over = entries λ d.
      put_cases (E d) _ _ v none none d (λ e. splice_gone c w s kp o d (ap m.pt e ∙ t.two_at)) λ dv.
      put_cases (E d) _ _ u none none d (λ e. splice_gone c w s kp o d (ap m.pt e ∙ t.one_at)) λ du.
      put_cases (E d) _ _ (ot v) (nt u) (ot u) d (at_y d) λ dy.
      put_cases (E d) nt ot (ot u) (nt v) (ot v) d (at_x d) λ dx.
      splice_rest c w s kp o t d du dv (rw x_is at dx) (rw y_is at dy)
    where
      E : ℕ → ℕ → ℕ → Type 0
      E = Entry none m (without k p)

      at_x : (d : ℕ) → d ≡ ot u → E d (nt v) (ot v)
      at_x d e = rw (e ∙ x_is) (splice_end c w s kp o t edges)

      at_y : (d : ℕ) → d ≡ ot v → E d (nt u) (ot u)
      at_y d e = rw (e ∙ y_is) (splice_end c w s kp o (two_swap t) (edges_swap c w s kp t edges))
