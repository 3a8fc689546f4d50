-- The kept point of a closed curve is exchanged for another point of the curve.
--   Loops m big k   == big points are kept, the other kept points are loops' points, and some is ahead of every dart
--   Two m p u v     == the darts at point p are u and v, and these are two
--   instead k p q   == the test k, but p fails it and q passes it
--   exchange_loops  == after the exchange the other kept points are loops' points again
--   exchange_over   == the tables of the level after the exchange
use mathlib.Core.Path.{◌≡◌, refl, sym, ◌∙◌, ap}
use mathlib.Core.Bool.{Bool, true, false, and-false}
use mathlib.Core.Logic.{◌≢◌, ⊎_elim}
use Prim.Native.Nat.{ℕ}
use native.Mathlib.Decide.{ℕ_discrete}
use Rattle.laws.proofs.Chart.{Map, Chart, times, Covers, Few}
use Rattle.laws.proofs.Orbit.{orbit_on}
use Rattle.laws.proofs.Test.{clash}
use Rattle.laws.proofs.Over.{other, put, without, with, Entry, Over, put_cases}
use Rattle.laws.proofs.Over.{entries, entry_on, entry_off, over_other}
use Rattle.laws.proofs.Over.{without_at, without_else, with_at, with_kept, with_else}
use Rattle.laws.proofs.Meet.{Meets, Two, two_swap, two_turn, meets_start, meets_after}
use Rattle.laws.proofs.Meet.{covers_meets, meets_covers}
use Rattle.laws.proofs.Loop.{Above, Loops, Alone, big_apart, loopy_alone, alone_loopy, loop_other, loops_entry}
use Rattle.laws.proofs.Curve.{Clear, meets_within, meets_back, meets_both}

abbrev pub instead : (ℕ → Bool) → ℕ → ℕ → ℕ → Bool
instead k p q = with (without k p) q

module _ (k : ℕ → Bool) (p q x : ℕ) where
  -- away from q, what is kept after the exchange is not p, and was kept before
  pub instead_apart : x ≢ q → instead k p q x ≡ true → x ≢ p
  instead_apart n h e = clash (sym (with_else (without k p) q x n) ∙ h) (without_at k p x e)

  pub instead_was : x ≢ q → instead k p q x ≡ true → k x ≡ true
  instead_was n h = sym (without_else k p x (instead_apart n h)) ∙ sym (with_else (without k p) q x n) ∙ h

  -- away from p, what was kept is kept
  instead_kept : x ≢ p → k x ≡ true → instead k p q x ≡ true
  instead_kept n h = with_kept (without k p) q x (without_else k p x n ∙ h)

-- a kept point that gives way to itself stays kept
pub instead_own : (k : ℕ → Bool) (p : ℕ) → k p ≡ true → (x : ℕ) → instead k p p x ≡ k x
instead_own k p h x = go (ℕ_discrete x p)
  where
    go : Dec (x ≡ p) → instead k p p x ≡ k x
    go (yes e) = with_at (without k p) p x e ∙ sym (ap k e ∙ h)
    go (no e) = with_else (without k p) p x e ∙ without_else k p x e

-- The orbit of a dart at a kept point that is not big is clear.
module _ {m : Map} {big k : ℕ → Bool} (c : Chart m) (g : Loops m big k) where
  open m use {on, pt}

  pub loops_alone : Alone m big k
  loops_alone = loopy_alone c g.covers g.loopy

  pub loop_clear : {d : ℕ} → on d ≡ true → k (pt d) ≡ true → big (pt d) ≡ false → Clear m big d
  loop_clear {d} h e b = record { clear = λ {q} a. go a (big q) refl }
    where
      go : {q : ℕ} → Meets m d q → (x : Bool) → big q ≡ x → big q ≡ false
      go {q} a true n = clash n (ap big (loops_alone.alone h e b a (g.high.above q n)) ∙ b)
      go a false n = n

  -- A point p that is kept and not big, with darts u and v.
  module _ {p u v : ℕ} (kp : k p ≡ true) (bp : big p ≡ false) (t : Two m p u v) where
    ku : k (pt u) ≡ true
    ku = ap k t.one_at ∙ kp

    bu : big (pt u) ≡ false
    bu = ap big t.one_at ∙ bp

    pub two_clear : Clear m big u
    two_clear = loop_clear t.one ku bu

    -- its curve has no other kept point
    two_only : {q : ℕ} → Meets m u q → k q ≡ true → q ≡ p
    two_only a h = loops_alone.alone t.one ku bu a h ∙ t.one_at

    -- its darts are each other's other
    pub two_other : Few m big → other m k u ≡ v
    two_other f = loop_other c f g u t.one ku bu ∙ two_turn c t

    pub two_ends : Few m big → {none : ℕ} {nt ot : ℕ → ℕ} → Over none m k nt ot → ot u ≡ v
    two_ends f o = over_other o u t.one ku ∙ two_other f

    two_entry : Few m big → (none : ℕ) → Entry none m k u u v
    two_entry f none = rw (g.loopy.loop u t.one ku bu, two_other f) at (entry_on none m k u t.one ku refl)

-- The point p, with darts u and v, gives way to q, with darts e and b, which is met from u. It may be p itself.
module _ {m : Map} {big k : ℕ → Bool} (c : Chart m) (f : Few m big) (g : Loops m big k) {p u v : ℕ} (kp : k p ≡ true)
    (bp : big p ≡ false) (t : Two m p u v) {q e b : ℕ} (s : Two m q e b) (a : Meets m u q) where
  open m use {on, nx, pt}

  clear_u : Clear m big u
  clear_u = two_clear c g kp bp t

  pub exchange_big : big q ≡ false
  exchange_big = clear_u.clear a

  exchange_above : Above big (instead k p q)
  exchange_above = record { above = λ x h. instead_kept k p q x (big_apart big h bp) (g.high.above x h) }

  exchange_covers : Covers m (instead k p q)
  exchange_covers =
      meets_covers c λ d h. let (x, r, y) = covers_meets c g.covers d h in go d h x r y (ℕ_discrete x p)
    where
      go : (d : ℕ) → on d ≡ true → (x : ℕ) → Meets m d x → k x ≡ true → Dec (x ≡ p)
          → (x : ℕ) × Meets m d x × (instead k p q x ≡ true)
      go d h x (i, r) y (yes z) =
          let o : on (times nx i d) ≡ true = orbit_on c.turns i d h in
          let at : Meets m u (pt (times nx i d)) = rw (r ∙ z ∙ sym t.one_at) (meets_start c u) in
          (q, meets_after c i d (meets_both c f t.one clear_u o at a), with_at (without k p) q q refl)
      go d h x r y (no z) = (x, r, instead_kept k p q x z y)

  exchange_alone : Alone m big (instead k p q)
  exchange_alone = record { alone = λ {d} {q = x} h y n r z. go h y n r z (ℕ_discrete (pt d) q) (ℕ_discrete x q) }
    where
      go : {d x : ℕ} → on d ≡ true → instead k p q (pt d) ≡ true → big (pt d) ≡ false → Meets m d x
          → instead k p q x ≡ true → Dec (pt d ≡ q) → Dec (x ≡ q) → x ≡ pt d
      go h y n r z (yes i) (yes j) = j ∙ sym i
      go {d} {x} h y n r z (yes i) (no j) =
          absurd (instead_apart k p q x j z
          (two_only c g kp bp t (meets_within c f t.one clear_u h (rw i a) r) (instead_was k p q x j z)))
      go {d} {x} h y n r z (no i) (yes j) =
          let o : k (pt d) ≡ true = instead_was k p q (pt d) i y in
          let clear-d : Clear m big d = loop_clear c g h o n in
          let there : Meets m e (pt d) = meets_back c f h clear-d s.one (rw (s.one_at ∙ sym j) r) in
          let here : Meets m u (pt d) = meets_within c f t.one clear_u s.one (rw s.one_at a) there in
          absurd (instead_apart k p q (pt d) i y (two_only c g kp bp t here o))
      go {d} {x} h y n r z (no i) (no j) =
          (loops_alone c g).alone h (instead_was k p q (pt d) i y) n r (instead_was k p q x j z)

  pub exchange_loops : Loops m big (instead k p q)
  exchange_loops =
      record {
        high = exchange_above;
        covers = exchange_covers;
        loopy = alone_loopy c f exchange_covers exchange_alone;
      }

  module _ {none : ℕ} {nt ot : ℕ → ℕ} (o : Over none m k nt ot) where
    -- a dart at p that is not at q is no more
    exchange_gone : (d : ℕ) → on d ≡ true → pt d ≡ p → d ≢ e → d ≢ b → Entry none m (instead k p q) d none none
    exchange_gone d h at de db =
        let away : pt d ≢ q = λ i. ⊎_elim de db (s.only d h i) in
        entry_off none m (instead k p q) d
        (rw (with_else (without k p) q (pt d) away, without_at k p (pt d) at) (and-false (on d)))

    exchange_rest : (d : ℕ) → d ≢ e → d ≢ b → d ≢ u → d ≢ v → Entry none m (instead k p q) d (nt d) (ot d)
    exchange_rest d de db du dv =
        loops_entry c f g exchange_loops o d λ h.
        with_else (without k p) q (pt d) (λ i. ⊎_elim de db (s.only d h i))
        ∙ without_else k p (pt d) (λ i. ⊎_elim du dv (t.only d h i))

    pub exchange_over : Over none m (instead k p q)
        (put (put (put (put nt u none) v none) e e) b b)
        (put (put (put (put ot u none) v none) e b) b e)
    exchange_over = entries λ d.
        put_cases (E d) _ _ b b e d (λ i. rw i (end (two_swap s))) λ db.
        put_cases (E d) _ _ e e b d (λ i. rw i (end s)) λ de.
        put_cases (E d) _ _ v none none d (λ i. exchange_gone d (rw i t.two) (ap pt i ∙ t.two_at) de db) λ dv.
        put_cases (E d) nt ot u none none d (λ i. exchange_gone d (rw i t.one) (ap pt i ∙ t.one_at) de db) λ du.
        exchange_rest d de db du dv
      where
        E : ℕ → ℕ → ℕ → Type 0
        E = Entry none m (instead k p q)

        end : {x y : ℕ} → Two m q x y → E x x y
        end r = two_entry c exchange_loops (with_at (without k p) q q refl) exchange_big r f none
