-- Levels in which every kept point that is not big is the point of a loop.
--   Above big k     == every big point is kept
--   Loopy m big k   == at a kept point that is not big every dart is its own next
--   Looped .. k i   == the same for the points below i
--   Loops m big k   == Above, Loopy, and from every dart some kept point is ahead
--   Alone m big k   == the orbit of a dart at a kept point that is not big meets no other kept point
--   Few m big       == a point that is not big has at most two darts: one, and the next of its reversal
--   Two m p u v     == the darts at point p are u and v, and these are two
use mathlib.Core.Path.{◌≡◌, refl, sym, ◌∙◌, ap}
use mathlib.Core.Bool.{Bool, true, false}
use mathlib.Core.Logic.{◌≢◌, ⊎_elim}
use Prim.Native.Nat.{ℕ, zero, suc, ◌<◌, ◌≤◌}
use native.Mathlib.Decide.{ℕ_discrete}
use native.Mathlib.Omega.{arith}
use Rattle.laws.proofs.Chart.{Map, Chart, times, last, Covers, Passes, Few}
use Rattle.laws.proofs.Orbit.{times_suc, orbit_on}
use Rattle.laws.proofs.Test.{clash}
use Rattle.laws.proofs.Walk.{run_end, run_before}
use Rattle.laws.proofs.Level.{leads, last_run, last_on}
use Rattle.laws.proofs.Over.{next, other, without, Entry, Over, entry_stays}
use Rattle.laws.proofs.Over.{without_off, without_at, without_else}
use Rattle.laws.proofs.Meet.{Meets, Two, two_swap, two_turn, times_none, round_about, after_at}
use Rattle.laws.proofs.Meet.{orbit_side, back_apart, turn_on, turn_at, turn_side}
use Rattle.laws.proofs.Link.{next_on, next_at, next_kept, next_times, next_once}
use Rattle.laws.proofs.Link.{other_on, other_apart, other_other, last_same}

pub record Above (big k : ℕ → Bool) : Type 0 where
  pub above : (p : ℕ) → big p ≡ true → k p ≡ true

pub record Loopy (m : Map) (big k : ℕ → Bool) : Type 0 where
  pub loop : (d : ℕ) → m.on d ≡ true → k (m.pt d) ≡ true → big (m.pt d) ≡ false → next m k d ≡ d

pub record Looped (m : Map) (big k : ℕ → Bool) (i : ℕ) : Type 0 where
  pub loop : (d : ℕ) → m.on d ≡ true → k (m.pt d) ≡ true → big (m.pt d) ≡ false → m.pt d < i → next m k d ≡ d

pub record Loops (m : Map) (big k : ℕ → Bool) : Type 0 where
  pub high : Above big k
  pub covers : Covers m k
  pub loopy : Loopy m big k

pub record Alone (m : Map) (big k : ℕ → Bool) : Type 0 where
  pub alone : {d q : ℕ} → m.on d ≡ true → k (m.pt d) ≡ true → big (m.pt d) ≡ false → Meets m d q → k q ≡ true
      → q ≡ m.pt d

-- what is not kept is not big
pub not_above : {big k : ℕ → Bool} → Above big k → (p : ℕ) → k p ≡ false → big p ≡ false
not_above {big} a p h = go (big p) refl
  where
    go : (b : Bool) → big p ≡ b → big p ≡ false
    go true e = clash (a.above p e) h
    go false e = e

-- a big point is another point than one that is not
pub big_apart : (big : ℕ → Bool) {p q : ℕ} → big p ≡ true → big q ≡ false → p ≢ q
big_apart big h b e = clash h (ap big e ∙ b)

pub above_without : {big k : ℕ → Bool} {p : ℕ} → Above big k → big p ≡ false → Above big (without k p)
above_without {big} {k} {p} a b =
    record { above = λ q h. without_else k p q (big_apart big h b) ∙ a.above q h }

-- Points that are not big.
module _ {m : Map} {big : ℕ → Bool} (c : Chart m) (f : Few m big) where
  open m use {on, rev, nx, pt, side}

  -- next of the way back is the way back of next
  pub few_passes : Passes m big
  few_passes = record { back = back }
    where
      back : (d : ℕ) → on d ≡ true → big (pt (nx d)) ≡ false → nx (rev (nx d)) ≡ rev d
      back d h e =
          ⊎_elim (λ a. absurd (back_apart c d h a)) sym
          (f.two (nx d) (rev d) (c.turns.stays d h) (c.rev_on d h) (c.leaves d h) e)

  pub above_passes : {k : ℕ → Bool} → Above big k → Passes m k
  above_passes a = record { back = λ d h e. few_passes.back d h (not_above a (pt (nx d)) e) }

  -- a dart, and the next of its reversal, are the two darts of the point
  pub few_two : (d : ℕ) → on d ≡ true → big (pt d) ≡ false → Two m (pt d) d (nx (rev d))
  few_two d h b =
      record {
        one = h;
        two = turn_on c d h;
        apart = λ e. turn_side c d h (ap side (sym e));
        one_at = refl;
        two_at = turn_at c d h;
        only = λ e g q. f.two d e h g (sym q) b;
      }

  -- an orbit meets the point only once
  pub few_once : (i d : ℕ) → on d ≡ true → big (pt d) ≡ false → pt (times nx i d) ≡ pt d → times nx i d ≡ d
  few_once i d h b e =
      ⊎_elim (λ a. a) (λ a. absurd (turn_side c d h (ap side (sym a) ∙ orbit_side c i d h)))
      (f.two d (times nx i d) h (orbit_on c.turns i d h) (sym e) b)

-- A loop is an orbit that meets one kept point.
module _ {m : Map} {k : ℕ → Bool} (c : Chart m) (w : Covers m k) where
  open m use {on, nx, pt}

  -- an orbit that closes where it first meets a kept point meets no other
  loop_only : {d q : ℕ} → on d ≡ true → next m k d ≡ d → Meets m d q → k q ≡ true → q ≡ pt d
  loop_only {d} {q} h e (i, a) g =
      let (j, _, r) = last_run c w d h in
      let (l, b, z) = round_about nx j d (times_suc nx j d ∙ ap nx (sym (run_end r)) ∙ e) i in
      go l j b (sym a ∙ ap pt z) (run_before r)
    where
      go : (l j : ℕ) → l ≤ j → q ≡ pt (times nx l d) → ((i : ℕ) → i < j → leads m k (times nx i d) ≡ false)
          → q ≡ pt d
      go zero j b z before = z ∙ ap pt (times_none nx d)
      go (suc l) j b z before = clash g (ap k (z ∙ after_at c l d h) ∙ before l b)

  pub loopy_alone : {big : ℕ → Bool} → Loopy m big k → Alone m big k
  loopy_alone l = record { alone = λ {d} {q} h e b. loop_only h (l.loop d h e b) }

module _ {m : Map} {big k : ℕ → Bool} (c : Chart m) (f : Few m big) (w : Covers m k) where
  open m use {on, pt}

  pub alone_loopy : Alone m big k → Loopy m big k
  alone_loopy a = record { loop = loop }
    where
      loop : (d : ℕ) → on d ≡ true → k (pt d) ≡ true → big (pt d) ≡ false → next m k d ≡ d
      loop d h e b =
          let (i, q) = next_times c w d h in
          q ∙ few_once c f i d h b (ap pt (sym q) ∙ a.alone h e b (i, ap pt (sym q)) (next_kept c w d h))

-- Points treated one after another, each either taken out or found to be a loop's.
module _ {m : Map} {big k : ℕ → Bool} where
  open m use {on, pt}

  pub looped_start : Looped m big k 0
  looped_start = record { loop = λ d h e b q. absurd (omega arith) }

  pub looped_all : {i : ℕ} → Looped m big k i → ((d : ℕ) → on d ≡ true → pt d < i) → Loopy m big k
  looped_all l f = record { loop = λ d h e b. l.loop d h e b (f d h) }

  -- where the point is a loop's, or not kept, or big, or has no darts
  pub looped_more : {p : ℕ} → Looped m big k p
      → ((d : ℕ) → on d ≡ true → pt d ≡ p → k p ≡ true → big p ≡ false → next m k d ≡ d) → Looped m big k (suc p)
  looped_more {p} l f = record { loop = λ d h e b q. go d h e b q (ℕ_discrete (pt d) p) }
    where
      go : (d : ℕ) → on d ≡ true → k (pt d) ≡ true → big (pt d) ≡ false → pt d < suc p → Dec (pt d ≡ p)
          → next m k d ≡ d
      go d h e b q (yes a) = f d h a (ap k (sym a) ∙ e) (ap big (sym a) ∙ b)
      go d h e b q (no a) = l.loop d h e b (omega arith)

module _ {m : Map} {k : ℕ → Bool} (c : Chart m) (w : Covers m k) where
  open m use {on, rev, nx, pt}

  two_loop_one : {p u v : ℕ} → Two m p u v → other m k u ≡ v → next m k u ≡ u
  two_loop_one {u = u} t e =
      ap nx (sym (c.rev_rev (last m k u) (last_on c w u t.one)) ∙ ap rev e) ∙ two_turn c (two_swap t)

  -- two darts of a point that are each other's other are loops
  pub two_loop : Passes m k → {p u v : ℕ} → k p ≡ true → Two m p u v → other m k u ≡ v
      → (next m k u ≡ u) × (next m k v ≡ v)
  two_loop s {u = u} kp t e =
      let back = ap (other m k) (sym e) ∙ other_other c w s u t.one (ap k t.one_at ∙ kp) in
      (two_loop_one t e, two_loop_one (two_swap t) back)

  -- and of a loop they are each other's other
  pub loop_two : {p u v : ℕ} → Two m p u v → next m k u ≡ u → other m k u ≡ v
  loop_two {u = u} t e =
      ⊎_elim (λ q. absurd (other_apart c w u t.one q)) (λ q. q)
      (t.only (other m k u) (other_on c w u t.one) (sym (next_at c w u t.one) ∙ ap pt e ∙ t.one_at))

  -- a loop stays one when fewer points are kept, its own among them
  pub loop_fewer : {l : ℕ → Bool} → ((q : ℕ) → k q ≡ false → l q ≡ false) → (d : ℕ) → on d ≡ true
      → l (pt d) ≡ true → next m k d ≡ d → next m l d ≡ d
  loop_fewer {l} fewer d h i e =
      ap nx (last_same c w fewer d h (ap l (sym (next_at c w d h) ∙ ap pt e) ∙ i)) ∙ e

  module _ {big : ℕ → Bool} where
    -- where the point's two darts are each other's other
    pub looped_two : Passes m k → {p u v : ℕ} → Looped m big k p → k p ≡ true → Two m p u v → other m k u ≡ v
        → Looped m big k (suc p)
    looped_two s l kp t e =
        let (a, b) = two_loop s kp t e in
        looped_more l λ d h q _ _. ⊎_elim (λ z. rw z a) (λ z. rw z b) (t.only d h q)

    -- where it is taken out
    pub looped_without : {p : ℕ} → Looped m big k p → Looped m big (without k p) (suc p)
    looped_without {p} l = record { loop = λ d h e b q. go d h e b q (ℕ_discrete (pt d) p) }
      where
        go : (d : ℕ) → on d ≡ true → without k p (pt d) ≡ true → big (pt d) ≡ false → pt d < suc p → Dec (pt d ≡ p)
            → next m (without k p) d ≡ d
        go d h e b q (yes a) = clash e (without_at k p (pt d) a)
        go d h e b q (no a) =
            loop_fewer (without_off k p) d h e (l.loop d h (sym (without_else k p (pt d) a) ∙ e) b (omega arith))

-- The level of a loopy test depends on the big points, and else on nothing but which points are kept.
module _ {m : Map} {big : ℕ → Bool} (c : Chart m) (f : Few m big) where
  open m use {on, rev, nx, pt}

  module _ {k : ℕ → Bool} (g : Loops m big k) where
    pub loops_passes : Passes m k
    loops_passes = above_passes c f g.high

    -- at a kept point that is not big other is the point's other dart
    pub loop_other : (d : ℕ) → on d ≡ true → k (pt d) ≡ true → big (pt d) ≡ false → other m k d ≡ nx (rev d)
    loop_other d h e b = loop_two c g.covers (few_two c f d h b) (g.loopy.loop d h e b)

    -- the run from a big point leads to a big point
    pub big_there : (d : ℕ) → on d ≡ true → big (pt d) ≡ true → big (pt (other m k d)) ≡ true
    big_there d h b = go (big (pt (other m k d))) refl
      where
        go : (x : Bool) → big (pt (other m k d)) ≡ x → big (pt (other m k d)) ≡ true
        go true q = q
        go false q =
            let e : ℕ = next m k d in
            let i : on e ≡ true = next_on c g.covers d h in
            let a : k (pt e) ≡ true = next_kept c g.covers d h in
            let n : big (pt e) ≡ false = ap big (next_at c g.covers d h) ∙ q in
            let same : e ≡ d =
            next_once c g.covers loops_passes e d i h a (g.high.above (pt d) b) (g.loopy.loop e i a n) in
            clash b (ap (λ x. big (pt x)) (sym same) ∙ n)

    -- so it is the run to the first big point
    pub big_last : (d : ℕ) → on d ≡ true → big (pt d) ≡ true → last m big d ≡ last m k d
    big_last d h b = last_same c g.covers (not_above g.high) d h (big_there d h b)

  module _ {k l : ℕ → Bool} (g : Loops m big k) (j : Loops m big l) where
    -- two such levels have the same runs from a point that is kept in both
    pub loops_last : (d : ℕ) → on d ≡ true → k (pt d) ≡ true → l (pt d) ≡ true → last m l d ≡ last m k d
    loops_last d h a e = go (big (pt d)) refl
      where
        go : (x : Bool) → big (pt d) ≡ x → last m l d ≡ last m k d
        go true b = sym (big_last j d h b) ∙ big_last g d h b
        go false b =
            c.turns.once (last m l d) (last m k d) (last_on c j.covers d h) (last_on c g.covers d h)
            (j.loopy.loop d h e b ∙ sym (g.loopy.loop d h a b))

    -- and the same entries where the point is kept in both or in neither
    pub loops_entry : {none : ℕ} {nt ot : ℕ → ℕ} → Over none m k nt ot → (d : ℕ)
        → (on d ≡ true → l (pt d) ≡ k (pt d)) → Entry none m l d (nt d) (ot d)
    loops_entry o d same = entry_stays o d l same (λ h e. loops_last d h e (same h ∙ e))
