-- Fewer lines: the sides renamed, and the lines whose two sides became one taken away.
--   rot m d         == the next dart of the reversal of d: the rotation of the darts at a point
--   taken m f d     == both sides of the dart become one
--   left m f d      == the dart is not taken
--   chase m f c e   == the first dart that is left of e, rot e, and on, looked for c steps far
--   less m f        == the map with the sides renamed by f, and without the lines taken
--   level m k       == the map with only the points that pass k
--   Alike a b       == the same darts are on, with the same next darts and reversals
--   Colours m c     == the darts of a point have four colours
use mathlib.Core.Path.{◌≡◌, refl, sym, ◌∙◌, ap, ap₂}
use mathlib.Core.Bool.{Bool, true, false, not, ◌&&◌, and_comm}
use mathlib.Core.Logic.{◌≢◌}
use Prim.Native.Nat.{ℕ, zero, suc, ◌<◌}
use native.Mathlib.Decide.{ℕ_discrete}
use native.Mathlib.Omega.{arith}
use lib.Dec.{eqb}
use borrow.Author.Tests.{eqb-true, eqb-false, eq-eqb, ne_eqb, not-true, not-false}
use Rattle.laws.specs.Run.{run}
use Rattle.laws.proofs.Chart.{Map, Turns, Chart, Covers, Passes, Colours}
use Rattle.laws.proofs.Chart.{times, last, level, taken, chase, less}
use Rattle.laws.proofs.Orbit.{orbit_on, returns_by, returns, turns_after, turns_alike}
use Rattle.laws.proofs.Test.{and_true, and_left, and_right}
use Rattle.laws.proofs.Walk.{Run, run_stop, run_is, run_found, run_end}
use Rattle.laws.proofs.Walk.{run_stops, run_fixes, run_agrees, run_shift, run_short, run_reaches}
use Rattle.laws.proofs.Walk.{turns_within, first_return}
use Rattle.laws.proofs.Level.{leads, unkept, last_is, last_run, last_on, last_kept, last_other}

abbrev pub rot : Map → ℕ → ℕ
rot m d = m.nx (m.rev d)

abbrev pub left : Map → (ℕ → ℕ) → ℕ → Bool
left m f d = not (taken m f d)

-- equality of numbers is tested either way round
pub eqb_comm : (a b : ℕ) → eqb a b ≡ eqb b a
eqb_comm a b = go (ℕ_discrete a b)
  where
    go : Dec (a ≡ b) → eqb a b ≡ eqb b a
    go (yes e) = eq-eqb a b e ∙ sym (eq-eqb b a (sym e))
    go (no h) = ne_eqb a b h ∙ sym (ne_eqb b a (λ e. h (sym e)))

module _ {m : Map} (c : Chart m) where
  open m use {n, on, rev, nx, pt, side}

  pub rev_turns : Turns n on rev
  rev_turns =
      record {
        below = c.turns.below;
        stays = c.rev_on;
        once = λ d e h k p. sym (c.rev_rev d h) ∙ ap rev p ∙ c.rev_rev e k;
      }

  -- the rotation is one-to-one, and stays at a point
  pub rot_turns : Turns n on (rot m)
  rot_turns = turns_after c.turns rev_turns

  pub rot_pt : (d : ℕ) → on d ≡ true → pt (rot m d) ≡ pt d
  rot_pt d h = c.leaves (rev d) (c.rev_on d h) ∙ ap pt (c.rev_rev d h)

  rot_times_pt : (i d : ℕ) → on d ≡ true → pt (times (rot m) i d) ≡ pt d
  unfolding times
  rot_times_pt zero d h = refl
  rot_times_pt (suc i) d h = rot_times_pt i (rot m d) (rot_turns.stays d h) ∙ rot_pt d h

  pub rot_rev : (d : ℕ) → on d ≡ true → rot m (rev d) ≡ nx d
  rot_rev d h = ap nx (c.rev_rev d h)

  -- once round from the reversal is one step less from the next dart
  pub rot_round : (k d : ℕ) → on d ≡ true → times (rot m) (suc k) (rev d) ≡ rev d → times (rot m) k (nx d) ≡ rev d
  unfolding times
  rot_round k d h e = ap (times (rot m) k) (sym (rot_rev d h)) ∙ e

module _ {m : Map} (c : Chart m) (f : ℕ → ℕ) where
  open m use {n, on, rev, nx, pt, side}

  -- a line is taken with both of its darts
  pub taken_rev : (d : ℕ) → on d ≡ true → taken m f (rev d) ≡ taken m f d
  unfolding taken
  taken_rev d h = rw (c.rev_rev d h) (eqb_comm (f (side (rev d))) (f (side d)))

  pub left_rev : (d : ℕ) → on d ≡ true → left m f (rev d) ≡ left m f d
  left_rev d h = ap not (taken_rev d h)

  -- the rotation comes from the next dart to the reversal, which is left
  round_left : (k d : ℕ) → on d ≡ true → left m f d ≡ true → times (rot m) (suc k) (rev d) ≡ rev d
      → left m f (times (rot m) k (nx d)) ≡ true
  round_left k d h s e = ap (left m f) (rot_round c k d h e) ∙ left_rev d h ∙ s

  pub chase_run : (d : ℕ) → on d ≡ true → left m f d ≡ true
      → (j : ℕ) × (j < n) × Run (rot m) (left m f) j (nx d) (chase m f n (nx d))
  unfolding chase
  chase_run d h s =
      let (k, _, e) = returns (rot_turns c) (rev d) (c.rev_on d h) in
      run_reaches (rot_turns c) (left m f) k (nx d) (c.turns.stays d h) (round_left k d h s e)

  -- the chase is a first return of the rotation
  chase_is : (d : ℕ) → on d ≡ true → chase m f n (nx d) ≡ rot m (run (rot m) (λ e. left m f (rot m e)) n (rev d))
  unfolding chase
  chase_is d h = rw (← rot_rev c d h) (sym (run_shift (rot m) (left m f) n (rev d)))

  -- the next darts that are left are turned one-to-one, and stay at their point
  less_turns : Turns n (λ d. on d && left m f d) (λ d. chase m f n (nx d))
  less_turns =
      let around = first_return (rot_turns c) (left m f) (λ e. left m f (rot m e)) (λ e _. refl) in
      let over = turns_within (left m f) (rev_turns c) left_rev in
      turns_alike (λ d. chase m f n (nx d)) (turns_after around over)
      (λ d h. chase_is d (and_left (on d) (left m f d) h))

  chase_pt : (d : ℕ) → on d ≡ true → left m f d ≡ true → pt (chase m f n (nx d)) ≡ pt (nx d)
  chase_pt d h s =
      run_fixes (rot_turns c) pt (λ x o _. rot_pt c x o) (c.turns.stays d h) (chase_run d h s).2

  -- past a line that is taken lies the same side
  taken_side : (d : ℕ) → on d ≡ true → left m f d ≡ false → f (side (rot m d)) ≡ f (side d)
  unfolding taken
  taken_side d h s =
      let e = eqb-true (f (side d)) (f (side (rev d))) (not-false (taken m f d) s) in
      ap f (c.keeps (rev d) (c.rev_on d h)) ∙ sym e

  chase_side : (d : ℕ) → on d ≡ true → left m f d ≡ true → f (side (chase m f n (nx d))) ≡ f (side (nx d))
  chase_side d h s =
      run_fixes (rot_turns c) (λ x. f (side x)) taken_side (c.turns.stays d h) (chase_run d h s).2

  -- a line that is left parts two sides
  left_parts : (d : ℕ) → left m f d ≡ true → f (side (rev d)) ≢ f (side d)
  unfolding taken
  left_parts d s e = eqb-false (f (side d)) (f (side (rev d))) (not-true (taken m f d) s) (sym e)

  pub less_chart : Chart (less m f)
  unfolding less
  less_chart =
      let o : (d : ℕ) → (on d && left m f d) ≡ true → on d ≡ true = λ d. and_left (on d) (left m f d) in
      let s : (d : ℕ) → (on d && left m f d) ≡ true → left m f d ≡ true = λ d. and_right (on d) (left m f d) in
      record {
        turns = less_turns;
        rev_on = (turns_within (left m f) (rev_turns c) left_rev).stays;
        rev_rev = λ d h. c.rev_rev d (o d h);
        leaves = λ d h. chase_pt d (o d h) (s d h) ∙ c.leaves d (o d h);
        keeps = λ d h. chase_side d (o d h) (s d h) ∙ ap f (c.keeps d (o d h));
        parts = λ d h. left_parts d (s d h);
      }

-- Where points that are not kept are passed straight, a run passes lines that are all taken or all left.
module _ {m : Map} {k : ℕ → Bool} (c : Chart m) (p : Passes m k) where
  open m use {n, on, rev, nx, pt, side}

  -- the other side stays the same
  pub other_side : (d : ℕ) → on d ≡ true → k (pt (nx d)) ≡ false → side (rev (nx d)) ≡ side (rev d)
  other_side d h s =
      sym (c.keeps (rev (nx d)) (c.rev_on (nx d) (c.turns.stays d h))) ∙ ap side (p.back d h s)

  pub taken_next : (f : ℕ → ℕ) (d : ℕ) → on d ≡ true → k (pt (nx d)) ≡ false → taken m f (nx d) ≡ taken m f d
  unfolding taken
  taken_next f d h s = ap₂ (λ a b. eqb (f a) (f b)) (c.keeps d h) (other_side d h s)

  -- fewer lines change nothing where the far point is not kept
  pub less_next : (f : ℕ → ℕ) (d : ℕ) → on d ≡ true → taken m f d ≡ false → k (pt (nx d)) ≡ false
      → (less m f).nx d ≡ nx d
  unfolding less chase
  less_next f d h s q = run_stop (rot m) (left m f) n (nx d) (ap not (taken_next f d h q ∙ s))

  -- along a run the other side, and whether the line is taken, stay the same
  run_other : {j d e : ℕ} → on d ≡ true → Run nx (leads m k) j d e → side (rev e) ≡ side (rev d)
  run_other h r = run_fixes c.turns (λ x. side (rev x)) (λ x o s. other_side x o (unkept c k x o s)) h r

  run_taken : (f : ℕ → ℕ) {j d e : ℕ} → on d ≡ true → Run nx (leads m k) j d e → taken m f e ≡ taken m f d
  run_taken f h r = run_fixes c.turns (taken m f) (λ x o s. taken_next f x o (unkept c k x o s)) h r

  -- a run of a dart that is left is a run of the map with fewer lines
  less_run : (f : ℕ → ℕ) {j d e : ℕ} → on d ≡ true → taken m f d ≡ false → Run nx (leads m k) j d e
      → Run (less m f).nx (leads m k) j d e
  less_run f {d = d} h t r =
      run_agrees (λ x. (on x ≡ true) × (taken m f x ≡ false))
      (λ x q s. (c.turns.stays x q.0, taken_next f x q.0 (unkept c k x q.0 s) ∙ q.1))
      (less m f).nx (leads m k) (λ x _. refl)
      (λ x q s. less_next f x q.0 q.1 (unkept c k x q.0 s)) r (h, t)

  -- a kept point is still ahead
  pub less_covers : (f : ℕ → ℕ) → Covers m k → Covers (less m f) k
  unfolding less
  less_covers f v =
      record {
        ahead =
            λ d h.
            let o = and_left (on d) (left m f d) h in
            let (j, _, r) = last_run c v d o in
            let q = less_run f o (not-true (taken m f d) (and_right (on d) (left m f d) h)) r in
            (j, ap (leads m k) (sym (run_end q)) ∙ run_stops q);
      }

-- the same darts are on, with the same next darts and reversals
pub record Alike (a b : Map) : Type 0 where
  pub same_on : (d : ℕ) → a.on d ≡ b.on d
  pub same_nx : (d : ℕ) → a.on d ≡ true → a.nx d ≡ b.nx d
  pub same_rev : (d : ℕ) → a.on d ≡ true → a.rev d ≡ b.rev d

-- two tests after another, where the second is the same once the first passes
and_swap : (a b x y : Bool) → (a ≡ true → x ≡ y) → ((a && b) && x) ≡ ((a && y) && b)
and_swap true b x y h = rw (h refl) (and_comm b y)
and_swap false b x y h = refl

-- Fewer lines and fewer points come to the same in either order.
module _ {m : Map} {k : ℕ → Bool} (c : Chart m) (v : Covers m k) (p : Passes m k) (f : ℕ → ℕ) where
  open m use {n, on, rev, nx, pt, side}

  -- the lines taken are the same, and so is the rotation at a point that is kept
  pub taken_level : (d : ℕ) → on d ≡ true → taken (level m k) f d ≡ taken m f d
  unfolding taken level
  taken_level d h = ap (λ a. eqb (f (side d)) (f a)) (run_other c p h (last_run c v d h).2)

  pub rot_level : (d : ℕ) → on d ≡ true → k (pt d) ≡ true → rot (level m k) d ≡ rot m d
  unfolding level
  rot_level d h s = ap nx (last_other c v p d h s)

  -- the last dart of a run is the same
  pub last_less : (d : ℕ) → on d ≡ true → taken m f d ≡ false → last (less m f) k d ≡ last m k d
  unfolding less
  last_less d h t = last_is (less_chart c f) k (and_true h (ap not t)) (less_run c p f h t (last_run c v d h).2)

  last_left : (d : ℕ) → on d ≡ true → taken m f d ≡ false → left m f (last m k d) ≡ true
  last_left d h t = ap not (run_taken c p f h (last_run c v d h).2 ∙ t)

  -- the chase is the same at a point that is kept
  chase_alike : {j d e : ℕ} → on d ≡ true → k (pt d) ≡ true → Run (rot m) (left m f) j d e
      → Run (rot (level m k)) (left (level m k) f) j d e
  chase_alike h s r =
      run_agrees (λ x. (on x ≡ true) × (k (pt x) ≡ true))
      (λ x o _. ((rot_turns c).stays x o.0, ap k (rot_pt c x o.0) ∙ o.1))
      (rot (level m k)) (left (level m k) f)
      (λ x o. ap not (taken_level x o.0)) (λ x o _. rot_level x o.0 o.1) r (h, s)

  chase_level : {j d e : ℕ} → on d ≡ true → k (pt d) ≡ true → Run (rot m) (left m f) j d e
      → chase (level m k) f n d ≡ e
  unfolding chase
  chase_level h s r =
      let l = run_short (rot_turns c) h r in
      run_is (chase_alike h s r) (omega arith)

  next_same : (d : ℕ) → on d ≡ true → taken m f d ≡ false → (less (level m k) f).nx d ≡ (level (less m f) k).nx d
  unfolding less level
  next_same d h t =
      let e = last m k d in
      let o : on e ≡ true = last_on c v d h in
      let (_, _, r) = chase_run c f e o (last_left d h t) in
      chase_level (c.turns.stays e o) (ap k (c.leaves e o) ∙ last_kept c v d h) r
      ∙ ap (λ x. chase m f n (nx x)) (sym (last_less d h t))

  level_on : (d : ℕ) → (less (level m k) f).on d ≡ true → on d ≡ true
  unfolding less level
  level_on d h = and_left (on d) (k (pt d)) (and_left (on d && k (pt d)) (left (level m k) f d) h)

  level_left : (d : ℕ) → (less (level m k) f).on d ≡ true → taken m f d ≡ false
  unfolding less level
  level_left d h =
      let l = not-true (taken (level m k) f d) (and_right (on d && k (pt d)) (left (level m k) f d) h) in
      sym (taken_level d (level_on d h)) ∙ l

  pub less_level : Alike (less (level m k) f) (level (less m f) k)
  unfolding less level
  less_level =
      record {
        same_on = λ d. and_swap (on d) (k (pt d)) (left (level m k) f d) (left m f d) (λ h. ap not (taken_level d h));
        same_nx = λ d h. next_same d (level_on d h) (level_left d h);
        same_rev = λ d h. ap rev (sym (last_less d (level_on d h) (level_left d h)));
      }

-- A point has at most four darts.
module _ {m : Map} {colour : ℕ → ℕ} (c : Chart m) (u : Colours m colour) where
  open m use {n, on, rev, nx, pt, side}

  -- the rotation comes round in four steps
  rot_four : (d : ℕ) → on d ≡ true → (k : ℕ) × (k < 4) × (times (rot m) (suc k) d ≡ d)
  rot_four d h =
      let o : (i : ℕ) → on (times (rot m) i d) ≡ true = λ i. orbit_on (rot_turns c) i d h in
      let q : (i : ℕ) → pt (times (rot m) i d) ≡ pt d = λ i. rot_times_pt c i d h in
      returns_by (rot_turns c) 4 colour d h (λ i. u.four (times (rot m) i d))
      (λ i j. u.apart (times (rot m) i d) (times (rot m) j d) (o i) (o j) (q i ∙ sym (q j)))

  -- so the chase need not go further than four
  pub chase_four : (f : ℕ → ℕ) (d : ℕ) → on d ≡ true → taken m f d ≡ false → chase m f 4 (nx d) ≡ chase m f n (nx d)
  unfolding chase
  chase_four f d h t =
      let (k, l, e) = rot_four (rev d) (c.rev_on d h) in
      let (j, x, i, r) = run_found (rot m) (left m f) k (nx d) (round_left c f k d h (ap not t) e) in
      let s = run_short (rot_turns c) (c.turns.stays d h) r in
      run_is r (omega arith) ∙ sym (run_is r (omega arith))

-- fewer points keep the colours
pub level_colours : {m : Map} {colour : ℕ → ℕ} (k : ℕ → Bool) → Colours m colour → Colours (level m k) colour
unfolding level
level_colours {m = m} k u =
    let o : (d : ℕ) → (m.on d && k (m.pt d)) ≡ true → m.on d ≡ true = λ d. and_left (m.on d) (k (m.pt d)) in
    record {
      four = u.four;
      apart = λ d e h i. u.apart d e (o d h) (o e i);
    }
