-- The map with only the points that pass a test kept is a chart.
--   leads m k e     == the dart e leads to a point that passes k
--   last m k d      == the last dart of the run from d to the next point that passes k
--   level m k       == the map with only those points
--   Covers m k      == from every dart some kept point is ahead
--   Passes m k      == at a point that is not kept, next of the way back is the way back of next
use mathlib.Core.Path.{◌≡◌, sym, ◌∙◌, ap}
use mathlib.Core.Bool.{Bool, true, false, ◌&&◌}
use Prim.Native.Nat.{ℕ, suc, ◌<◌}
use native.Mathlib.Omega.{arith}
use Rattle.laws.proofs.Chart.{Map, Turns, Chart, Covers, Passes, last, level}
use Rattle.laws.proofs.Test.{and_true, and_left, and_right}
use Rattle.laws.proofs.Walk.{Run, here, more, step, run_is}
use Rattle.laws.proofs.Walk.{run_stops, run_fixes, run_short, run_on, run_reaches, first_return}

abbrev pub leads : Map → (ℕ → Bool) → ℕ → Bool
leads m k e = k (m.pt (m.rev e))

module _ {m : Map} (c : Chart m) where
  open m use {n, on, rev, nx, pt, side}

  -- a run keeps the side
  pub run_side : {stop : ℕ → Bool} {j d e : ℕ} → on d ≡ true → Run nx stop j d e → side e ≡ side d
  run_side h r = run_fixes c.turns side (λ x o _. c.keeps x o) h r

  -- the next dart after one that leads to no kept point is at no kept point
  pub unkept : (k : ℕ → Bool) (d : ℕ) → on d ≡ true → leads m k d ≡ false → k (pt (nx d)) ≡ false
  unkept k d h s = ap k (c.leaves d h) ∙ s

  -- any run from d to a kept point ends at last
  pub last_is : (k : ℕ → Bool) {j d e : ℕ} → on d ≡ true → Run nx (leads m k) j d e → last m k d ≡ e
  unfolding last
  last_is k h r =
      let l = run_short c.turns h r in
      run_is r (omega arith)

module _ {m : Map} {k : ℕ → Bool} (c : Chart m) (v : Covers m k) where
  open m use {n, on, rev, nx, pt, side}

  -- last is the end of a run
  pub last_run : (d : ℕ) → on d ≡ true → (j : ℕ) × (j < n) × Run nx (leads m k) j d (last m k d)
  unfolding last
  last_run d h =
      let (i, s) = v.ahead d h in
      run_reaches c.turns (leads m k) i d h s

  pub last_on : (d : ℕ) → on d ≡ true → on (last m k d) ≡ true
  last_on d h = run_on c.turns h (last_run d h).2

  pub last_kept : (d : ℕ) → on d ≡ true → k (pt (rev (last m k d))) ≡ true
  last_kept d h = run_stops (last_run d h).2

  pub last_side : (d : ℕ) → on d ≡ true → side (last m k d) ≡ side d
  last_side d h = run_side c h (last_run d h).2

-- Where points that are not kept are passed straight, a run is the run of the reversals backwards.
module _ {m : Map} {k : ℕ → Bool} (c : Chart m) (p : Passes m k) where
  open m use {n, on, rev, nx, pt, side}

  -- one step back
  back_step : {i d b : ℕ} → on d ≡ true → leads m k d ≡ false → Run nx (leads m k) i (rev d) b
      → Run nx (leads m k) (suc i) (rev (nx d)) b
  back_step {d = d} h s r =
      let q = unkept c k d h s in
      step (ap (λ x. k (pt x)) (c.rev_rev (nx d) (c.turns.stays d h)) ∙ q) (p.back d h q) r

  -- from the reversal of the end to where the reversal of the start leads
  run_back : {j i d e b : ℕ} → on d ≡ true → Run nx (leads m k) j d e → Run nx (leads m k) i (rev d) b
      → (l : ℕ) × Run nx (leads m k) l (rev e) b
  run_back {i = i} h (here s) q = (i, q)
  run_back h (more {d = d} s r) q = run_back (c.turns.stays d h) r (back_step h s q)

module _ {m : Map} {k : ℕ → Bool} (c : Chart m) (v : Covers m k) (p : Passes m k) where
  open m use {n, on, rev, nx, pt, side}

  -- the way back of a run ends at the reversal of its start
  pub last_other : (d : ℕ) → on d ≡ true → k (pt d) ≡ true → last m k (rev (last m k d)) ≡ rev d
  last_other d h s =
      let start : Run nx (leads m k) 0 (rev d) (rev d) = here (ap (λ x. k (pt x)) (c.rev_rev d h) ∙ s) in
      let (l, r) = run_back c p h (last_run c v d h).2 start in
      last_is c k (c.rev_on (last m k d) (last_on c v d h)) r

  -- the next darts of a level are the first return to kept points
  level_turns : Turns n (λ d. on d && k (pt d)) (λ d. nx (last m k d))
  unfolding last
  level_turns = first_return c.turns (λ d. k (pt d)) (leads m k) (λ e h. sym (ap k (c.leaves e h)))

  pub level_chart : Chart (level m k)
  unfolding level
  level_chart =
      let o : (d : ℕ) → (on d && k (pt d)) ≡ true → on d ≡ true = λ d. and_left (on d) (k (pt d)) in
      let s : (d : ℕ) → (on d && k (pt d)) ≡ true → k (pt d) ≡ true = λ d. and_right (on d) (k (pt d)) in
      let e : (d : ℕ) → (on d && k (pt d)) ≡ true → on (last m k d) ≡ true = λ d h. last_on c v d (o d h) in
      record {
        turns = level_turns;
        rev_on = λ d h. and_true (c.rev_on (last m k d) (e d h)) (last_kept c v d (o d h));
        rev_rev = λ d h. ap rev (last_other d (o d h) (s d h)) ∙ c.rev_rev d (o d h);
        leaves = λ d h. c.leaves (last m k d) (e d h);
        keeps = λ d h. c.keeps (last m k d) (e d h) ∙ last_side c v d (o d h);
        parts = λ d h q. c.parts (last m k d) (e d h) (q ∙ sym (last_side c v d (o d h)));
      }
