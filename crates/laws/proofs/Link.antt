-- Next and other of a level, and how they change with the points that are kept.
--   last m k d      == the last dart of the run from d to the next point that passes k
--   next, other     == next and the reversal of that dart: next and other of d in the level m k
--   leads m k e     == the dart e leads to a point that passes k
--   Agree m k l     == k and l are the same test at every point that has a dart
use mathlib.Core.Path.{◌≡◌, refl, sym, ◌∙◌, ap}
use mathlib.Core.Bool.{Bool, true, false}
use mathlib.Core.Logic.{◌≢◌}
use Prim.Native.Nat.{ℕ, suc}
use Rattle.laws.proofs.Chart.{Map, Chart, times, last, Covers, Passes}
use Rattle.laws.proofs.Orbit.{times_suc}
use Rattle.laws.proofs.Walk.{Run, here, more, run_end, run_agrees}
use Rattle.laws.proofs.Level.{leads, last_is, last_run, last_on, last_kept, last_side, last_other}
use Rattle.laws.proofs.Over.{next, other, Over, entries, entry_stays}
use Rattle.laws.proofs.Meet.{Meets}

pub record Agree (m : Map) (k l : ℕ → Bool) : Type 0 where
  pub agree : (d : ℕ) → m.on d ≡ true → l (m.pt d) ≡ k (m.pt d)

-- Runs to a test s, and to a test t that is harder.
module _ {f : ℕ → ℕ} {s t : ℕ → Bool} (harder : (x : ℕ) → s x ≡ false → t x ≡ false) where
  -- where the end passes t too, the run is the same
  run_under : {i d e : ℕ} → t e ≡ true → Run f s i d e → Run f t i d e
  run_under h (here p) = here h
  run_under h (more {d = d} p r) = more (harder d p) (run_under h r)

  -- where it does not, the run goes on
  run_past : {i j d e g : ℕ} → t e ≡ false → Run f s i d e → Run f t j (f e) g → (l : ℕ) × Run f t l d g
  run_past {j = j} h (here p) q = (suc j, more h q)
  run_past h (more {d = d} p r) q = let (l, w) = run_past h r q in (suc l, more (harder d p) w)

module _ {m : Map} {k : ℕ → Bool} (c : Chart m) (w : Covers m k) where
  open m use {on, nx, pt, side}

  -- next starts where the run leads, at a kept point
  pub next_on : (d : ℕ) → on d ≡ true → on (next m k d) ≡ true
  next_on d h = c.turns.stays (last m k d) (last_on c w d h)

  pub next_at : (d : ℕ) → on d ≡ true → pt (next m k d) ≡ pt (other m k d)
  next_at d h = c.leaves (last m k d) (last_on c w d h)

  pub next_kept : (d : ℕ) → on d ≡ true → k (pt (next m k d)) ≡ true
  next_kept d h = ap k (next_at d h) ∙ last_kept c w d h

  -- and is a dart of the orbit
  pub next_times : (d : ℕ) → on d ≡ true → (i : ℕ) × (next m k d ≡ times nx i d)
  next_times d h =
      let (i, _, r) = last_run c w d h in
      (suc i, ap nx (run_end r) ∙ sym (times_suc nx i d))

  -- other starts there too, and has another side
  pub other_on : (d : ℕ) → on d ≡ true → on (other m k d) ≡ true
  other_on d h = c.rev_on (last m k d) (last_on c w d h)

  pub other_apart : (d : ℕ) → on d ≡ true → other m k d ≢ d
  other_apart d h e = c.parts (last m k d) (last_on c w d h) (ap side e ∙ sym (last_side c w d h))

  pub other_meets : (d : ℕ) → on d ≡ true → Meets m d (pt (other m k d))
  other_meets d h = let (i, e) = next_times d h in (i, ap pt (sym e) ∙ next_at d h)

module _ {m : Map} {k : ℕ → Bool} (c : Chart m) (w : Covers m k) (s : Passes m k) where
  open m use {on, rev, pt}

  -- other of other, and next, lead back to one dart only
  pub other_other : (d : ℕ) → on d ≡ true → k (pt d) ≡ true → other m k (other m k d) ≡ d
  other_other d h e = ap rev (last_other c w s d h e) ∙ c.rev_rev d h

  pub next_once : (d e : ℕ) → on d ≡ true → on e ≡ true → k (pt d) ≡ true → k (pt e) ≡ true → next m k d ≡ next m k e
      → d ≡ e
  next_once d e h i a b q =
      let same = c.turns.once (last m k d) (last m k e) (last_on c w d h) (last_on c w e i) q in
      sym (other_other d h a) ∙ ap (λ x. other m k (rev x)) same ∙ other_other e i b

-- Fewer points kept.
module _ {m : Map} {k l : ℕ → Bool} (c : Chart m) (w : Covers m k) (fewer : (q : ℕ) → k q ≡ false → l q ≡ false) where
  open m use {on, rev, pt}

  harder : (e : ℕ) → leads m k e ≡ false → leads m l e ≡ false
  harder e = fewer (pt (rev e))

  -- where the end is still kept, the run is the same
  pub last_same : (d : ℕ) → on d ≡ true → l (pt (other m k d)) ≡ true → last m l d ≡ last m k d
  last_same d h e = let (_, _, r) = last_run c w d h in last_is c l h (run_under harder e r)

  -- where it is not, the run goes on from next
  pub last_next : (d : ℕ) → on d ≡ true → l (pt (other m k d)) ≡ false → l (pt (other m k (next m k d))) ≡ true
      → last m l d ≡ last m k (next m k d)
  last_next d h e g =
      let (_, _, r) = last_run c w d h in
      let (_, _, q) = last_run c w (next m k d) (next_on c w d h) in
      let (_, a) = run_past harder e r (run_under harder g q) in
      last_is c l h a

-- The same points kept, as far as they have darts.
module _ {m : Map} {k l : ℕ → Bool} (c : Chart m) (w : Covers m k) (s : Agree m k l) where
  open m use {on, rev, nx}

  pub agree_last : (d : ℕ) → on d ≡ true → last m l d ≡ last m k d
  agree_last d h =
      let (_, _, r) = last_run c w d h in
      let same : (x : ℕ) → on x ≡ true → leads m l x ≡ leads m k x = λ x o. s.agree (rev x) (c.rev_on x o) in
      last_is c l h
      (run_agrees (λ x. on x ≡ true) (λ x o _. c.turns.stays x o) nx (leads m l) same (λ x _ _. refl) r h)

  pub agree_over : {none : ℕ} {nt ot : ℕ → ℕ} → Over none m k nt ot → Over none m l nt ot
  agree_over o = entries λ d. entry_stays o d l (s.agree d) (λ h _. agree_last d h)
