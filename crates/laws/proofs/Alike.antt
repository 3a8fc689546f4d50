-- Maps that are alike have levels that are alike.
--   Alike a b       == the same darts are on, with the same next darts and reversals
--   links none on f == f at the darts that are on, none elsewhere
use mathlib.Core.Path.{◌≡◌, refl, sym, ◌∙◌, ap, ap₂}
use mathlib.Core.Bool.{Bool, true, false, ◌&&◌}
use Prim.Native.Nat.{ℕ, zero, suc}
use native.Mathlib.Omega.{arith}
use Rattle.laws.proofs.Chart.{Map, Chart, Covers, times, last, level}
use Rattle.laws.proofs.Orbit.{orbit_on}
use Rattle.laws.proofs.Test.{and_left}
use Rattle.laws.proofs.Walk.{Run, run_is, run_agrees}
use Rattle.laws.proofs.Level.{leads, last_run, last_on}
use Rattle.laws.proofs.Less.{Alike}
use Rattle.laws.proofs.Over.{links, Over}

-- tables of functions that agree where darts are on are one
pub links_agree : (none : ℕ) {on off : ℕ → Bool} {f g : ℕ → ℕ} → ((d : ℕ) → on d ≡ off d)
    → ((d : ℕ) → on d ≡ true → f d ≡ g d) → (d : ℕ) → links none on f d ≡ links none off g d
unfolding links
links_agree none {on} {off} {f} {g} p q d = go (on d) refl
  where
    go : (b : Bool) → on d ≡ b → links none on f d ≡ links none off g d
    go true h = rw (← p d, h) (q d h)
    go false h = rw (← p d, h)

module _ {a b : Map} (c : Chart a) (size : a.n ≡ b.n) (at : (d : ℕ) → a.pt d ≡ b.pt d) (e : Alike a b) where
  open a use {on, rev, nx, pt}

  leads_same : (k : ℕ → Bool) (d : ℕ) → on d ≡ true → leads b k d ≡ leads a k d
  leads_same k d h = ap k (ap b.pt (sym (e.same_rev d h)) ∙ sym (at (rev d)))

  run_same : (k : ℕ → Bool) {j d x : ℕ} → on d ≡ true → Run nx (leads a k) j d x → Run b.nx (leads b k) j d x
  run_same k h r =
      run_agrees (λ x. on x ≡ true) (λ x o _. c.turns.stays x o) b.nx (leads b k) (leads_same k)
      (λ x o _. sym (e.same_nx x o)) r h

  pub alike_last : {k : ℕ → Bool} → Covers a k → (d : ℕ) → on d ≡ true → last b k d ≡ last a k d
  unfolding last
  alike_last {k} v d h = let (j, l, r) = last_run c v d h in run_is (run_same k h r) (omega (arith, size))

  pub alike_level : {k : ℕ → Bool} → Covers a k → Alike (level a k) (level b k)
  unfolding level
  alike_level {k} v =
      let o : (d : ℕ) → (on d && k (pt d)) ≡ true → on d ≡ true = λ d. and_left (on d) (k (pt d)) in
      record {
        same_on = λ d. ap₂ ◌&&◌ (e.same_on d) (ap k (at d));
        same_nx = λ d h. e.same_nx (last a k d) (last_on c v d (o d h)) ∙ ap b.nx (sym (alike_last v d (o d h)));
        same_rev = λ d h. e.same_rev (last a k d) (last_on c v d (o d h)) ∙ ap b.rev (sym (alike_last v d (o d h)));
      }

  times_same : (i d : ℕ) → on d ≡ true → times b.nx i d ≡ times nx i d
  unfolding times
  times_same zero d h = refl
  times_same (suc i) d h =
      ap (times b.nx i) (sym (e.same_nx d h)) ∙ times_same i (nx d) (c.turns.stays d h)

  pub alike_covers : {k : ℕ → Bool} → Covers a k → Covers b k
  alike_covers {k} v =
      record {
        ahead = λ d h.
            let o = e.same_on d ∙ h in
            let (i, q) = v.ahead d o in
            (i, ap (leads b k) (times_same i d o) ∙ leads_same k (times nx i d) (orbit_on c.turns i d o) ∙ q);
      }

  pub alike_over : {k : ℕ → Bool} {none : ℕ} {nt ot : ℕ → ℕ} → Covers a k → Over none a k nt ot → Over none b k nt ot
  alike_over {k} {none} v o =
      let s = alike_level v in
      record {
        nexts = λ d. o.nexts d ∙ links_agree none s.same_on s.same_nx d;
        others = λ d. o.others d ∙ links_agree none s.same_on s.same_rev d;
      }
