-- A join leaves the larger of the two names without a parent: no side bears it any more.
--   joined w h t a b == the seven tables after the joining of a and b
use mathlib.Core.Path.{◌≡◌, sym, ◌∙◌}
use mathlib.Core.Bool.{Bool, true, false, cond, true≢false}
use mathlib.Core.Logic.{◌≢◌, ◌⊎◌, inl, inr, ⊎_elim}
use Prim.Native.Nat.{ℕ, max, ◌<◌}
use native.Mathlib.Decide.{dec_lt}
use native.Mathlib.Omega.{arith}
use borrow.Author.Tests.{eq-eqb}
use Rattle.laws.specs.Least.{lower}
use Rattle.laws.proofs.Least.{lower_cases}
use Rattle.point_darts.specs.Dart.{mark, slots}
use Rattle.paper.specs.Level.{marked}
use Rattle.paper.specs.Drawing.{Tables}
use Rattle.paper.specs.Joining.{at, on, rest1, joined}
use Rattle.paper_laws.proofs.Marks.{at_below, at_past}
use Rattle.paper_laws.proofs.Enclosure.{parents_unborne}

-- An entry of a marked table that is not the mark is its function's.
module _ (w h : ℕ) (held : ℕ → Bool) (f : ℕ → ℕ) (d : ℕ) where
  entry_either : (at (marked w h held f) d ≡ f d) ⊎ (at (marked w h held f) d ≡ mark)
  entry_either = by (dec_lt d (slots w h))
    where
      inside : (k : Bool) → at (marked w h held f) d ≡ cond k (f d) mark
          → (at (marked w h held f) d ≡ f d) ⊎ (at (marked w h held f) d ≡ mark)
      inside true e = inl e
      inside false e = inr e

      by : Dec (d < slots w h) → (at (marked w h held f) d ≡ f d) ⊎ (at (marked w h held f) d ≡ mark)
      by (yes b) = inside (held d) (at_below w h held f d b)
      by (no b) = inr (at_past w h held f d (omega arith))

  entry_on : on (marked w h held f) d ≡ true → at (marked w h held f) d ≡ f d
  unfolding on
  entry_on e =
      ⊎_elim (λ p. p) (λ p. absurd (true≢false (sym e ∙ rw (eq-eqb (at (marked w h held f) d) mark p)))) entry_either

lower_below : (a b v : ℕ) → a ≢ b → lower a b v ≢ max a b
lower_below a b v n q = ⊎_elim (λ p. n (omega arith)) (λ p. p.0 (omega arith)) (lower_cases a b v)

pub larger_gone : (w h : ℕ) (t : Tables) (a b : ℕ) → a ≢ b → at (joined w h t a b).parent (max a b) ≡ mark
unfolding joined at
larger_gone w h t a b n =
    let f : ℕ → ℕ = λ d. lower a b (at t.side1 d) in
    let k : ℕ → Bool = on (rest1 w h t a b).next in
    let s = marked w h k f in
    parents_unborne w h (on s) (at s) (max a b)
    (λ d e q. lower_below a b (at t.side1 d) n (sym (entry_on w h k f d e) ∙ q))
