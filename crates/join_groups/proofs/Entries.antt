-- Going through a list, entry by entry.
--   Going w h l t u r i == after i entries of the list l, which led from the tables t to the tables u, the names r are left
use mathlib.Core.Path.{◌≡◌, refl}
use mathlib.Core.Bool.{Bool, true, false, cond}
use mathlib.Core.List.{List, [], ◌∷◌}
use mathlib.Core.Logic.{◌≢◌}
use Prim.Native.Nat.{ℕ, zero, suc, ◌+◌, ◌*◌, ◌-◌, ◌%◌, ◌≤◌, ◌<◌}
use native.Mathlib.Nat.{le_refl}
use native.Mathlib.Omega.{arith}
use lib.Dec.{eqb, leb}
use lib.ListN.{length, get_or, take, drop, length-drop}
use lib.Seq.{take_all}
use borrow.Author.Tests.{leb-true}
use Rattle.laws.specs.First.{first_failed}
use Rattle.laws.proofs.Test.{and_right}
use Rattle.paper.specs.Drawing.{Tables}
use Rattle.paper.specs.Joining.{joined}
use Rattle.paper.specs.Refusal.{pair_tests}
use Rattle.paper.specs.Order.{pairs, whole, unless, joins, stop}

pub record Going (w h : ℕ) (l : List ℕ) (t u : Tables) (r : List ℕ) (i : ℕ) : Type 0 where
  pub on : joins w h i (pairs r) u ≡ joins w h 0 (pairs l) t
  pub long : 2 * i + length r ≡ length l

-- a list that may be lent has at most 7,919 entries
pub whole_most : (w n : ℕ) → whole w n ≡ true → n ≤ 15838
unfolding whole
whole_most w n e = by (leb w 72) refl
  where
    long : n ≤ 2 * cond (leb w 72) 5183 7919
    long = leb-true n (2 * cond (leb w 72) 5183 7919) (and_right (eqb (n % 2) 0) (leb n (2 * cond (leb w 72) 5183 7919)) e)

    by : (k : Bool) → leb w 72 ≡ k → n ≤ 15838
    by true q = let z = rw q at long in omega (arith, z)
    by false q = let z = rw q at long in omega (arith, z)

-- the next entry of a list, and the end
pairs_next : (r : List ℕ) → 1 < length r → pairs r ≡ (get_or r 0 0, get_or r 1 0) ∷ pairs (drop 2 r)
unfolding pairs
pairs_next [] l = absurd (omega (arith, l))
pairs_next (a ∷ []) l = absurd (omega (arith, l))
pairs_next (a ∷ b ∷ r) l = refl

rest_all : (r : List ℕ) → take (length r - 2) (drop 2 r) ≡ drop 2 r
rest_all r = take_all (length r - 2) (drop 2 r) (rw length-drop (le_refl _))

pub rest_less : (r : List ℕ) → 1 < length r → length (take (length r - 2) (drop 2 r)) < length r
rest_less r l = rw rest_all (omega (arith, length-drop 2 r))

pairs_end : (r : List ℕ) → length r ≤ 1 → pairs r ≡ []
unfolding pairs
pairs_end [] l = refl
pairs_end (a ∷ []) l = refl
pairs_end (a ∷ b ∷ r) l = absurd (omega (arith, l))

module _ (w h : ℕ) (l : List ℕ) (t : Tables) where
  pub going_start : Going w h l t t l 0
  going_start = record { on = refl; long = omega arith }

  module _ (u : Tables) (r : List ℕ) (i : ℕ) (g : Going w h l t u r i) where
    -- past the last entry
    pub going_end : length r ≤ 1 → stop 0 i u ≡ joins w h 0 (pairs l) t
    unfolding joins
    going_end e = rw (pairs_end r e) at g.on

    module _ (e : 1 < length r) (k : ℕ) (f : k ≡ first_failed (pair_tests w h u.side1 u.parent (get_or r 0 0) (get_or r 1 0))) where
      next : unless k i u (joins w h (suc i) (pairs (drop 2 r)) (joined w h u (get_or r 0 0) (get_or r 1 0))) ≡ joins w h 0 (pairs l) t
      unfolding joins
      next = rw f (rw (pairs_next r e) at g.on)

      -- the entry is refused
      pub going_stops : k ≢ 0 → stop k i u ≡ joins w h 0 (pairs l) t
      unfolding unless
      going_stops = by k next
        where
          by : (k : ℕ)
              → unless k i u (joins w h (suc i) (pairs (drop 2 r)) (joined w h u (get_or r 0 0) (get_or r 1 0))) ≡ joins w h 0 (pairs l) t
              → k ≢ 0 → stop k i u ≡ joins w h 0 (pairs l) t
          by zero q z = absurd (z refl)
          by (suc k) q z = q

      -- it is joined
      pub going_on : k ≡ 0 → Going w h l t (joined w h u (get_or r 0 0) (get_or r 1 0)) (take (length r - 2) (drop 2 r)) (i + 1)
      unfolding unless
      going_on z =
          let p : i + 1 ≡ suc i = omega arith in
          record { on = rw (p, rest_all) (rw z at next); long = rw rest_all (omega (arith, g.long, length-drop 2 r)) }
