-- Depth, going up the parents.
--   above t n r     == how many parents up from r the outside is, counted_at n steps far
--   depth t r       == above t r r
use mathlib.Core.Path.{◌≡◌, refl, sym, ap}
use mathlib.Core.Bool.{true, false, not}
use mathlib.Core.List.{List}
use mathlib.Core.Logic.{⊎_elim, ◌≢◌}
use Prim.Native.Nat.{ℕ, zero, suc, ◌+◌, ◌≤◌, ◌<◌, zero-le}
use native.Mathlib.Nat.{not-suc-le-zero}
use native.Mathlib.Decide.{dec_lt, ℕ_discrete}
use native.Mathlib.Numerals.{add-one}
use native.Mathlib.Omega.{arith}
use lib.Dec.{eqb}
use lib.ListN.{length, get_or}
use borrow.Author.Tests.{eqb-true, eq-eqb, ne_eqb}
use Rattle.laws.proofs.Test.{or_either, clash}
use Rattle.point_darts.specs.Dart.{mark}
use Rattle.paper.specs.Joining.{at, on}
use Rattle.paper.specs.Enclosure.{above, depth}
use Rattle.region_depths.specs.Tree.{known, Falls}
use Rattle.table_entries.proofs.Entries.{at_in, at_out}

-- no more steps than are allowed
above_le : (t : List ℕ) (n r : ℕ) → above t n r ≤ n
unfolding above
above_le t zero r = zero-le
above_le t (suc n) zero = zero-le
above_le t (suc n) (suc r) = let l = above_le t n (get_or t (suc r) mark) in omega arith

module _ (t : List ℕ) where
  pub depth_le : (r : ℕ) → depth t r ≤ r
  unfolding depth
  depth_le r = above_le t r r

  pub depth_outside : depth t 0 ≡ 0
  unfolding depth above
  depth_outside = refl

  -- a name other than 0 that is known is in use
  pub known_on : (r : ℕ) → known t r ≡ true → r ≢ 0 → on t r ≡ true
  unfolding known
  known_on r e n = ⊎_elim (λ p. absurd (n (eqb-true r 0 p))) (λ p. p) (or_either (eqb r 0) (on t r) e)

  -- a known name has an entry
  past_off : (r : ℕ) → length t ≤ r → on t r ≡ false
  unfolding on
  past_off r l = rw (← at_out t r l, eq-eqb mark mark refl)

  pub known_in : 0 < length t → (r : ℕ) → known t r ≡ true → r < length t
  known_in z r k = go (dec_lt r (length t)) (ℕ_discrete r 0)
    where
      go : Dec (r < length t) → Dec (r ≡ 0) → r < length t
      go (yes b) d = b
      go (no b) (yes e) = absurd (omega arith)
      go (no b) (no n) = clash (known_on r k n) (past_off r (omega arith))

  -- telling whether a name is known, by its entry v
  pub known_outside : (r : ℕ) → r ≡ 0 → true ≡ known t r
  unfolding known
  known_outside r e = rw e

  pub known_name : (r : ℕ) → r ≢ 0 → (v : ℕ) → v ≡ at t r → not (eqb v mark) ≡ known t r
  unfolding known on
  known_name r n v e = rw (ne_eqb r 0 n, e)

  module _ (f : Falls t) where
    -- the parents' names fall, so more steps than the name count no more
    above_fuel : (n m r : ℕ) → r ≤ n → r ≤ m → known t r ≡ true → above t n r ≡ above t m r
    unfolding above at
    above_fuel zero zero r a b e = refl
    above_fuel zero (suc m) zero a b e = refl
    above_fuel zero (suc m) (suc r) a b e = absurd (not-suc-le-zero a)
    above_fuel (suc n) zero zero a b e = refl
    above_fuel (suc n) zero (suc r) a b e = absurd (not-suc-le-zero b)
    above_fuel (suc n) (suc m) zero a b e = refl
    above_fuel (suc n) (suc m) (suc r) a b e =
        let o = known_on (suc r) e (λ q. omega arith) in
        let l = f.down (suc r) o in
        ap suc (above_fuel n m (get_or t (suc r) mark) (omega arith) (omega arith) (f.held (suc r) o))

    up : (r : ℕ) → on t r ≡ true → depth t r ≡ suc (depth t (at t r))
    unfolding depth above at
    up zero e = absurd (not-suc-le-zero (f.down 0 e))
    up (suc r) e =
        let l = f.down (suc r) e in
        ap suc (above_fuel r (at t (suc r)) (at t (suc r)) (omega arith) (omega arith) (f.held (suc r) e))

    -- the depth of a name in use is one more than its parent's
    pub depth_up : (r : ℕ) → on t r ≡ true → depth t r ≡ depth t (at t r) + 1
    depth_up r e = rw add-one (up r e)

    -- one step of the climb from a known name r, by its entry
    module _ (r : ℕ) (b : r < length t) (k : known t r ≡ true) where
      lower : get_or t r 0 < r → on t r ≡ true
      lower l = known_on r k (λ e. omega arith)

      pub climb_known : get_or t r 0 < r → known t (get_or t r 0) ≡ true
      climb_known l = rw (at_in t r b) (f.held r (lower l))

      pub climb_up : get_or t r 0 < r → depth t (get_or t r 0) + 1 ≡ depth t r
      climb_up l = rw (at_in t r b) (sym (depth_up r (lower l)))

      pub climb_ends : r ≤ get_or t r 0 → 0 ≡ depth t r
      climb_ends l = go (ℕ_discrete r 0)
        where
          go : Dec (r ≡ 0) → 0 ≡ depth t r
          go (yes e) = rw e (sym depth_outside)
          go (no n) = absurd (omega (arith, f.down r (known_on r k n), at_in t r b))
