-- Entries of a table.
--   at t d          == the entry of t at d, the mark past its end
use mathlib.Core.Path.{◌≡◌, refl, sym, ap, ◌∙◌}
use mathlib.Core.Bool.{Bool, true, false, cond, not}
use mathlib.Core.List.{List, [], ◌∷◌}
use mathlib.Core.Logic.{◌⊎◌, inl, inr, ◌≢◌}
use Prim.Native.Nat.{ℕ, zero, suc, ◌≤◌, ◌<◌}
use native.Mathlib.Nat.{not-suc-le-zero}
use native.Mathlib.Decide.{ℕ_discrete, dec_lt}
use native.Mathlib.Omega.{arith}
use lib.Dec.{eqb}
use borrow.Author.Tests.{eq-eqb, ne_eqb}
use lib.ListN.{length, get_or, set, get_or-eq_default}
use lib.Seq.{get_or-set_same, get_or-set_other}
use Rattle.laws.proofs.Test.{clash}
use Rattle.point_darts.specs.Dart.{mark}
use Rattle.paper.specs.Joining.{at, on}

-- An entry, whatever is read past the end.
pub entry_any : (t : List ℕ) (d y z : ℕ) → d < length t → get_or t d y ≡ get_or t d z
entry_any [] d y z h = absurd (not-suc-le-zero h)
entry_any (x ∷ t) zero y z h = refl
entry_any (x ∷ t) (suc d) y z h = entry_any t d y z (omega arith)

pub at_entry : (t : List ℕ) (d : ℕ) → d < length t → at t d ≡ get_or t d 0
unfolding at
at_entry t d h = entry_any t d mark 0 h

pub at_end : (t : List ℕ) (d : ℕ) → length t ≤ d → at t d ≡ mark
unfolding at
at_end t d h = get_or-eq_default t mark h

-- An entry after a store.
pub at_same : (t : List ℕ) (p v : ℕ) → p < length t → at (set t p v) p ≡ v
unfolding at
at_same t p v h = get_or-set_same t p v mark h

pub at_other : (t : List ℕ) (p v d : ℕ) → d ≢ p → at (set t p v) d ≡ at t d
unfolding at
at_other t p v d n = get_or-set_other t p d v mark n

pub set_cases : (t : List ℕ) (x q k : ℕ) → x < length t
    → ((k ≡ x) × (get_or (set t x q) k 0 ≡ q)) ⊎ ((k ≢ x) × (get_or (set t x q) k 0 ≡ get_or t k 0))
set_cases t x q k b = go (ℕ_discrete k x)
  where
    go : Dec (k ≡ x) → ((k ≡ x) × (get_or (set t x q) k 0 ≡ q)) ⊎ ((k ≢ x) × (get_or (set t x q) k 0 ≡ get_or t k 0))
    go (yes e) = inl (e, rw e (get_or-set_same t x q 0 b))
    go (no e) = inr (e, get_or-set_other t x k q 0 e)

module _ (t : List ℕ) (d : ℕ) where
  pub at_in : d < length t → get_or t d 0 ≡ at t d
  at_in h = sym (at_entry t d h)

  pub at_out : length t ≤ d → mark ≡ at t d
  at_out h = sym (at_end t d h)

  -- an entry is on where it is not the mark
  pub on_mark : at t d ≡ mark → on t d ≡ false
  unfolding on
  on_mark e = ap not (eq-eqb (at t d) mark e)

  pub on_entry : (at t d ≡ mark → ⊥) → on t d ≡ true
  unfolding on
  on_entry n = ap not (ne_eqb (at t d) mark n)

  module _ (e : on t d ≡ true) where
    pub on_no_mark : at t d ≢ mark
    on_no_mark z = clash e (on_mark z)

    pub on_below : d < length t
    on_below = go (dec_lt d (length t))
      where
        go : Dec (d < length t) → d < length t
        go (yes b) = b
        go (no b) = absurd (on_no_mark (at_end t d (omega arith)))

-- An entry that gives way to the mark where a table of links has the mark.
cond_not : (b : Bool) (x y : ℕ) → cond b x y ≡ cond (not b) y x
cond_not true x y = refl
cond_not false x y = refl

pub trim_entry : (x s t : List ℕ) (i v : ℕ) → i < length x → i < length s → get_or t i 0 ≡ get_or s i 0
    → v ≡ cond (eqb (get_or x i 0) mark) mark (get_or t i 0) → v ≡ cond (on x i) (at s i) mark
unfolding on
trim_entry x s t i v a b e f =
    f ∙ cond_not (eqb (get_or x i 0) mark) mark (get_or t i 0) ∙ rw (at_entry x i a, at_entry s i b, e)
