-- A list of darts.
--   Chain t q m a b == the darts that pass q, fewer than m steps from the first: the table t leads from a to each, and ends after b
--   chain_single    == one dart
--   chain_other     == a list stays where the end of another is set
--   chain_link      == one list after another
use mathlib.Core.Path.{◌≡◌, refl, sym, ap, ◌∙◌}
use mathlib.Core.List.{List}
use mathlib.Core.Logic.{◌⊎◌, inl, inr, ⊎_elim, ◌≢◌}
use Prim.Native.Nat.{ℕ, suc, ◌+◌, ◌≤◌, ◌<◌}
use native.Mathlib.Decide.{ℕ_discrete}
use native.Mathlib.Omega.{arith}
use lib.ListN.{length, set}
use Rattle.point_darts.specs.Dart.{mark}
use Rattle.paper.specs.Joining.{at}
use Rattle.table_entries.proofs.Entries.{at_same, at_other}
use Rattle.region_darts.specs.Lists.{along, Reached}
use Rattle.region_darts.proofs.Along.{along_add, along_set}

pub record Chain (t : List ℕ) (q : ℕ → Type 0) (m a b : ℕ) : Type 0 where
  pub all : (d : ℕ) → q d → Reached t m a d
  pub first : q a
  pub next : (d : ℕ) → q d → at t d ≢ mark → q (at t d)
  pub last : q b
  pub end : at t b ≡ mark
  pub some : (d : ℕ) → q d → d ≢ mark

-- the same darts by another test
pub chain_as : (t : List ℕ) (q r : ℕ → Type 0) (m k a b : ℕ) → ((d : ℕ) → q d → r d) → ((d : ℕ) → r d → q d) → m ≤ k
    → Chain t q m a b → Chain t r k a b
chain_as t q r m k a b to from l c =
    record {
      all = λ d h. let x = c.all d (from d h) in record { steps = x.steps; few = omega (arith, x.few); there = x.there };
      first = to a c.first;
      next = λ d h n. to (at t d) (c.next d (from d h) n);
      last = to b c.last;
      end = c.end;
      some = λ d h. c.some d (from d h);
    }

pub chain_single : (t : List ℕ) (d : ℕ) → at t d ≡ mark → d ≢ mark → Chain t (λ e. e ≡ d) 1 d d
chain_single t d end n =
    record {
      all = λ e h. record { steps = 0; few = omega arith; there = unfold along in sym h };
      first = refl;
      next = λ e h k. absurd (k (ap (at t) h ∙ end));
      last = refl;
      end = end;
      some = λ e h k. n (sym h ∙ k);
    }

module _ (t : List ℕ) (b : length t ≤ mark) where
  -- what was reached stays reached
  reached_set : (q : ℕ → Type 0) (m a z : ℕ) → Chain t q m a z → (p v : ℕ) → at t p ≡ mark → (d : ℕ) → q d
      → Reached (set t p v) m a d
  reached_set q m a z c p v end d h =
      let x = c.all d h in
      record { steps = x.steps; few = x.few; there = along_set t b p v end x.steps a d x.there (c.some d h) }

  pub chain_other : (q : ℕ → Type 0) (m a z p v : ℕ) → Chain t q m a z → at t p ≡ mark → (q p → ⊥)
      → Chain (set t p v) q m a z
  chain_other q m a z p v c end out =
      let same : (d : ℕ) → q d → at (set t p v) d ≡ at t d = λ d h. at_other t p v d (λ e. out (rw e at h)) in
      record {
        all = reached_set q m a z c p v end;
        first = c.first;
        next = λ d h n. rw (same d h) (c.next d h (λ e. n (same d h ∙ e)));
        last = c.last;
        end = same z c.last ∙ c.end;
        some = c.some;
      }

  module _ (q r : ℕ → Type 0) (m k a z f l : ℕ) (c : Chain t q m a z) (e : Chain t r k f l) (out : r z → ⊥) (h : z < length t) where
    both_all : (d : ℕ) → q d ⊎ r d → Reached (set t z f) (m + k) a d
    both_all d (inl p) =
        let x = reached_set q m a z c z f c.end d p in
        record { steps = x.steps; few = omega (arith, x.few); there = x.there }
    both_all d (inr p) =
        let x = reached_set q m a z c z f c.end z c.last in
        let y = reached_set r k f l e z f c.end d p in
        record {
          steps = x.steps + suc y.steps;
          few = omega (arith, x.few, y.few);
          there =
              rw (along_add (set t z f) x.steps (suc y.steps) a, x.there)
              (unfold along in ap (along (set t z f) y.steps) (at_same t z f h) ∙ y.there);
        }

    both_next : (d : ℕ) → q d ⊎ r d → at (set t z f) d ≢ mark → q (at (set t z f) d) ⊎ r (at (set t z f) d)
    both_next d p n = go (ℕ_discrete d z) p
      where
        go : Dec (d ≡ z) → q d ⊎ r d → q (at (set t z f) d) ⊎ r (at (set t z f) d)
        go (yes w) p = rw (w, at_same t z f h) (inr e.first)
        go (no w) (inl p) = let s = at_other t z f d w in rw s (inl (c.next d p (λ x. n (s ∙ x))))
        go (no w) (inr p) = let s = at_other t z f d w in rw s (inr (e.next d p (λ x. n (s ∙ x))))

    pub chain_link : Chain (set t z f) (λ d. q d ⊎ r d) (m + k) a l
    chain_link =
        record {
          all = both_all;
          first = inl c.first;
          next = both_next;
          last = inr e.last;
          end = at_other t z f l (λ w. out (rw w at e.last)) ∙ e.end;
          some = λ d p. ⊎_elim (c.some d) (e.some d) p;
        }
