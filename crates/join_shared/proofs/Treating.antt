-- A table treated at the slots of a list alone, in place: the others stay as they are.
--   Treated g q d s t == of the table s the entries below d have become those of g, and d passes the test or is the end
--   First q n d e   == e is the first slot from d on that passes the test q, or n where none of the n slots does
--   Listed q n f t  == the list of all slots that pass
use mathlib.Core.Path.{◌≡◌, refl, sym, ◌∙◌}
use mathlib.Core.Bool.{Bool, true, false}
use mathlib.Core.List.{List}
use Prim.Native.Nat.{ℕ, ◌+◌, ◌≤◌, ◌<◌}
use native.Mathlib.Decide.{dec_lt}
use native.Mathlib.Omega.{arith}
use lib.ListN.{length, get_or, set}
use Rattle.laws.specs.Table.{table}
use Rattle.paper.specs.Joining.{at}
use Rattle.table_entries.proofs.Half.{Half, half_none, half_more, half_all, half_here}
use Rattle.table_entries.proofs.Entries.{at_entry}
use Rattle.join_darts.specs.Listed.{First, Listed}

pub record Treated (g : ℕ → ℕ) (q : ℕ → Bool) (d : ℕ) (s t : List ℕ) : Type 0 where
  pub half : Half g d s t
  pub here : d < length s → q d ≡ true
  pub inside : d ≤ length s

module _ (g : ℕ → ℕ) (q : ℕ → Bool) (s : List ℕ)
    (same : (d : ℕ) → d < length s → q d ≡ false → g d ≡ at s d) where
  treated_on : (i j : ℕ) (t : List ℕ) → Half g i s t → First q (length s) i j → Treated g q j s t
  treated_on i j t p r =
      record {
        half = record {
          done = λ k h. go k h (dec_lt k i);
          rest = λ k h. p.rest k (omega (arith, r.after));
          long = p.long;
        };
        here = r.here;
        inside = r.inside;
      }
    where
      go : (k : ℕ) → k < j → Dec (k < i) → get_or t k 0 ≡ g k
      go k h (yes b) = p.done k b
      go k h (no b) =
          let c : i ≤ k = omega arith in
          let l : k < length s = omega (arith, r.inside) in
          p.rest k c ∙ sym (at_entry s k l) ∙ sym (same k l (r.gap k c h))

  module _ (f : ℕ) (l : List ℕ) (r : Listed q (length s) f l) where
    pub treated_none : Treated g q f s s
    treated_none = treated_on 0 f s (half_none g s) r.start

    pub treated_more : (d v : ℕ) (t : List ℕ) → Treated g q d s t → d < length s → v ≡ g d
        → Treated g q (get_or l d 0) s (set t d v)
    treated_more d v t p b e =
        treated_on (d + 1) (get_or l d 0) (set t d v) (half_more g d v s t p.half b e) (r.steps d b (p.here b))

  pub treated_all : (d : ℕ) (t : List ℕ) → Treated g q d s t → length s ≤ d → t ≡ table (length s) g
  treated_all d t p h = half_all g (length s) d s t p.half refl h

  -- an entry that is not yet treated
  pub treated_here : (d : ℕ) (t : List ℕ) → Treated g q d s t → d < length s → at s d ≡ get_or t d 0
  treated_here d t p h = half_here g d s t p.half h
