-- A list narrowed to the slots that pass a second test.
--   First q n d e   == e is the first slot from d on that passes the test q, or n where none of the n slots does
--   Listing q n i f t == the list of the slots from i on, in the table t of n entries; it starts at f
--   Listed q n f t  == the list of all slots
--   on n d          == dart d has a next, by the table n
use mathlib.Core.Path.{◌≡◌, refl, sym, ◌∙◌}
use mathlib.Core.Bool.{Bool, true, false, ◌&&◌}
use mathlib.Core.List.{List}
use Prim.Native.Nat.{ℕ, ◌+◌, ◌≤◌, ◌<◌}
use native.Mathlib.Decide.{ℕ_discrete, dec_lt}
use native.Mathlib.Omega.{arith}
use lib.ListN.{length, get_or, set, length-set}
use lib.Seq.{get_or-set_same, get_or-set_other}
use Rattle.laws.proofs.Test.{clash}
use Rattle.point_darts.specs.Dart.{mark}
use Rattle.paper.specs.Joining.{on}
use Rattle.table_entries.proofs.Entries.{at_entry, on_mark, on_entry}
use Rattle.join_darts.specs.Listed.{First, Listed, Listing}

-- an entry, read
module _ (t : List ℕ) (d : ℕ) (b : d < length t) where
  pub read_on : (get_or t d 0 ≡ mark → ⊥) → on t d ≡ true
  read_on e = on_entry t d (λ z. e (sym (at_entry t d b) ∙ z))

  pub read_off : get_or t d 0 ≡ mark → on t d ≡ false
  read_off e = on_mark t d (at_entry t d b ∙ e)

-- a list of all slots, followed from its first
pub listed_all : (q : ℕ → Bool) (i : ℕ) (s : List ℕ) → Listed q (length s) i s → Listing q (length s) 0 i s
listed_all q i s l =
    record { first = l.start; steps = λ d a b e. l.steps d b e; long = refl; room = omega arith }

module _ (q p : ℕ → Bool) (n : ℕ) where
  abbrev both : ℕ → Bool
  both d = q d && p d

  first_fails : (d : ℕ) → q d ≡ false → both d ≡ false
  first_fails d e = rw e

  second_fails : (d : ℕ) → p d ≡ false → both d ≡ false
  second_fails d e = go (q d) e
    where
      go : (c : Bool) → p d ≡ false → (c && p d) ≡ false
      go true z = z
      go false z = refl

  first_passes : (d : ℕ) → both d ≡ true → q d ≡ true
  first_passes d e = go (q d) refl e
    where
      go : (c : Bool) → q d ≡ c → (c && p d) ≡ true → q d ≡ true
      go true u z = u
      go false u z = clash z refl

  -- from slot i on the list was followed to slot d, and no slot before it passes both tests
  pub record Reached (i d : ℕ) : Type 0 where
    pub after : i ≤ d
    pub inside : d ≤ n
    pub here : d < n → q d ≡ true
    pub gap : (k : ℕ) → i ≤ k → k < d → both k ≡ false

  pub reached_none : (i f : ℕ) (t : List ℕ) → Listing q n i f t → Reached i f
  reached_none i f t l =
      record {
        after = l.first.after;
        inside = l.first.inside;
        here = l.first.here;
        gap = λ k a b. first_fails k (l.first.gap k a b);
      }

  pub reached_more : (i f d : ℕ) (t : List ℕ) → Listing q n i f t → Reached i d → d < n → p d ≡ false
      → Reached i (get_or t d 0)
  reached_more i f d t l r b e =
      let s = l.steps d r.after b (r.here b) in
      record {
        after = omega (arith, r.after, s.after);
        inside = s.inside;
        here = s.here;
        gap = λ k x y. go s k x y (dec_lt k d) (ℕ_discrete k d);
      }
    where
      go : First q n (d + 1) (get_or t d 0) → (k : ℕ) → i ≤ k → k < get_or t d 0 → Dec (k < d) → Dec (k ≡ d)
          → both k ≡ false
      go s k x y (yes z) w = r.gap k x z
      go s k x y (no z) (yes w) = rw w (second_fails d e)
      go s k x y (no z) (no w) = first_fails k (s.gap k (omega arith) y)

  pub reached_here : (i d : ℕ) → Reached i d → d < n → p d ≡ true → First both n i d
  reached_here i d r b e =
      record { after = r.after; inside = r.inside; here = λ c. rw (r.here c, e); gap = r.gap }

  pub reached_end : (i d : ℕ) → Reached i d → n ≤ d → First both n i d
  reached_end i d r b =
      record { after = r.after; inside = r.inside; here = λ c. absurd (omega arith); gap = r.gap }

  -- of the list s, the table t has the slots below d that pass both tests, and the others still
  pub record Narrowed (s : List ℕ) (f d : ℕ) (t : List ℕ) : Type 0 where
    pub start : First both n 0 f
    pub here : d < n → both d ≡ true
    pub inside : d ≤ n
    pub done : (k : ℕ) → k < d → both k ≡ true → First both n (k + 1) (get_or t k 0)
    pub rest : (k : ℕ) → d ≤ k → get_or t k 0 ≡ get_or s k 0
    pub long : length t ≡ length s

  module _ (i : ℕ) (s : List ℕ) (l : Listed q n i s) (long : length s ≡ n) where
    pub narrowed_none : (f : ℕ) → First both n 0 f → Narrowed s f f s
    narrowed_none f r =
        record {
          start = r;
          here = r.here;
          inside = r.inside;
          done = λ k b e. clash e (r.gap k (omega arith) b);
          rest = λ k b. refl;
          long = refl;
        }

    module _ (f d : ℕ) (t : List ℕ) (r : Narrowed s f d t) (b : d < n) where
      -- the list from a slot that passes on
      pub narrowed_rest : Listing q n (d + 1) (get_or t d 0) t
      narrowed_rest =
          record {
            first = rw (r.rest d (omega arith)) (l.steps d b (first_passes d (r.here b)));
            steps = λ k x y e. rw (r.rest k (omega arith)) (l.steps k y e);
            long = r.long ∙ long;
            room = omega arith;
          }

      pub narrowed_more : (e : ℕ) → First both n (d + 1) e → Narrowed s f e (set t d e)
      narrowed_more e g =
          record {
            start = r.start;
            here = g.here;
            inside = g.inside;
            done = λ k x y. go k x y (dec_lt k d) (ℕ_discrete k d);
            rest = λ k x. get_or-set_other t d k e 0 (λ z. omega (arith, g.after)) ∙ r.rest k (omega (arith, g.after));
            long = length-set t d e ∙ r.long;
          }
        where
          go : (k : ℕ) → k < e → both k ≡ true → Dec (k < d) → Dec (k ≡ d) → First both n (k + 1) (get_or (set t d e) k 0)
          go k x y (yes z) w = rw (get_or-set_other t d k e 0 (λ u. omega arith)) (r.done k z y)
          go k x y (no z) (yes w) = rw (w, get_or-set_same t d e 0 (omega (arith, r.long, long))) g
          go k x y (no z) (no w) = clash y (g.gap k (omega arith) x)

    pub narrowed_all : (f d : ℕ) (t : List ℕ) → Narrowed s f d t → n ≤ d → Listed both n f t
    narrowed_all f d t r b =
        record { start = r.start; steps = λ k x y. r.done k (omega arith) y }
