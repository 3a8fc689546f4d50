-- Darts in a list.
--   First q n d e   == e is the first slot from d on that passes the test q, or n where none of the n slots does
--   Listing q n i f t == the list of the slots from i on
--   Gap q i j       == no slot from i up to j passes
--   bounds s a b d  == dart d has side a or side b
--   Bounded s n a b m f t == the list has every dart that has side a or b, and a next
use mathlib.Core.Path.{◌≡◌, refl, sym, ◌∙◌, ap}
use mathlib.Core.Bool.{Bool, true, false, not, ◌&&◌, ◌||◌, false≢true}
use mathlib.Core.List.{List}
use mathlib.Core.Logic.{◌⊎◌, inl, inr, ⊎_elim}
use Prim.Native.Nat.{ℕ, ◌+◌, ◌≤◌, ◌<◌}
use native.Mathlib.Nat.{le_refl}
use native.Mathlib.Decide.{ℕ_discrete, dec_lt}
use native.Mathlib.Omega.{arith}
use lib.Dec.{eqb}
use lib.ListN.{length, get_or, set, length-set}
use lib.Seq.{get_or-set_same, get_or-set_other}
use Rattle.laws.proofs.Test.{clash}
use Rattle.paper.specs.Joining.{on}
use Rattle.table_entries.proofs.Entries.{at_entry}
use Rattle.join_darts.specs.Listed.{bounds, Gap, Met, First, Listed, Listing, Bounded}

-- a slot more, and a gap after a gap
pub gap_more : (q : ℕ → Bool) (i j : ℕ) → Gap q i j → q j ≡ false → Gap q i (j + 1)
gap_more q i j g h d l u = go (ℕ_discrete d j)
  where
    go : Dec (d ≡ j) → q d ≡ false
    go (yes z) = rw z h
    go (no z) = g d l (omega arith)

pub gap_after : (q : ℕ → Bool) (i j n : ℕ) → Gap q i j → Gap q j n → Gap q i n
gap_after q i j n g f d l u = go (dec_lt d j)
  where
    go : Dec (d < j) → q d ≡ false
    go (yes z) = g d l z
    go (no z) = f d (omega arith) u

module _ (q : ℕ → Bool) (n : ℕ) where
  pub listing_none : (t : List ℕ) → length t ≡ n → Listing q n n n t
  listing_none t e =
      record {
        first = record {
          after = le_refl n;
          inside = le_refl n;
          here = λ h. absurd (omega arith);
          gap = λ i a b. absurd (omega arith);
        };
        steps = λ d a b h. absurd (omega arith);
        long = e;
        room = le_refl n;
      }

  -- slots more, of which none passes
  pub listing_gap : (i j f : ℕ) (t : List ℕ) → Listing q n i f t → j ≤ i → Gap q j i → Listing q n j f t
  listing_gap i j f t r h g =
      record {
        first = record {
          after = omega (arith, r.first.after);
          inside = r.first.inside;
          here = r.first.here;
          gap = gap_after q j i f g r.first.gap;
        };
        steps = λ d a b p. go_on d a b p (dec_lt d i);
        long = r.long;
        room = omega (arith, r.room);
      }
    where
      go_on : (d : ℕ) → j ≤ d → d < n → q d ≡ true → Dec (d < i) → First q n (d + 1) (get_or t d 0)
      go_on d a b p (yes z) = clash p (g d a z)
      go_on d a b p (no z) = r.steps d (omega arith) b p

  -- a slot more, led to the list, which passes or not
  module _ (i j f : ℕ) (t : List ℕ) (r : Listing q n i f t) (e : j + 1 ≡ i) where
    steps : (d : ℕ) → j ≤ d → d < n → q d ≡ true → First q n (d + 1) (get_or (set t j f) d 0)
    steps d a b p = go (ℕ_discrete d j)
      where
        go : Dec (d ≡ j) → First q n (d + 1) (get_or (set t j f) d 0)
        go (yes z) =
            let k : d + 1 ≡ i = ap (λ m. m + 1) z ∙ e in
            rw (z, get_or-set_same t j f 0 (omega (arith, r.long, r.room)), e) r.first
        go (no z) = rw (get_or-set_other t j d f 0 z) (r.steps d (omega arith) b p)

    listing_set : (g : ℕ) → First q n j g → Listing q n j g (set t j f)
    listing_set g h =
        record { first = h; steps = steps; long = length-set t j f ∙ r.long; room = omega (arith, r.room) }

    pub listing_more : q j ≡ true → Listing q n j j (set t j f)
    listing_more h =
        listing_set j
        record {
          after = le_refl j;
          inside = omega (arith, r.room);
          here = λ b. h;
          gap = λ k a b. absurd (omega arith);
        }

    pub listing_less : q j ≡ false → Listing q n j f (set t j f)
    listing_less h =
        listing_set f
        (listing_gap i j f t r (omega arith) (λ d a b. let z : d ≡ j = omega arith in rw z h)).first

  -- all slots
  pub listing_all : (i f : ℕ) (t : List ℕ) → Listing q n i f t → i ≤ 0 → Listed q n f t
  listing_all i f t r h =
      let z : i ≡ 0 = omega arith in
      record {
        start = rw z at r.first;
        steps = λ d b p. r.steps d (omega arith) b p;
      }

-- a slot's side, read
pub bounds_here : (s : List ℕ) (a b j : ℕ) (c : Bool) → j < length s → (eqb (get_or s j 0) a || eqb (get_or s j 0) b) ≡ c
    → bounds s a b j ≡ c
unfolding bounds
bounds_here s a b j c h e = rw (at_entry s j h) e

-- one of two more tests, or neither
neither : (free x y : Bool) → ((free && not x) && not y) ≡ true → (free ≡ true) × ((x || y) ≡ false)
neither true true y e = absurd (false≢true e)
neither true false true e = absurd (false≢true e)
neither true false false e = (refl, refl)
neither false x y e = absurd (false≢true e)

one_of : (free x y : Bool) → ((free && not x) && not y) ≡ false → (free ≡ false) ⊎ ((x || y) ≡ true)
one_of true true y e = inr refl
one_of true false true e = inr refl
one_of true false false e = absurd (false≢true (sym e))
one_of false x y e = inl refl

-- a slot more asked
module _ (s : List ℕ) (a b low i : ℕ) (free : Bool) (l : low ≤ i) (h : i < length s) where
  abbrev now : Bool
  now = (free && not (eqb (get_or s i 0) a)) && not (eqb (get_or s i 0) b)

  pub asked_none : (free ≡ true → Gap (bounds s a b) low i) → now ≡ true → Gap (bounds s a b) low (i + 1)
  asked_none f e =
      let (was, here) = neither free (eqb (get_or s i 0) a) (eqb (get_or s i 0) b) e in
      gap_more (bounds s a b) low i (f was) (bounds_here s a b i false h here)

  pub asked_one : (free ≡ false → Met (bounds s a b) low i) → now ≡ false → Met (bounds s a b) low (i + 1)
  asked_one f e =
      ⊎_elim
      (λ was. let m = f was in record { slot = m.slot; after = m.after; before = omega (arith, m.before); passes = m.passes })
      (λ here. record { slot = i; after = l; before = omega arith; passes = bounds_here s a b i true h here })
      (one_of free (eqb (get_or s i 0) a) (eqb (get_or s i 0) b) e)

-- a list of the darts of a and b, and one of those that have a next
module _ (s n : List ℕ) (a b m f : ℕ) (t : List ℕ) where
  pub bounded_all : Listed (bounds s a b) m f t → Bounded s n a b m f t
  bounded_all l = record { test = bounds s a b; list = l; all = λ d e h. e }

  pub bounded_on : Listed (λ d. bounds s a b d && on n d) m f t → Bounded s n a b m f t
  bounded_on l = record { test = λ d. bounds s a b d && on n d; list = l; all = λ d e h. rw (e, h) }
