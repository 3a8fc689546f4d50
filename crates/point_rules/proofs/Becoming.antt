-- What a point becomes, by the point table, that had the lines m and has the lines l left: proved at all masks by tests
-- that antt computes.
--   both f          == every two masks pass the test f
--   becoming m l    == what the point becomes: the lines of m that are not among l are taken
use mathlib.Core.Path.{◌≡◌, refl}
use mathlib.Core.Bool.{Bool, true, false, not, ◌&&◌, ◌||◌, false≢true, and-eq-true_iff}
use mathlib.Core.List.{List}
use mathlib.Core.Logic.{◌≢◌}
use Prim.Native.Nat.{ℕ, ◌+◌, ◌-◌, ◌*◌, ◌≤◌, ◌<◌}
use native.Mathlib.Omega.{arith}
use lib.Bits.{bit_or}
use lib.Dec.{eqb, ltb}
use lib.ListN.{get_or}
use borrow.Author.Tests.{eqb-true, ltb-true, eq-eqb, ne_eqb}
use Rattle.point_darts.specs.Dart.{turned}
use Rattle.point_darts.specs.Point.{bits, half, has, degree, inline}
use Rattle.point_rules.specs.Turn.{without, impossible, kind, becomes, becomes_of, point_table, becoming}
use Rattle.point_rules.proofs.Entry.{becomes_entry}
use Rattle.point_rules.proofs.Turns.{all, all_at, same, same_at}

abbrev both : (ℕ → ℕ → Bool) → Bool
both f = all 16 (λ m. all 16 (f m))

both_at : (f : ℕ → ℕ → Bool) → both f ≡ true → (m l : ℕ) → m < 16 → l < 16 → f m l ≡ true
both_at f e m l a b = all_at 16 (f m) (all_at 16 (λ i. all 16 (f i)) e m a) l b

-- the table says 1 or 2 exactly where two lines are left
abbrev two : ℕ → ℕ → Bool
two m l = same (eqb (becoming m l) 1 || eqb (becoming m l) 2) (eqb (degree l) 2)

-- and 4 only where one line was there, or one is left
abbrev four : ℕ → ℕ → Bool
four m l = not (eqb (without l m) 0 && eqb (becoming m l) 4) || (eqb (degree m) 1 || eqb (degree l) 1)

-- where no line is left that was not there, the table is read at the lines that were there and those that went
abbrev fewer : ℕ → ℕ → Bool
fewer m l = not (eqb (without l m) 0) || eqb (becoming m l) (becomes m (without m l))

-- the lines that were there or are left, as one number
abbrev either : ℕ → ℕ → Bool
either m l = eqb (bit_or m l) (l + without m l) && ltb (l + without m l) 16

all_two : both two ≡ true
unfolding becoming becomes_of becomes without impossible kind turned bits half has degree inline
all_two = refl

all_four : both four ≡ true
unfolding becoming becomes_of becomes without impossible kind turned bits half has degree inline
all_four = refl

all_fewer : both fewer ≡ true
unfolding becoming becomes_of becomes without impossible kind turned bits half has degree inline
all_fewer = refl

all_either : both either ≡ true
unfolding without bits half has
all_either = refl

module _ (m l : ℕ) (a : m < 16) (b : l < 16) where
  pub becoming_two : (eqb (becoming m l) 1 || eqb (becoming m l) 2) ≡ eqb (degree l) 2
  becoming_two = same_at _ _ (both_at two all_two m l a b)

  -- no line is left that was not there
  module _ (e : without l m ≡ 0) where
    pub becoming_four : degree m ≢ 1 → degree l ≢ 1 → becoming m l ≢ 4
    becoming_four p q z =
        false≢true
        (rw (eq-eqb (without l m) 0 e, eq-eqb (becoming m l) 4 z, ne_eqb (degree m) 1 p, ne_eqb (degree l) 1 q)
        at (both_at four all_four m l a b))

    pub becoming_taken : becoming m l ≡ becomes m (without m l)
    becoming_taken = eqb-true _ _ (rw (eq-eqb (without l m) 0 e) at (both_at fewer all_fewer m l a b))

  split : (bit_or m l ≡ l + without m l) × (l + without m l < 16)
  split =
      let (p, q) =
      (and-eq-true_iff (eqb (bit_or m l) (l + without m l)) (ltb (l + without m l) 16)).0 (both_at either all_either m l a b) in
      (eqb-true _ _ p, ltb-true _ _ q)

  -- the entry, read at the place of the lines that were there and of those of them that are not left
  pub either_below : bit_or m l < 16
  either_below = rw split.0 split.1

  pub either_left : l ≤ bit_or m l
  either_left = rw split.0 (omega arith)

  pub becoming_entry : (xs : List ℕ) → xs ≡ point_table → get_or xs (16 * bit_or m l + (bit_or m l - l)) 0 ≡ becoming m l
  unfolding becoming
  becoming_entry xs e =
      let (p, q) = split in
      let t : l + without m l - l ≡ without m l = omega arith in
      rw (p, t) (becomes_entry xs (l + without m l) (without m l) e q (omega arith))
