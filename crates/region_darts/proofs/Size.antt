-- How many darts are of a group.
--   Of s g x d      == dart d has a side, and it is of the group x
--   size s g x      == how many darts are of the group x
use mathlib.Core.Path.{◌≡◌, refl, sym, ◌∙◌}
use mathlib.Core.Bool.{Bool, true, false, ◌&&◌}
use mathlib.Core.List.{List}
use mathlib.Core.Logic.{◌≢◌}
use Prim.Native.Nat.{ℕ, zero, suc, ◌+◌, ◌≤◌, ◌<◌, zero-le}
use native.Mathlib.Omega.{arith}
use lib.Dec.{eqb}
use lib.ListN.{length}
use borrow.Author.Tests.{eq-eqb, eqb-true}
use Rattle.laws.specs.Table.{number, count}
use Rattle.laws.proofs.Test.{clash, and_true, and_left, and_right}
use Rattle.laws.proofs.Count.{count_single, count_none}
use Rattle.point_darts.specs.Dart.{mark}
use Rattle.paper.specs.Joining.{at, on}
use Rattle.table_entries.proofs.Entries.{on_no_mark, on_below}
use Rattle.region_darts.specs.Lists.{Of, size}

-- a dart that has a side is in the table
pub of_inside : (s : List ℕ) (g : ℕ → ℕ) (x d : ℕ) → Of s g x d → d < length s
of_inside s g x d o = on_below s d o.sided

-- and its side is not the mark
pub of_side : (s : List ℕ) (g : ℕ → ℕ) (x d : ℕ) → Of s g x d → at s d ≢ mark
of_side s g x d o = on_no_mark s d o.sided

-- the test that is counted
abbrev of : List ℕ → (ℕ → ℕ) → ℕ → ℕ → Bool
of s g x d = on s d && eqb (g (at s d)) x

of_test : (s : List ℕ) (g : ℕ → ℕ) (x d : ℕ) → Of s g x d → of s g x d ≡ true
of_test s g x d o = and_true o.sided (eq-eqb (g (at s d)) x o.group)

test_of : (s : List ℕ) (g : ℕ → ℕ) (x d : ℕ) → of s g x d ≡ true → Of s g x d
test_of s g x d e =
    let t = eqb (g (at s d)) x in
    record { sided = and_left (on s d) t e; group = eqb-true (g (at s d)) x (and_right (on s d) t e) }

-- Numbers of which some pass one test and others another are no fewer.
one_of : (a b c : Bool) → (a ≡ true → c ≡ true) → (b ≡ true → c ≡ true) → (a ≡ true → b ≡ true → ⊥)
    → number a + number b ≤ number c
one_of true true c f g n = absurd (n refl refl)
one_of true false c f g n = rw (f refl) (omega arith)
one_of false true c f g n = rw (g refl) (omega arith)
one_of false false c f g n = zero-le

module _ (p q r : ℕ → Bool) (f : (d : ℕ) → p d ≡ true → r d ≡ true) (g : (d : ℕ) → q d ≡ true → r d ≡ true)
    (apart : (d : ℕ) → p d ≡ true → q d ≡ true → ⊥) where
  count_apart : (n : ℕ) → count n p + count n q ≤ count n r
  unfolding count
  count_apart zero = zero-le
  count_apart (suc n) = omega (arith, count_apart n, one_of (p n) (q n) (r n) (f n) (g n) (apart n))

-- no fewer where all of one group are of the other
pub size_as : (s u : List ℕ) (g k : ℕ → ℕ) (x y : ℕ) → length s ≡ length u → ((d : ℕ) → Of s g x d → Of u k y d)
    → size s g x ≤ size u k y
unfolding size
size_as s u g k x y e f =
    rw e
    (omega (
      arith,
      count_none (length u),
      count_apart (of s g x) (λ d. false) (of u k y) (λ d h. of_test u k y d (f d (test_of s g x d h)))
          (λ d h. clash h refl) (λ d h j. clash j refl) (length u),
    ))

-- two groups that become one
pub size_both : (s u : List ℕ) (g k : ℕ → ℕ) (x y z : ℕ) → length s ≡ length u → ((d : ℕ) → Of s g x d → Of u k z d)
    → ((d : ℕ) → Of s g y d → Of u k z d) → x ≢ y → size s g x + size s g y ≤ size u k z
unfolding size
size_both s u g k x y z e f h n =
    rw e
    (count_apart (of s g x) (of s g y) (of u k z) (λ d j. of_test u k z d (f d (test_of s g x d j)))
    (λ d j. of_test u k z d (h d (test_of s g y d j)))
    (λ d i j. n (sym (test_of s g x d i).group ∙ (test_of s g y d j).group)) (length u))

-- a dart more
pub size_more : (s u : List ℕ) (g k : ℕ → ℕ) (x z i : ℕ) → length s ≡ length u → ((d : ℕ) → Of s g x d → Of u k z d)
    → Of u k z i → (Of s g x i → ⊥) → 1 + size s g x ≤ size u k z
unfolding size
size_more s u g k x z i e f o n =
    rw (e, ← count_single (λ d. eqb d i) i (eq-eqb i i refl) (length u) (of_inside u k z i o) (λ d l h. eqb-true d i h))
    (count_apart (λ d. eqb d i) (of s g x) (of u k z) (λ d h. rw (eqb-true d i h) (of_test u k z i o))
    (λ d h. of_test u k z d (f d (test_of s g x d h)))
    (λ d h j. n (rw (eqb-true d i h) at (test_of s g x d j))) (length u))
