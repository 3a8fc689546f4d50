-- The darts with the sides a and b.
--   shared s o a b d == dart d has the sides a and b, where o leads from a dart to its other
--   bounds s a b d   == dart d has side a or side b
use mathlib.Core.Path.{◌≡◌, sym, ◌∙◌, ap₂}
use mathlib.Core.Bool.{false, ◌&&◌, ◌||◌, and_comm, or_comm}
use mathlib.Core.List.{List}
use mathlib.Core.Logic.{◌≢◌}
use Prim.Native.Nat.{ℕ, ◌≤◌}
use lib.Dec.{eqb}
use lib.ListN.{length}
use Rattle.laws.proofs.Test.{or_neither}
use Rattle.point_darts.specs.Dart.{mark}
use Rattle.paper.specs.Joining.{at, between, shared}
use Rattle.table_entries.proofs.Entries.{at_out}
use Rattle.join_darts.specs.Listed.{bounds}
use Rattle.join_shared.proofs.Sides.{shared_neither}

-- past the end no dart has the sides a and b
pub shared_past : (s : List ℕ) (o : ℕ → ℕ) (a b : ℕ) → a ≢ mark → b ≢ mark → (d : ℕ) → length s ≤ d
    → shared s o a b d ≡ false
shared_past s o a b p q d h =
    let e = at_out s d h in
    sym (shared_neither s o a b d mark e (λ r. p (sym r)) (λ r. q (sym r)))

-- nor has a dart with neither of them
pub away_apart : (s : List ℕ) (o : ℕ → ℕ) (a b d : ℕ) → bounds s a b d ≡ false → shared s o a b d ≡ false
unfolding bounds shared between
away_apart s o a b d e =
    let (p, q) = or_neither (eqb (at s d) a) (eqb (at s d) b) e in
    rw (p, q)

-- the other has the same sides
between_swap : (a b x y : ℕ) → between a b x y ≡ between a b y x
unfolding between
between_swap a b x y =
    or_comm (eqb x a && eqb y b) (eqb x b && eqb y a)
    ∙ ap₂ ◌||◌ (and_comm (eqb x b) (eqb y a)) (and_comm (eqb x a) (eqb y b))

pub shared_other : (s : List ℕ) (o : ℕ → ℕ) (a b d : ℕ) → o (o d) ≡ d → shared s o a b (o d) ≡ shared s o a b d
unfolding shared
shared_other s o a b d e = rw e (between_swap a b (at s (o d)) (at s d))
