-- The darts with the sides a and b.
--   shared s o a b d == dart d has the sides a and b, where o leads from a dart to its other
use mathlib.Core.Path.{◌≡◌}
use mathlib.Core.Bool.{false}
use mathlib.Core.List.{List}
use Prim.Native.Nat.{ℕ}
use borrow.Author.Tests.{ne_eqb}
use Rattle.paper.specs.Joining.{at, between, shared}

module _ (s : List ℕ) (o : ℕ → ℕ) (a b d x : ℕ) (e : x ≡ at s d) where
  pub shared_neither : (x ≡ a → ⊥) → (x ≡ b → ⊥) → false ≡ shared s o a b d
  unfolding shared between
  shared_neither n m = rw (← e, ne_eqb x a n, ne_eqb x b m)
