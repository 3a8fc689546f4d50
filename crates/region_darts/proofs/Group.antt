-- The list of a group.
--   Lists s g t f l == the darts of each group are in a list: the table t leads from each to the next, f and l have its ends
--   Group s t f l g x == the darts of the group x are in a list
use mathlib.Core.Path.{◌≡◌, refl, sym, ◌∙◌}
use mathlib.Core.Bool.{true}
use mathlib.Core.List.{List}
use Prim.Native.Nat.{ℕ, ◌≤◌}
use native.Mathlib.Omega.{arith}
use lib.ListN.{length}
use Rattle.point_darts.specs.Dart.{mark}
use Rattle.paper.specs.Joining.{at, on}
use Rattle.region_darts.specs.Lists.{Of, size, Lists}
use Rattle.region_darts.proofs.Chain.{Chain}
use Rattle.region_darts.proofs.Size.{of_inside, size_as}

module _ (s t f l : List ℕ) (g : ℕ → ℕ) where
  abbrev pub Group : ℕ → Type 0
  Group x = Chain t (Of s g x) (size s g x) (at f x) (at l x)

  pub lists_group : Lists s g t f l → length s ≤ mark → (x d : ℕ) → Of s g x d → Group x
  lists_group r b x d o =
      record {
        all = r.all x;
        first = r.first x d o;
        next = r.next x;
        last = r.last x d o;
        end = r.end x d o;
        some = λ e p. let h = of_inside s g x e p in omega arith;
      }

  pub groups_lists : ((x d : ℕ) → Of s g x d → Group x) → Lists s g t f l
  groups_lists c =
      record {
        all = λ x d o. (c x d o).all d o;
        first = λ x d o. (c x d o).first;
        next = λ x d o. (c x d o).next d o;
        last = λ x d o. (c x d o).last;
        end = λ x d o. (c x d o).end;
      }

-- Sides that are grouped alike are listed alike.
module _ (s t f l : List ℕ) (g k : ℕ → ℕ) (e : (d : ℕ) → on s d ≡ true → k (at s d) ≡ g (at s d)) where
  of_as : (x d : ℕ) → Of s k x d → Of s g x d
  of_as x d o = record { sided = o.sided; group = sym (e d o.sided) ∙ o.group }

  as_of : (x d : ℕ) → Of s g x d → Of s k x d
  as_of x d o = record { sided = o.sided; group = e d o.sided ∙ o.group }

  pub lists_as : Lists s g t f l → Lists s k t f l
  lists_as r =
      record {
        all = λ x d o.
            let p = r.all x d (of_as x d o) in
            record { steps = p.steps; few = omega (arith, p.few, size_as s s g k x x refl (as_of x)); there = p.there };
        first = λ x d o. as_of x (at f x) (r.first x d (of_as x d o));
        next = λ x d o n. as_of x (at t d) (r.next x d (of_as x d o) n);
        last = λ x d o. as_of x (at l x) (r.last x d (of_as x d o));
        end = λ x d o. r.end x d (of_as x d o);
      }
