-- Points treated along a list of darts.
--   Visited steps step l n f t == the list t of n slots, which starts at f, leads to every point that is to be treated, from the
--                      links l on: a step at a point that no dart of the list leaves, or that was treated, does nothing
use Rattle.std.specs.Prelude.{◌≡◌, Bool, false, List, ◌⊎◌, ℕ, ◌<◌}
use Rattle.point_darts.specs.Dart.{point}
use Rattle.paper.specs.Joining.{Links}
use Rattle.join_darts.specs.Listed.{Listed}

pub record Visited (steps : ℕ → ℕ → Links → Links) (step : Links → ℕ → Links) (l : Links) (n f : ℕ) (t : List ℕ) :
    Type 0 where
  pub test : ℕ → Bool
  pub list : Listed test n f t
  pub still : (i p : ℕ) → ((d : ℕ) → point d ≡ p → test d ≡ false) ⊎ (p < i) → step (steps i 0 l) p ≡ steps i 0 l
