-- Joining by a list, as it is done in the tables.
--   Open w h t ws   == the size is one, the tables t are a drawing of it, and these and the work tables ws have the stated lengths
--   Left w h i t b l u c m == what i joins leave that led from the tables t to u: none changes neither these nor the work tables b and
--                      l, which are c and m after them; some leave the tops of the pieces at the front of c
--   Ended r s t     == the answer r tells the stop s, with the tables t
use Rattle.std.specs.Prelude.{◌≡◌, true, List, ◌≢◌, ℕ, Result}
use Rattle.sheet_size.specs.Size.{within}
use Rattle.paper.specs.Drawing.{Tables, Drawn}
use Rattle.paper.specs.Refusal.{stated}
use Rattle.paper.specs.Order.{Stop, placed}
use Rattle.join_rule.specs.Apply.{Topped}
use Rattle.join_list.specs.declared.each.ListRefusal.{ListRefusal}
use Rattle.join_list.specs.Answer.{list_number, list_values}

pub record Open (w h : ℕ) (t : Tables) (ws : List (List ℕ)) : Type 0 where
  pub size : within w h ≡ true
  pub sizes : stated w h t ws ≡ true
  pub drawn : Drawn w h t

pub record Left (w h i : ℕ) (t : Tables) (b l : List ℕ) (u : Tables) (c m : List ℕ) : Type 0 where
  pub none : i ≡ 0 → (u ≡ t) × (c ≡ b) × (m ≡ l)
  pub some : i ≢ 0 → Topped w h u.side1 c

pub record Ended (r : Result (Unit {0}) ListRefusal) (s : Stop) (t : Tables) : Type 0 where
  pub number : list_number r ≡ s.number
  pub values : list_values r ≡ placed s.number s.place
  pub tables : t ≡ s.tables
