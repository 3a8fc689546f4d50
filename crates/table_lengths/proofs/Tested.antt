-- The stated lengths of the tables that a call is lent.
--   all_are n ls     == the lengths ls are all n
--   Each n ls       == each of the lengths ls is n
--   lengths w h ns ds == the lengths ns of tables by name and ds of tables by dart are the stated ones
use mathlib.Core.Path.{◌≡◌, refl, ◌∙◌}
use mathlib.Core.Bool.{Bool, true, false, not, and-true}
use mathlib.Core.List.{List, [], ◌∷◌, map}
use Prim.Native.Nat.{ℕ, ◌+◌, ◌*◌}
use lib.Dec.{eqb}
use lib.ListN.{length}
use borrow.Author.Tests.{eqb-true, not-true, not-false}
use Rattle.laws.specs.Every.{every}
use Rattle.laws.proofs.Test.{and_left, and_right}
use Rattle.point_darts.specs.Dart.{slots}
use Rattle.paper.specs.Drawing.{Tables}
use Rattle.paper.specs.Refusal.{sized, stated}
use Rattle.table_lengths.specs.Lengths.{all_are, lengths}

abbrev pub Each : ℕ → List ℕ → Type 0
Each n [] = Unit {0}
Each n (l ∷ ls) = (l ≡ n) × Each n ls

pub all_each : (n : ℕ) (ls : List ℕ) → all_are n ls ≡ true → Each n ls
unfolding all_are every
all_each n [] e = tt
all_each n (l ∷ ls) e =
    (eqb-true l n (and_left (eqb l n) (all_are n ls) e), all_each n ls (and_right (eqb l n) (all_are n ls) e))

-- the lengths of tables
pub all_sized : (n : ℕ) (ts : List (List ℕ)) → all_are n (map length ts) ≡ sized n ts
unfolding all_are every sized
all_sized n [] = refl
all_sized n (t ∷ ts) = rw (all_sized n ts)

module _ (w h : ℕ) (ns ds : List ℕ) (r : Bool) (e : r ≡ all_are (w * h + 1) ns) where
  pub names_differ : not r ≡ true → false ≡ lengths w h ns ds
  unfolding lengths
  names_differ f = rw (← e, not-true r f)

  pub names_same : not r ≡ false → (m : ℕ) → m ≡ slots w h → (q : Bool) → q ≡ all_are m ds → q ≡ lengths w h ns ds
  unfolding lengths
  names_same f m s q g = rw (← e, not-false r f, ← s) g

module _ (w h : ℕ) where
  pub each_name : (ns ds : List ℕ) → lengths w h ns ds ≡ true → Each (w * h + 1) ns
  unfolding lengths
  each_name ns ds e = all_each (w * h + 1) ns (and_left (all_are (w * h + 1) ns) (all_are (slots w h) ds) e)

  pub each_dart : (ns ds : List ℕ) → lengths w h ns ds ≡ true → Each (slots w h) ds
  unfolding lengths
  each_dart ns ds e = all_each (slots w h) ds (and_right (all_are (w * h + 1) ns) (all_are (slots w h) ds) e)

  -- of tables by name alone
  pub name_lengths : (ts : List (List ℕ)) → lengths w h (map length ts) [] ≡ sized (w * h + 1) ts
  unfolding lengths all_are every
  name_lengths ts = and-true _ ∙ all_sized (w * h + 1) ts

  -- of tables by dart alone
  pub dart_lengths : (ts : List (List ℕ)) → lengths w h [] (map length ts) ≡ sized (slots w h) ts
  unfolding lengths all_are every
  dart_lengths ts = all_sized (slots w h) ts

  -- of the seven tables of a drawing and work tables
  module _ (t : Tables) (ws : List (List ℕ)) where
    abbrev pub by_dart : List (List ℕ)
    by_dart = t.next1 ∷ t.side1 ∷ t.next3 ∷ t.other3 ∷ ws

    abbrev pub by_name : List (List ℕ)
    by_name = t.parent ∷ t.cells ∷ t.borders ∷ []

    pub stated_lengths : lengths w h (map length by_name) (map length by_dart) ≡ stated w h t ws
    unfolding lengths stated
    stated_lengths = rw (all_sized (slots w h) by_dart, all_sized (w * h + 1) by_name)

    module _ (e : stated w h t ws ≡ true) where
      pub stated_names : Each (w * h + 1) (map length by_name)
      stated_names = each_name (map length by_name) (map length by_dart) (stated_lengths ∙ e)

      pub stated_slots : Each (slots w h) (map length by_dart)
      stated_slots = each_dart (map length by_name) (map length by_dart) (stated_lengths ∙ e)
