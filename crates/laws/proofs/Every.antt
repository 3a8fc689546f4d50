-- A test that goes along a list.
--   every p (drop i l) == the entries from i on pass the test p
--   list_all p l    == every entry passes the test p, as std has it
use mathlib.Core.Path.{◌≡◌, refl}
use mathlib.Core.Bool.{Bool, true, false}
use mathlib.Core.List.{List, [], ◌∷◌}
use Prim.Native.Nat.{ℕ, ◌+◌, ◌≤◌, ◌<◌}
use native.Mathlib.Numerals.{add-one}
use lib.ListN.{length, get_or, drop, drop_of_length-le}
use lib.Seq.{drop-cons}
use Rattle.std.specs.List.{list_all}
use Rattle.laws.specs.Every.{every}

pub every_all : (p : ℕ → Bool) (l : List ℕ) → list_all p l ≡ every p l
unfolding every
every_all p [] = refl
every_all p (x ∷ l) = rw (every_all p l)

module _ (p : ℕ → Bool) (l : List ℕ) where
  -- an entry that fails: not every entry from there on passes
  pub every_stop : (i : ℕ) → i < length l → p (get_or l i 0) ≡ false → every p (drop i l) ≡ false
  unfolding every
  every_stop i h e = rw (drop-cons l i 0, e)

  -- an entry that passes: the rest decides
  pub every_go : (i : ℕ) → i < length l → p (get_or l i 0) ≡ true → every p (drop (i + 1) l) ≡ every p (drop i l)
  unfolding every
  every_go i h e = rw (drop-cons l i 0, e, add-one)

  -- no entry is left
  pub every_end : (i : ℕ) → length l ≤ i → every p (drop i l) ≡ true
  unfolding every
  every_end i h = rw (drop_of_length-le l h)
