-- Lists that a loop fills from the front, and parts of lists.
--   take i l ≡ take i t == the lists l and t agree below i
use mathlib.Core.Path.{◌≡◌, sym, ap, ◌∙◌}
use mathlib.Core.List.{List, [], ◌∷◌, ◌++◌}
use Prim.Native.Nat.{ℕ, zero, suc, ◌+◌, ◌-◌, ◌≤◌, ◌<◌}
use native.Mathlib.Nat.{le_refl, sub-zero, zero-sub, suc-sub-suc}
use native.Mathlib.Numerals.{add-one}
use native.Mathlib.Omega.{arith}
use lib.ListN.{length, get_or, take, drop, set, length-drop}
use lib.Seq.{slice, take-nil, take_all, take-suc, take-suc-set, get_or-append-add}

-- one more entry is set to what is wanted
pub fill_more : (l t : List ℕ) (i a : ℕ) → i < length l → i < length t → take i l ≡ take i t → a ≡ get_or t i 0
    → take (i + 1) (set l i a) ≡ take (i + 1) t
fill_more l t i a h k e q = rw (add-one, take-suc-set l i a h, take-suc t i 0 k, e, q)

-- every entry is set
pub fill_end : (l t : List ℕ) (i : ℕ) → length l ≤ i → length t ≤ i → take i l ≡ take i t → l ≡ t
fill_end l t i h k e = sym (take_all i l h) ∙ e ∙ take_all i t k

-- what follows the first a entries
pub rest_all : (a : ℕ) (l : List ℕ) → take (length l - a) (drop a l) ≡ drop a l
rest_all a l = take_all (length l - a) (drop a l) (rw length-drop (le_refl _))

-- the entries from a up to e
pub part_slice : (a e : ℕ) (l : List ℕ) → take (e - a) (drop a l) ≡ slice a e l
part_slice zero e l = rw sub-zero
part_slice (suc a) zero l = rw (zero-sub (suc a))
part_slice (suc a) (suc e) [] = take-nil (suc e - suc a)
part_slice (suc a) (suc e) (x ∷ l) = rw (suc-sub-suc) (part_slice a e l)

-- an entry past the first of two lists
pub get_or_past : (l m : List ℕ) (i : ℕ) → length l ≤ i → get_or (l ++ m) i 0 ≡ get_or m (i - length l) 0
get_or_past l m i h =
    let e : length l + (i - length l) ≡ i = omega arith in
    ap (λ j. get_or (l ++ m) j 0) (sym e) ∙ get_or-append-add l m (i - length l) 0
