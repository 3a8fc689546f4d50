-- The names of the cells, by column and row of a place.
--   named w h n x y == the name of the cell north-west of the place in column x and row y; 0 off the sheet
--   block a b c d   == the four cells: a and b in the north, c and d in the south
use mathlib.Core.Path.{◌≡◌, refl, sym, ap, ◌∙◌}
use mathlib.Core.Bool.{Bool, true, false, cond, ◌&&◌, and-false}
use mathlib.Core.List.{List, [], ◌∷◌, map}
use Prim.Native.Nat.{ℕ, zero, suc, ◌+◌, ◌*◌, ◌/◌, ◌%◌, ◌<◌, ◌≤◌}
use native.Mathlib.Omega.{arith}
use lib.Dec.{ltb}
use lib.ListN
use lib.ListN.{get_or}
use borrow.Author.Tests.{le-ltb}
use Rattle.point_darts.specs.Dart.{turned}
use Rattle.point_darts.specs.Point.{corner, right, left}
use Rattle.paper.specs.Name.{named, cells}
use Rattle.point_darts.proofs.Darts.{four, place, column, row, turned_below}
use Rattle.point_darts.proofs.Points.{left_right}

abbrev pub block : ℕ → ℕ → ℕ → ℕ → List (List ℕ)
block a b c d = (a ∷ b ∷ []) ∷ (c ∷ d ∷ []) ∷ []

module _ (w h : ℕ) (n : List ℕ) where
  pub named_west : (y : ℕ) → named w h n 0 y ≡ 0
  unfolding named
  named_west y = refl

  pub named_north : (x : ℕ) → named w h n x 0 ≡ 0
  unfolding named
  named_north zero = refl
  named_north (suc x) = refl

  pub named_east : (x y : ℕ) → w < x → named w h n x y ≡ 0
  unfolding named
  named_east zero y l = refl
  named_east (suc x) zero l = refl
  named_east (suc x) (suc y) l = let k : w ≤ x = omega arith in rw (le-ltb x w k)

  pub named_south : (x y : ℕ) → h < y → named w h n x y ≡ 0
  unfolding named
  named_south zero y l = refl
  named_south (suc x) zero l = refl
  named_south (suc x) (suc y) l = let k : h ≤ y = omega arith in rw (le-ltb y h k, and-false)

  pub cells_place : (x y : ℕ) → x ≤ w
      → cells w h n (place w x y)
      ≡ block (named w h n x y) (named w h n (suc x) y) (named w h n x (suc y)) (named w h n (suc x) (suc y))
  unfolding cells
  cells_place x y l = rw (column w x y l, row w x y l)

-- renaming the cells, the outside keeping its name 0, renames both hands
module _ (w h : ℕ) (n : List ℕ) (f : ℕ → ℕ) (z : f 0 ≡ 0) where
  get_or_map : (i : ℕ) → get_or (map f n) i 0 ≡ f (get_or n i 0)
  get_or_map i = rw z at (ListN.get_or-map f n i 0)

  cond_map : (b : Bool) (i : ℕ) → cond b (get_or (map f n) i 0) 0 ≡ f (cond b (get_or n i 0) 0)
  cond_map true i = get_or_map i
  cond_map false i = sym z

  pub named_map : (x y : ℕ) → named w h (map f n) x y ≡ f (named w h n x y)
  unfolding named
  named_map zero y = sym z
  named_map (suc x) zero = sym z
  named_map (suc x) (suc y) = cond_map (ltb x w && ltb y h) (y * w + x)

  pub right_map : (p k : ℕ) → k < 4 → right (cells w h (map f n) p) k ≡ f (right (cells w h n p) k)
  unfolding right corner cells
  right_map p =
      let x = p % (w + 1) in
      let y = p / (w + 1) in
      four (λ k. right (cells w h (map f n) p) k ≡ f (right (cells w h n p) k))
      (named_map (suc x) (suc y)) (named_map x (suc y)) (named_map x y) (named_map (suc x) y)

  pub left_map : (p k : ℕ) → k < 4 → left (cells w h (map f n) p) k ≡ f (left (cells w h n p) k)
  left_map p k b =
      left_right (cells w h (map f n) p) k b ∙ right_map p (turned k 3) (turned_below k 3)
      ∙ ap f (sym (left_right (cells w h n p) k b))
