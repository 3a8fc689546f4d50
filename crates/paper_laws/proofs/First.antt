-- The cells by column and row, and the darts along their top sides.
--   named w h n x y == the name of the cell north-west of the place in column x and row y; 0 off the sheet
--   Touch x y u v   == the cell in column u and row v is one of the four round the place in column x and row y
--   top_side w i     == the dart that runs east along the top side of cell i
--   every_cell      == a law of the cells by column and row is a law of every cell
--   used w h s i    == the name suc i is in use: the top side of cell i is a line, and bears that name
use mathlib.Core.Path.{◌≡◌, refl, sym, ap, ◌∙◌}
use mathlib.Core.Bool.{Bool, true, false, cond, ◌&&◌}
use mathlib.Core.List.{List}
use mathlib.Core.Logic.{◌≢◌}
use Prim.Native.Nat.{ℕ, zero, suc, ◌+◌, ◌*◌, ◌/◌, ◌%◌, ◌<◌, ◌≤◌, zero-le}
use native.Mathlib.Nat.{zero-mul, suc-mul, add-zero, mul_comm, mod-lt, div-add-mod', div-lt_iff_lt-mul, div-eq_of_lt}
use native.Mathlib.Nat.{mul-add-div_right}
use native.Mathlib.Omega.{arith}
use lib.Dec.{eqb, ltb}
use lib.ListN.{get_or}
use borrow.Author.Tests.{lt-ltb, ltb-true, eqb-true, eq-eqb}
use Rattle.laws.proofs.Test.{and_true, and_right}
use Rattle.laws.proofs.Parity.{Touch, north_west, north_east, south_west, south_east}
use Rattle.point_darts.specs.Dart.{dart, point, direction}
use Rattle.point_darts.specs.Point.{corner, right}
use Rattle.point_darts.proofs.Darts.{four, place, direction_below}
use Rattle.paper.specs.Name.{names, named, cells}
use Rattle.paper.specs.Level.{border, side}
use Rattle.paper.specs.Enclosure.{top_side}
use Rattle.paper_laws.proofs.Name.{cell_below, name_range}
use Rattle.paper_laws.proofs.Sheet.{side_east, across_east, differs_border}

module _ (w h : ℕ) where
  pub every_cell : (P : ℕ → Type 0) → ((x y : ℕ) → x < w → y < h → P (y * w + x)) → (i : ℕ) → i < w * h → P i
  every_cell P f i b =
      let z : 0 < w = wide w b in
      let l : i / w < h = (div-lt_iff_lt-mul z).1 (rw (mul_comm h w) b) in
      rw (div-add-mod' i w) at (f (i % w) (i / w) (mod-lt i z) l)
    where
      wide : (w : ℕ) → i < w * h → 0 < w
      wide zero b = absurd (omega (arith, zero-mul h))
      wide (suc w) b = omega arith

pub top_side_cell : (w x y : ℕ) → x < w → top_side w (y * w + x) ≡ dart (place w x y) 0
unfolding top_side place
top_side_cell w x y l =
    let z : 0 < w = omega arith in
    let e : (y * w + x) / w ≡ y = mul-add-div_right z y x ∙ ap (λ i. y + i) (div-eq_of_lt l) ∙ add-zero y in
    rw e (ap (λ p. dart p 0) (let e : y * w + x + y ≡ y * (w + 1) + x = omega arith in e))

module _ (w h : ℕ) (n : List ℕ) where
  pub named_cell : (x y : ℕ) → x < w → y < h → named w h n (suc x) (suc y) ≡ get_or n (y * w + x) 0
  unfolding named
  named_cell x y a b = rw (lt-ltb x w a, lt-ltb y h b)

  -- the name of a place is 0, or that of the cell north-west of it
  pub named_cases : (P : ℕ → Type 0) (x y : ℕ) → P 0
      → ((a b : ℕ) → x ≡ suc a → y ≡ suc b → a < w → b < h → P (get_or n (b * w + a) 0)) → P (named w h n x y)
  unfolding named
  named_cases P zero y z f = z
  named_cases P (suc x) zero z f = z
  named_cases P (suc x) (suc y) z f = go (ltb x w) (ltb y h) refl refl
    where
      go : (a b : Bool) → ltb x w ≡ a → ltb y h ≡ b → P (cond (a && b) (get_or n (y * w + x) 0) 0)
      go true true p q = f x y refl refl (ltb-true x w p) (ltb-true y h q)
      go true false p q = z
      go false b p q = z

  -- the side of a dart is the name of one of the four cells round its point
  pub side_named : (d : ℕ)
      → (x : ℕ) × (y : ℕ) × Touch (point d % (w + 1)) (point d / (w + 1)) x y × (side w h n d ≡ named w h n x y)
  unfolding side cells right corner
  side_named d =
      let x = point d % (w + 1) in
      let y = point d / (w + 1) in
      four (λ k. (u : ℕ) × (v : ℕ) × Touch x y u v × (right (cells w h n (point d)) k ≡ named w h n u v))
      (suc x, suc y, south_east, refl) (x, suc y, south_west, refl) (x, y, north_west, refl) (suc x, y, north_east, refl)
      (direction d) (direction_below d)

  -- the dart along the top side of a cell has the cell on its right
  pub top_side_name : (i : ℕ) → i < w * h → side w h n (top_side w i) ≡ get_or n i 0
  top_side_name = every_cell w h (λ i. side w h n (top_side w i) ≡ get_or n i 0)
      (λ x y a b. rw (top_side_cell w x y a) (side_east w h n x y (let l : x ≤ w = omega arith in l) ∙ named_cell x y a b))

-- The names of a sheet of labels s.
module _ (w h : ℕ) (s : List ℕ) where
  -- a cell in the rows above row y has a name of at most y w
  pub named_above : (x y : ℕ) → named w h (names w h s) x y ≤ y * w
  named_above x y =
      named_cases w h (names w h s) (λ v. v ≤ y * w) x y zero-le
      (λ a b p q l m.
      let r = name_range w h s (b * w + a) (cell_below w h a b l m) in
      rw q (omega (arith, suc-mul b w)))

  -- the first cell of a region has another region, or the outside, to the north
  pub top_side_on : (i : ℕ) → i < w * h → get_or (names w h s) i 0 ≡ suc i → border w h (names w h s) (top_side w i) ≡ true
  top_side_on =
      let n = names w h s in
      every_cell w h (λ i. get_or n i 0 ≡ suc i → border w h n (top_side w i) ≡ true)
      (λ x y a b e.
      let l : x ≤ w = omega arith in
      rw (top_side_cell w x y a)
      (differs_border w h n (dart (place w x y) 0)
      (λ q.
      let u = sym (side_east w h n x y l ∙ named_cell w h n x y a b ∙ e) ∙ q ∙ across_east w h n x y l in
      omega (arith, named_above (suc x) y))))

  abbrev pub used : ℕ → Bool
  used i = border w h (names w h s) (top_side w i) && eqb (side w h (names w h s) (top_side w i)) (suc i)

  -- a name is in use exactly where it is its cell's own
  module _ (i : ℕ) (b : i < w * h) where
    pub top_side_own : get_or (names w h s) i 0 ≡ suc i → side w h (names w h s) (top_side w i) ≡ suc i
    top_side_own e = top_side_name w h (names w h s) i b ∙ e

    pub own_used : get_or (names w h s) i 0 ≡ suc i → used i ≡ true
    own_used e = and_true (top_side_on i b e) (eq-eqb _ _ (top_side_own e))

    pub used_own : used i ≡ true → get_or (names w h s) i 0 ≡ suc i
    used_own e =
        let n = names w h s in
        sym (top_side_name w h n i b)
        ∙ eqb-true (side w h n (top_side w i)) (suc i)
        (and_right (border w h n (top_side w i)) (eqb (side w h n (top_side w i)) (suc i)) e)

    pub other_unused : get_or (names w h s) i 0 ≢ suc i → used i ≡ false
    other_unused f = go (used i) refl
      where
        go : (t : Bool) → used i ≡ t → used i ≡ false
        go true u = absurd (f (used_own u))
        go false u = u
