-- The corner of a cell, and the parents of the names row by row.
--   parent_from ..   == the parent of a name from the corner of its first cell
--   Parented w h f s t y k n == t has the parents by f of the names of the first y rows of cells, the others are those of s; the
--                      corners of row y begin with k, its names with n
use mathlib.Core.Path.{◌≡◌, refl, sym, ◌∙◌}
use mathlib.Core.Bool.{Bool, true, false, cond, ◌&&◌}
use mathlib.Core.List.{List}
use mathlib.Core.Logic.{◌≢◌}
use Prim.Native.Nat.{ℕ, suc, ◌+◌, ◌*◌, ◌≤◌, ◌<◌}
use native.Mathlib.Nat.{mul_comm, mul-le-mul_right}
use native.Mathlib.Omega.{arith}
use lib.Dec.{lit<}
use lib.ListN.{length, get_or, set}
use lib.Seq.{get_or-set_same}
use borrow.Author.Tests.{eq-eqb, ne_eqb}
use Rattle.laws.specs.Table.{table}
use Rattle.point_darts.specs.Dart.{mark, points, dart, reversal}
use Rattle.point_darts.proofs.Darts.{point_dart, place, place_below, east_back}
use Rattle.paper.specs.Enclosure.{parent}
use Rattle.paper.specs.Joining.{at, on}
use Rattle.paper_laws.proofs.First.{top_side_cell}
use Rattle.table_entries.specs.Row.{rowed}
use Rattle.table_entries.proofs.Entries.{at_entry, on_entry}
use Rattle.table_entries.proofs.Half.{Half, half_all}
use Rattle.table_entries.proofs.Rowed.{filled_row}
use Rattle.region_parents.specs.Corner.{parent_from}

-- The dart that leads back from the dart east leaves the next point west.
back_east : (w p j : ℕ) → j ≡ dart (p + 1) 0 → reversal w (dart p 0) ≡ j + 2
unfolding dart
back_east w p j e = east_back w p ∙ omega arith

-- The parent of a name from a point k, whose first slot is i.
and_false : {A : Type 0} (b : Bool) (x y : A) → y ≡ cond (b && false) x y
and_false true x y = refl
and_false false x y = refl

module _ (w : ℕ) (s t : List ℕ) (k n i : ℕ) (e : i ≡ dart k 0) (b : i < length s) where
  own : at s (dart k 0) ≡ get_or s i 0
  own = rw (← e) (at_entry s i b)

  pub parent_unused : get_or s i 0 ≢ n → mark ≡ parent_from w s t k n
  unfolding parent_from
  parent_unused m =
      rw (ne_eqb (at s (dart k 0)) n (λ q. m (sym own ∙ q)))
      (and_false (on s (dart k 0)) (at s (reversal w (dart (get_or t k 0) 0))) mark)

  -- the first slot of the point after the top is j
  pub parent_used : get_or s i 0 ≡ n → n < mark → (j : ℕ) → j ≡ dart (get_or t k 0 + 1) 0 → j + 2 < length s
      → get_or s (j + 2) 0 ≡ parent_from w s t k n
  unfolding parent_from
  parent_used p l j q c =
      rw (eq-eqb (at s (dart k 0)) n (own ∙ p), on_entry s (dart k 0) (λ z. omega (arith, own)), back_east w (get_or t k 0) j q)
      (sym (at_entry s (j + 2) c))

-- The parent of the name of a cell is found from the cell's corner.
pub parent_corner : (w x y : ℕ) (s t : List ℕ) → x < w
    → parent_from w s t (place w x y) (suc (y * w + x)) ≡ parent w (on s) (at s) t (suc (y * w + x))
unfolding parent parent_from
parent_corner w x y s t b = rw (top_side_cell w x y b, point_dart (place w x y) 0 (lit< tt))

-- The names row by row.
pub record Parented (w h : ℕ) (f : ℕ → ℕ) (s t : List ℕ) (y k n : ℕ) : Type 0 where
  pub half : Half f n s t
  pub row : y ≤ h
  pub corner : k ≡ place w 0 y
  pub name : n ≡ y * w + 1

module _ (w h : ℕ) (d u : List ℕ) where
  abbrev f : ℕ → ℕ
  f = parent w (on d) (at d) u

  -- the outside has the mark
  pub parented_none : (s : List ℕ) → 0 < length s → Parented w h f (set s 0 mark) (set s 0 mark) 0 0 1
  unfolding parent place
  parented_none s b =
      record {
        half = record {
          done = λ k h. let e : k ≡ 0 = omega arith in rw (e, get_or-set_same s 0 mark 0 b);
          rest = λ k h. refl;
          long = refl;
        };
        row = omega arith;
        corner = omega arith;
        name = omega arith;
      }

  module _ (s t : List ℕ) (y k n : ℕ) (p : Parented w h f s t y k n) (b : y < h) where
    -- a row more is on the sheet
    pub corners_in : k + w < points w h
    unfolding place
    corners_in = omega (arith, place_below w h w y (omega arith) (omega arith), p.corner)

    pub names_in : n + w ≤ w * h + 1
    names_in = omega (arith, mul-le-mul_right w b, mul_comm w h, p.name)

    -- a row more
    pub parented_row : length s ≡ w * h + 1 → (v : List ℕ) → v ≡ rowed (λ x. parent_from w d u (k + x) (n + x)) n w t
        → Parented w h f s v (y + 1) (k + (w + 1)) (n + w)
    unfolding place
    parented_row l v e =
        record {
          half = rw e (filled_row (length s) f (λ x. parent_from w d u (k + x) (n + x)) n s t p.half w
              (omega (arith, names_in)) here);
          row = omega arith;
          corner = omega (arith, p.corner);
          name = omega (arith, p.name);
        }
      where
        here : (x : ℕ) → x < w → parent_from w d u (k + x) (n + x) ≡ f (n + x)
        here x c =
            let i : k + x ≡ place w x y = omega (arith, p.corner) in
            let j : n + x ≡ suc (y * w + x) = omega (arith, p.name) in
            rw (i, j) (parent_corner w x y d u c)

  -- all rows
  pub parented_all : (s t : List ℕ) (y k n : ℕ) → Parented w h f s t y k n → length s ≡ w * h + 1 → h ≤ y
      → t ≡ table (w * h + 1) f
  parented_all s t y k n p l b =
      let e : y ≡ h = omega (arith, p.row) in
      let c : n ≡ w * h + 1 = p.name ∙ rw e (omega (arith, mul_comm w h)) in
      half_all f (w * h + 1) n s t p.half l (omega arith)
