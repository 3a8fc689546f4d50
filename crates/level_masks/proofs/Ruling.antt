-- The lines of the sheet at each point.
--   ruled w h       == the table of the masks of every line of the sheet
--   Ruling w h i x y o t == the first i entries of t are those masks; point i is in column x and row y
use mathlib.Core.Path.{◌≡◌, refl, sym, ap, ◌∙◌}
use mathlib.Core.List.{List}
use Prim.Native.Nat.{ℕ, ◌+◌, ◌*◌, ◌/◌, ◌%◌, ◌≤◌, ◌<◌}
use native.Mathlib.Nat.{zero-mod, zero-div, mod-lt, div-le_self, div-lt_iff_lt-mul, mul_comm}
use native.Mathlib.Omega.{arith}
use lib.Dec.{ltb}
use lib.ListN.{length, set}
use borrow.Author.Tests.{le-leb}
use Rattle.laws.specs.Table.{number}
use Rattle.point_darts.specs.Dart.{points, dart, stays, line}
use Rattle.point_darts.specs.Point.{bits}
use Rattle.point_darts.proofs.Darts.{point_dart, direction_dart}
use Rattle.point_darts.proofs.Points.{bits_same}
use Rattle.paper.specs.Level.{mask}
use Rattle.laws.proofs.Column.{column_on, column_back, row_on, row_down}
use Rattle.level_masks.specs.Mask.{ruled}
use Rattle.table_entries.proofs.Filled.{Filled, filled_none, filled_more, filled_all}

module _ (w h p : ℕ) (b : p < points w h) where
  row_in : p / (w + 1) ≤ h
  unfolding points
  row_in =
      let z : 0 < w + 1 = omega arith in
      let c : p < (h + 1) * (w + 1) = rw (mul_comm (h + 1) (w + 1)) b in
      let d = (div-lt_iff_lt-mul {x = p} {y = h + 1} z).1 c in
      omega arith

  line_at : (k : ℕ) → k < 4 → line w h (dart p k) ≡ stays w h (p % (w + 1)) (p / (w + 1)) k
  unfolding line
  line_at k l = rw (point_dart p k l, direction_dart p k l, le-leb (p / (w + 1)) h row_in)

  pub ruling_at : (x y v : ℕ) → x ≡ p % (w + 1) → y ≡ p / (w + 1)
      → v ≡ number (ltb x w) + 2 * number (ltb y h) + 4 * number (ltb 0 x) + 8 * number (ltb 0 y) → v ≡ mask (line w h) p
  unfolding mask
  ruling_at x y v e f g =
      g ∙ rw (e, f) (sides ∙ sym (bits_same (λ k. line w h (dart p k)) (stays w h (p % (w + 1)) (p / (w + 1))) line_at))
    where
      sides : number (ltb (p % (w + 1)) w) + 2 * number (ltb (p / (w + 1)) h) + 4 * number (ltb 0 (p % (w + 1)))
          + 8 * number (ltb 0 (p / (w + 1)))
          ≡ bits (stays w h (p % (w + 1)) (p / (w + 1)))
      sides = unfold bits stays in refl

pub record Ruling (w h i x y : ℕ) (o t : List ℕ) : Type 0 where
  pub filled : Filled (points w h) (mask (line w h)) i o t
  pub column : x ≡ i % (w + 1)
  pub row : y ≡ i / (w + 1)

module _ (w h : ℕ) (o : List ℕ) where
  pub ruling_none : length o ≡ points w h → Ruling w h 0 0 0 o o
  ruling_none e =
      record {
        filled = filled_none (points w h) (mask (line w h)) o e;
        column = sym (zero-mod (w + 1));
        row = sym (zero-div (w + 1));
      }

  module _ (i x y : ℕ) (t : List ℕ) (r : Ruling w h i x y o t) where
    pub ruling_column : x ≤ w
    ruling_column = omega (arith, r.column, mod-lt i {m = w + 1} (omega arith))

    pub ruling_row : y ≤ i
    ruling_row = omega (arith, r.row, div-le_self i (w + 1))

    pub ruling_on : (v : ℕ) → i < points w h
        → v ≡ number (ltb x w) + 2 * number (ltb y h) + 4 * number (ltb 0 x) + 8 * number (ltb 0 y) → x + 1 ≤ w
        → Ruling w h (i + 1) (x + 1) y o (set t i v)
    ruling_on v b e d =
        record {
          filled = filled_more (points w h) (mask (line w h)) i o t r.filled v b
              (ruling_at w h i b x y v r.column r.row e);
          column = column_on (w + 1) (omega arith) i x r.column (omega arith);
          row = r.row ∙ row_on (w + 1) (omega arith) i x r.column (omega arith);
        }

    pub ruling_down : (v : ℕ) → i < points w h
        → v ≡ number (ltb x w) + 2 * number (ltb y h) + 4 * number (ltb 0 x) + 8 * number (ltb 0 y) → w < x + 1
        → Ruling w h (i + 1) 0 (y + 1) o (set t i v)
    ruling_down v b e d =
        let p : x + 1 ≡ w + 1 = omega (arith, ruling_column) in
        record {
          filled = filled_more (points w h) (mask (line w h)) i o t r.filled v b
              (ruling_at w h i b x y v r.column r.row e);
          column = column_back (w + 1) (omega arith) i x r.column p;
          row = ap (λ k. k + 1) r.row ∙ row_down (w + 1) (omega arith) i x r.column p;
        }

    pub ruling_all : points w h ≤ i → t ≡ ruled w h
    unfolding ruled
    ruling_all b = filled_all (points w h) (mask (line w h)) i o t r.filled b
