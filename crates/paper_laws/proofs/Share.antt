-- Two regions that share a line have cells side by side.
--   Shore w h n p q == two cells side by side, one named p and the other q
use mathlib.Core.Path.{◌≡◌, refl, sym}
use mathlib.Core.Bool.{true}
use mathlib.Core.Logic.{◌≢◌, ◌⊎◌, inl, ⊎_swap}
use mathlib.Core.List.{List}
use Prim.Native.Nat.{ℕ, zero, suc, ◌+◌, ◌*◌, ◌<◌}
use native.Mathlib.Decide.{dec_lt}
use native.Mathlib.Omega.{arith}
use lib.ListN.{get_or}
use Rattle.point_darts.specs.Dart.{line, reversal}
use Rattle.point_darts.proofs.Darts.{every_line}
use Rattle.paper.specs.Name.{named}
use Rattle.paper.specs.Level.{side, border}
use Rattle.paper_laws.proofs.Name.{Beside, beside_row, beside_column}
use Rattle.paper_laws.proofs.Cells.{named_east, named_south}
use Rattle.paper_laws.proofs.First.{named_cell}
use Rattle.paper_laws.proofs.Sheet.{side_east, side_south, side_west, side_north, side_reversal, border_line}
use Rattle.paper_laws.proofs.Sheet.{across, across_east, across_south, across_west, across_north}

pub record Shore (w h : ℕ) (n : List ℕ) (p q : ℕ) : Type 0 where
  pub one : ℕ
  pub two : ℕ
  pub beside : Beside w h one two ⊎ Beside w h two one
  pub first : get_or n one 0 ≡ p
  pub second : get_or n two 0 ≡ q

pub shore_swap : {w h : ℕ} {n : List ℕ} {p q : ℕ} → Shore w h n p q → Shore w h n q p
shore_swap s = record { one = s.two; two = s.one; beside = ⊎_swap s.beside; first = s.second; second = s.first }

module _ (w h : ℕ) (n : List ℕ) where
  -- a cell that bears a name is on the sheet
  on_column : (x y : ℕ) → named w h n (suc x) y ≢ 0 → x < w
  on_column x y z = go (dec_lt x w)
    where
      go : Dec (x < w) → x < w
      go (yes l) = l
      go (no l) = absurd (z (named_east w h n (suc x) y (omega arith)))

  on_row : (x y : ℕ) → named w h n x (suc y) ≢ 0 → y < h
  on_row x y z = go (dec_lt y h)
    where
      go : Dec (y < h) → y < h
      go (yes l) = l
      go (no l) = absurd (z (named_south w h n x (suc y) (omega arith)))

  column_shore : (x y : ℕ) → named w h n (suc x) y ≢ 0 → named w h n (suc x) (suc y) ≢ 0
      → Shore w h n (named w h n (suc x) y) (named w h n (suc x) (suc y))
  unfolding named
  column_shore x zero a b = absurd (a refl)
  column_shore x (suc y) a b =
      let l = on_column x (suc y) a in
      let m = on_row (suc x) (suc y) b in
      record {
        one = y * w + x;
        two = suc y * w + x;
        beside = inl (beside_column w h x y l m);
        first = sym (named_cell w h n x y l (omega arith));
        second = sym (named_cell w h n x (suc y) l m);
      }

  row_shore : (x y : ℕ) → named w h n x (suc y) ≢ 0 → named w h n (suc x) (suc y) ≢ 0
      → Shore w h n (named w h n x (suc y)) (named w h n (suc x) (suc y))
  unfolding named
  row_shore zero y a b = absurd (a refl)
  row_shore (suc x) y a b =
      let l = on_column (suc x) (suc y) b in
      let m = on_row (suc x) y a in
      record {
        one = y * w + x;
        two = y * w + suc x;
        beside = inl (beside_row w h x y l m);
        first = sym (named_cell w h n x y (omega arith) m);
        second = sym (named_cell w h n (suc x) y l m);
      }

  line_shore : (d : ℕ) → line w h d ≡ true → side w h n d ≢ 0 → across w h n d ≢ 0 → Shore w h n (side w h n d) (across w h n d)
  line_shore =
      every_line w h (λ d. side w h n d ≢ 0 → across w h n d ≢ 0 → Shore w h n (side w h n d) (across w h n d))
      (λ x y l m. rw (side_east w h n x y (omega arith), across_east w h n x y (omega arith)) (λ a b. shore_swap (column_shore x y b a)))
      (λ x y l m. rw (side_south w h n x y l, across_south w h n x y l) (row_shore x y))
      (λ x y l m. rw (side_west w h n (suc x) y (omega arith), across_west w h n (suc x) y (omega arith)) (column_shore x y))
      (λ x y l m. rw (side_north w h n x (suc y) l, across_north w h n x (suc y) l) (λ a b. shore_swap (row_shore x y b a)))

  -- the two sides of a line of level 1, neither of them the outside
  pub border_shore : (d : ℕ) → border w h n d ≡ true → side w h n d ≢ 0 → side w h n (reversal w d) ≢ 0
      → Shore w h n (side w h n d) (side w h n (reversal w d))
  border_shore d e a b =
      let l = border_line w h n d e in
      rw (side_reversal w h n d l) (line_shore d l a (rw (side_reversal w h n d l) at b))
