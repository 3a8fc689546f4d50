-- Recovering the labels of a sheet.
--   label_at s d v   == the side of dart d by the table s where the dart is present, else v
--   recover w s v i n == the labels of n cells from cell i on, with the label v to the left
--   Recovering w h s l i x d v == l has the labels of the cells before cell i, which is in column x; d is the north dart
--                      of its left line, v the label to its left
use mathlib.Core.Path.{◌≡◌, refl, sym, ◌∙◌}
use mathlib.Core.Bool.{true}
use mathlib.Core.List.{List, ◌∷◌, ◌++◌, append-nil}
use mathlib.Core.Logic.{◌≢◌}
use Prim.Native.Nat.{ℕ, zero, suc, ◌+◌, ◌*◌, ◌/◌, ◌%◌, ◌≤◌, ◌<◌}
use native.Mathlib.Nat.{zero-add, zero-mod, zero-div, div-le_self, mul_comm, mul-suc, add-mul, div-lt_iff_lt-mul}
use native.Mathlib.Numerals.{add-one}
use native.Mathlib.Omega.{arith}
use lib.ListN.{length, set, take, length-set}
use lib.Seq.{take-suc-set, take_all, append_snoc}
use Rattle.sheet_size.specs.Size.{within}
use Rattle.point_darts.specs.Dart.{mark, points, slots, dart}
use Rattle.sheet_size.proofs.Limit.{within_limits}
use Rattle.paper.specs.Joining.{at}
use Rattle.paper.specs.Drawing.{recover, recovered}
use Rattle.point_darts.proofs.Fit.{cells_fit}
use Rattle.laws.proofs.Column.{column_on, column_back, row_on, row_down}
use Rattle.check_call.specs.Label.{label_at}

-- the north dart of the left line of cell i
abbrev hung : ℕ → ℕ → ℕ
hung w i = dart (i + i / w + (w + 1)) 3

pub record Recovering (w h : ℕ) (s l : List ℕ) (i x d v : ℕ) : Type 0 where
  pub column : x ≡ i % w
  pub line : d ≡ hung w i
  pub long : length l ≡ w * h
  pub left : ℕ
  pub ahead : i + left ≡ w * h
  pub same : take i l ++ recover w s v i left ≡ recovered w h s

-- the label of cell i is the first of those from cell i on
recover_more : (w : ℕ) (s : List ℕ) (v i n : ℕ) → recover w s v i (suc n)
    ≡ label_at s (hung w i) v ∷ recover w s (label_at s (hung w i) v) (suc i) n
unfolding recover label_at at
recover_more w s v i n = refl

module _ (w h : ℕ) (s l : List ℕ) where
  pub recovering_none : length l ≡ w * h → Recovering w h s l 0 0 (dart (w + 1) 3) mark
  unfolding recovered dart
  recovering_none e =
      record {
        column = sym (zero-mod w);
        line = omega (arith, zero-div w);
        long = e;
        left = w * h;
        ahead = zero-add (w * h);
        same = refl;
      }

  all : (i v n : ℕ) → i + n ≡ w * h → w * h ≤ i → length l ≡ w * h
      → take i l ++ recover w s v i n ≡ recovered w h s → l ≡ recovered w h s
  unfolding recover
  all i v zero a b e q = rw (append-nil, take_all i l (omega arith)) at q
  all i v (suc n) a b e q = absurd (omega arith)

  -- a label more
  more : (i v : ℕ) → length l ≡ w * h → i < w * h → (n : ℕ) → i + n ≡ w * h
      → take i l ++ recover w s v i n ≡ recovered w h s
      → (m : ℕ) × (i + 1 + m ≡ w * h)
      × (take (i + 1) (set l i (label_at s (hung w i) v)) ++ recover w s (label_at s (hung w i) v) (i + 1) m ≡ recovered w h s)
  more i v e b zero a q = absurd (omega arith)
  more i v e b (suc m) a q =
      let u = label_at s (hung w i) v in
      let k : i < length l = omega arith in
      (m, omega arith, rw (add-one, take-suc-set l i u k, append_snoc, ← recover_more w s v i m) q)

  module _ (i x p v : ℕ) (f : Recovering w h s l i x (dart p 3) v) where
    pub recovering_all : w * h ≤ i → l ≡ recovered w h s
    recovering_all b = all i v f.left f.ahead b f.long f.same

    -- the darts' numbers fit
    pub recovering_fit : within w h ≡ true → i < w * h → dart (p + 2) 3 < mark
    unfolding dart mark
    recovering_fit e b =
        omega (arith, f.line, div-le_self i w, cells_fit w h e, (within_limits w h e).width_most)

    -- and are those of the sheet
    pub recovering_in : 0 < w → i < w * h → dart p 3 < slots w h
    unfolding dart slots points
    recovering_in z b =
        let l : i / w < h = (div-lt_iff_lt-mul z).1 (rw (mul_comm h w) b) in
        rw (add-one h, mul-suc (w + 1) h, add-mul w 1 h) (omega (arith, f.line))

    module _ (d u : ℕ) (g : d ≡ dart p 3) (e : u ≡ label_at s d v) (b : i < w * h) where
      here : u ≡ label_at s (hung w i) v
      here = rw (g, f.line) at e

      step : (m : ℕ) × (i + 1 + m ≡ w * h)
          × (take (i + 1) (set l i u) ++ recover w s u (i + 1) m ≡ recovered w h s)
      step = rw here (more i v f.long b f.left f.ahead f.same)

      -- a cell more, in the row
      pub recovering_on : 0 < w → x + 1 ≢ w → Recovering w h s (set l i u) (i + 1) (x + 1) (dart (p + 1) 3) u
      unfolding dart
      recovering_on z n =
          record {
            column = column_on w z i x f.column n;
            line = omega (arith, f.line, row_on w z i x f.column n);
            long = length-set l i u ∙ f.long;
            left = step.0;
            ahead = step.1;
            same = step.2;
          }

      -- at the end of the row
      pub recovering_down : 0 < w → x + 1 ≡ w → Recovering w h s (set l i u) (i + 1) 0 (dart (p + 1 + 1) 3) u
      unfolding dart
      recovering_down z n =
          record {
            column = column_back w z i x f.column n;
            line = omega (arith, f.line, row_down w z i x f.column n);
            long = length-set l i u ∙ f.long;
            left = step.0;
            ahead = step.1;
            same = step.2;
          }
