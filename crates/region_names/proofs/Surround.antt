-- The names with the outside round them.
--   named w h n x y == the name of the cell in column x - 1 and row y - 1, 0 outside
--   framed w h n    == in rows of w + 1, for each point the name of the cell north-west of it
--   named_at w h n k == the name at place k, in rows of w + 1
--   Framed w h l k t == the first k entries of t are the names at their places, 1 plus those of l; the others are 0
--   Framing w h l t y i k == the first y rows of cells are framed; those of row y are from i on, its names from k on
use mathlib.Core.Path.{◌≡◌, refl, sym, ap₂, ◌∙◌}
use mathlib.Core.Bool.{Bool, true, false, ◌&&◌}
use mathlib.Core.List.{List, [], ◌∷◌, map}
use Prim.Native.Nat.{ℕ, zero, suc, ◌+◌, ◌*◌, ◌/◌, ◌%◌, ◌≤◌, ◌<◌}
use native.Mathlib.Nat.{
  div-eq_of_lt,
  le-div_iff_mul-le,
  add-mod_right,
  add-div_right,
  mul_comm,
  mul-le-mul_right,
}
use native.Mathlib.Decide.{ℕ_discrete, dec_lt}
use native.Mathlib.Numerals.{add-one}
use native.Mathlib.Omega.{arith}
use lib.Dec.{ltb}
use borrow.Author.Tests.{lt-ltb, le-ltb}
use lib.ListN.{length, get_or, replicate, length-replicate, get_or-replicate}
use Rattle.laws.proofs.Table.{get_or_table, get_or_map}
use Rattle.point_darts.specs.Dart.{points}
use Rattle.point_darts.proofs.Darts.{place, column, row, place_below}
use Rattle.paper.specs.Name.{named, cells}
use Rattle.paper_laws.proofs.Name.{cell_below}
use Rattle.region_names.specs.Frame.{surround, framed}
use Rattle.laws.proofs.Column.{column_on, column_back, row_on}
use Rattle.table_entries.specs.Row.{rowed}
use Rattle.table_entries.proofs.Filled.{Filled, filled_none, filled_on, filled_all}
use Rattle.table_entries.proofs.Rowed.{filled_row}

-- The outside.
and_false : (a b : Bool) → b ≡ false → (a && b) ≡ false
and_false true b e = e
and_false false b e = refl

module _ (w h : ℕ) (n : List ℕ) where
  named_west : (x y : ℕ) → x ≡ 0 → 0 ≡ named w h n x y
  unfolding named
  named_west x y e = rw e

  north_zero : (x : ℕ) → 0 ≡ named w h n x 0
  unfolding named
  north_zero zero = refl
  north_zero (suc x) = refl

  named_north : (x y : ℕ) → y ≡ 0 → 0 ≡ named w h n x y
  named_north x y e = rw e (north_zero x)

  named_south : (x y : ℕ) → h < y → 0 ≡ named w h n x y
  unfolding named
  named_south zero y d = refl
  named_south (suc x) zero d = refl
  named_south (suc x) (suc y) d = rw (and_false (ltb x w) (ltb y h) (le-ltb y h (omega arith)))

  named_east : (x y : ℕ) → w ≤ x → 0 ≡ named w h n (suc x) y
  unfolding named
  named_east x zero d = refl
  named_east x (suc y) d = rw (le-ltb x w d)

-- A cell of the sheet.
module _ (w h : ℕ) where
  named_cell : (l : List ℕ) (x y : ℕ) → length l ≡ w * h → x < w → y < h
      → suc (get_or l (y * w + x) 0) ≡ named w h (map suc l) (suc x) (suc y)
  unfolding named
  named_cell l x y q a b =
      let k : y * w + x < length l = rw q (cell_below w h x y a b) in
      rw (lt-ltb x w a, lt-ltb y h b) (sym (get_or_map suc l (y * w + x) 0 0 k))

-- The name at place k.
abbrev pub named_at : ℕ → ℕ → List ℕ → ℕ → ℕ
named_at w h n k = named w h n (k % (w + 1)) (k / (w + 1))

-- The four cells round a point.
module _ (w h : ℕ) (n : List ℕ) where
  pub framed_at : (k : ℕ) → k < points w h + w + 2 → get_or (framed w h n) k 0 ≡ named_at w h n k
  unfolding framed
  framed_at k b = get_or_table (points w h + w + 2) (named_at w h n) k 0 b

  -- past the end of a row lies the outside, and so it does before the start of the next
  east : (r : ℕ → ℕ) (p : ℕ)
      → named w h n ((p + 1) % (w + 1)) (r ((p + 1) / (w + 1))) ≡ named w h n (suc (p % (w + 1))) (r (p / (w + 1)))
  east r p = go (ℕ_discrete (p % (w + 1) + 1) (w + 1))
    where
      go : Dec (p % (w + 1) + 1 ≡ w + 1)
          → named w h n ((p + 1) % (w + 1)) (r ((p + 1) / (w + 1))) ≡ named w h n (suc (p % (w + 1))) (r (p / (w + 1)))
      go (yes e) =
          let f = column_back (w + 1) (omega arith) p (p % (w + 1)) refl e in
          let o = named_west w h n ((p + 1) % (w + 1)) (r ((p + 1) / (w + 1))) (sym f) in
          sym o ∙ named_east w h n (p % (w + 1)) (r (p / (w + 1))) (omega arith)
      go (no e) =
          let f = column_on (w + 1) (omega arith) p (p % (w + 1)) refl e in
          let g = row_on (w + 1) (omega arith) p (p % (w + 1)) refl e in
          rw (← f, ← g, add-one (p % (w + 1)))

  -- a row on
  south : (p : ℕ) → named_at w h n (p + (w + 1)) ≡ named w h n (p % (w + 1)) (suc (p / (w + 1)))
  south p =
      ap₂ (named w h n) (add-mod_right p (w + 1)) (add-div_right p {k = w + 1} (omega arith) ∙ add-one (p / (w + 1)))

  pub cells_framed : (p : ℕ) → p < points w h
      → cells w h n p
      ≡ ((get_or (framed w h n) p 0 ∷ get_or (framed w h n) (p + 1) 0 ∷ [])
      ∷ (get_or (framed w h n) (p + (w + 1)) 0 ∷ get_or (framed w h n) (p + (w + 2)) 0 ∷ [])
      ∷ [])
  unfolding cells
  cells_framed p b =
      let e : p + (w + 2) ≡ p + 1 + (w + 1) = omega arith in
      rw (framed_at p (omega arith), framed_at (p + 1) (omega arith), framed_at (p + (w + 1)) (omega arith))
      (rw (framed_at (p + (w + 2)) (omega arith), e, south p, south (p + 1), east (λ y. y) p, east suc p))

-- The outside by places: the first row, the start of a row, what is past the rows.
module _ (w h : ℕ) (n : List ℕ) where
  pub outside_north : (k : ℕ) → k < w + 1 → 0 ≡ named_at w h n k
  outside_north k b = named_north w h n _ _ (div-eq_of_lt b)

  pub outside_west : (k y : ℕ) → k ≡ place w 0 y → 0 ≡ named_at w h n k
  outside_west k y e = named_west w h n _ _ (rw e (column w 0 y (omega arith)))

  pub outside_south : (k : ℕ) → points w h ≤ k → 0 ≡ named_at w h n k
  unfolding points
  outside_south k b =
      named_south w h n _ _ ((le-div_iff_mul-le {k = w + 1} (omega arith)).1 (omega (arith, mul_comm (w + 1) (h + 1))))

-- The names framed up to place k, and 0 from there on.
abbrev pub Framed : ℕ → ℕ → List ℕ → ℕ → List ℕ → Type 0
Framed w h l k t = Filled (surround w h) (named_at w h (map suc l)) k (replicate (surround w h) 0) t

-- The names framed up to row y of the cells: its cells are from place i on, its names go to the places from k on.
pub record Framing (w h : ℕ) (l t : List ℕ) (y i k : ℕ) : Type 0 where
  pub filled : Framed w h l k t
  pub row : y ≤ h
  pub from : i ≡ y * w
  pub to : k ≡ place w 1 (suc y)

module _ (w h : ℕ) (l : List ℕ) where
  -- up to place j all is outside
  blank_on : (t : List ℕ) (i j : ℕ) → Framed w h l i t → i ≤ j → j ≤ surround w h
      → ((k : ℕ) → i ≤ k → k < j → 0 ≡ named_at w h (map suc l) k) → Framed w h l j t
  blank_on t i j r a b e =
      filled_on (surround w h) (named_at w h (map suc l)) i (replicate (surround w h) 0) t r j a
      (λ k c d. get_or-replicate (surround w h) k 0 0 (omega arith) ∙ e k c d)

  pub framing_none : (n : ℕ) (t : List ℕ) → n ≡ surround w h → t ≡ replicate n 0 → Framing w h l t 0 0 (w + 2)
  unfolding place
  framing_none n t a e =
      let m : ℕ = surround w h in
      let o : List ℕ = replicate m 0 in
      let r : Framed w h l 0 o = filled_none m (named_at w h (map suc l)) o (length-replicate m 0) in
      record {
        filled = rw (e, a) (blank_on o 0 (w + 2) r (omega arith) (omega arith) (λ k b c. outside_start k c));
        row = omega arith;
        from = omega arith;
        to = omega arith;
      }
    where
      outside_start : (k : ℕ) → k < w + 2 → 0 ≡ named_at w h (map suc l) k
      outside_start k b = go (dec_lt k (w + 1))
        where
          go : Dec (k < w + 1) → 0 ≡ named_at w h (map suc l) k
          go (yes c) = outside_north w h (map suc l) k c
          go (no c) = outside_west w h (map suc l) k 1 (omega arith)

  module _ (t : List ℕ) (y i k : ℕ) (f : Framing w h l t y i k) where
    -- a row more is on the sheet
    pub framing_cells : y < h → i + w ≤ w * h
    framing_cells b = omega (arith, mul-le-mul_right w b, mul_comm w h, f.from)

    -- and in the table
    pub framing_room : y < h → k + w ≤ points w h
    unfolding place
    framing_room b = omega (arith, place_below w h w (suc y) (omega arith) b, f.to)

    -- the names of its cells
    name_in : length l ≡ w * h → y < h → (x : ℕ) → x < w → suc (get_or l (i + x) 0) ≡ named_at w h (map suc l) (k + x)
    unfolding place
    name_in q b x c =
        let e : k + x ≡ place w (suc x) (suc y) = omega (arith, f.to) in
        rw (e, column w (suc x) (suc y) c, row w (suc x) (suc y) c, f.from) (named_cell w h l x y q c b)

    -- a row more, and the start of the next
    pub framing_row : length l ≡ w * h → y < h → (u : List ℕ) → u ≡ rowed (λ x. suc (get_or l (i + x) 0)) k w t
        → Framing w h l u (y + 1) (i + w) (k + (w + 1))
    unfolding place
    framing_row q b u e =
        let m : ℕ = surround w h in
        let z = framing_room b in
        let r : Framed w h l (k + w) u =
        rw e (filled_row m (named_at w h (map suc l)) (λ x. suc (get_or l (i + x) 0)) k (replicate m 0) t f.filled w
        (omega arith) (name_in q b)) in
        record {
          filled = blank_on u (k + w) (k + (w + 1)) r (omega arith) (omega arith)
              (λ j c d. outside_west w h (map suc l) j (suc (suc y)) (omega (arith, f.to)));
          row = omega arith;
          from = omega (arith, f.from);
          to = omega (arith, f.to);
        }

    -- all rows, and what is past them
    pub framing_all : h ≤ y → t ≡ framed w h (map suc l)
    unfolding framed place points
    framing_all b =
        let m : ℕ = surround w h in
        let e : y ≡ h = omega (arith, f.row) in
        let d : k ≡ points w h + 1 = f.to ∙ rw e (omega (arith, mul_comm (w + 1) (h + 1))) in
        filled_all m (named_at w h (map suc l)) m (replicate m 0) t
        (blank_on t k m f.filled (omega arith) (omega arith) (λ j c x. outside_south w h (map suc l) j (omega arith)))
        (omega arith)
