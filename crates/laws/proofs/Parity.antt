-- Which cells of a grid lie inside, by the parity of the lines crossed on the way from the edge.
-- Cells stand in columns and rows, of which the sheet has those from 1 to w and from 1 to h; a cell has a place at its
-- south-east corner. Some cells are of a region, some places of a piece.
--   e x y           == the cell in column x and row y is of the region
--   t x y           == its place is of the piece
--   odd a b         == exactly one of a and b
--   Edged w h e t   == off the sheet no two cells beside each other differ; and on it, where two differ, the two ends
--                      of the line between them are both of the piece or both not
--   northward, westward == the line that runs north, or west, from the place is of the piece and lies between a cell of the
--                      region and one that is not
--   Even v l        == of the four lines at each place an even number are of the set, and none runs west from column 0
--   crossed v x y   == west of the cell in column x and row y, in its row, is an odd number of lines of the set
--   inside e t x y  == west of the cell, in its row, is an odd number of such lines
--   Touch x y u v   == the cell in column u and row v is one of the four round the place in column x and row y
--   Joined m p q    == a chain of lines of the map m leads from p to q
--   Found e x m     == from x to m some number passes the test e
--   Flanked m P x   == before x a number has P, and after it one up to m + 1
--   Amid w h P x y  == in the row of the cell, and in its column, cells before and after it have P
use mathlib.Core.Path.{◌≡◌, refl, sym, ap, ◌∙◌}
use mathlib.Core.Bool.{Bool, true, false, ◌&&◌, true≢false, false≢true, and-false, not-not}
use mathlib.Core.Logic.{◌≢◌}
use Prim.Native.Nat.{ℕ, zero, suc, ◌<◌, ◌≤◌, zero-le}
use native.Mathlib.Nat.{le_refl}
use native.Mathlib.Decide.{dec_le}
use native.Mathlib.Omega.{arith}
use Rattle.laws.proofs.Test.{clash}
use Rattle.laws.proofs.Even.{odd, odd_false, odd_pairs, Even, crossed, crossed_west, crossed_east, crossed_start, crossed_down}
use Rattle.laws.proofs.Chart.{Map}
use Rattle.laws.proofs.Curve.{Joined, alone, line, back, onward}

-- what no line changes, no chain of lines changes
pub joined_same : {m : Map} {A : Type 0} (g : ℕ → A)
    → ((d : ℕ) → m.on d ≡ true → g (m.pt d) ≡ g (m.pt (m.rev d))) → {p q : ℕ} → Joined m p q → g p ≡ g q
joined_same g f alone = refl
joined_same g f (line d h) = f d h
joined_same g f (back j) = sym (joined_same g f j)
joined_same g f (onward i j) = joined_same g f i ∙ joined_same g f j

-- from a to b and on to c is from a to c
odd_past : (f t a b c : Bool) → odd (odd f (t && odd a b)) (t && odd b c) ≡ odd f (t && odd a c)
odd_past true false a b c = refl
odd_past false false a b c = refl
odd_past true true true true c = refl
odd_past true true true false c = sym (not-not c)
odd_past true true false true c = refl
odd_past true true false false c = refl
odd_past false true true true c = refl
odd_past false true true false c = refl
odd_past false true false true c = not-not c
odd_past false true false false c = refl

-- between cells that do not differ no line is crossed
odd_keeps : (f t a b : Bool) → a ≡ b → odd f (t && odd a b) ≡ f
odd_keeps f t a b e = rw e (go t b)
  where
    go : (t b : Bool) → odd f (t && odd b b) ≡ f
    go true true = odd_false f
    go true false = odd_false f
    go false b = odd_false f

-- a place counts only where the cells differ
odd_at : (s t a b : Bool) → (a ≢ b → s ≡ t) → (s && odd a b) ≡ (t && odd a b)
odd_at s t true true f = and-false s ∙ sym (and-false t)
odd_at s t true false f = ap (λ u. u && true) (f true≢false)
odd_at s t false true f = ap (λ u. u && true) (f false≢true)
odd_at s t false false f = and-false s ∙ sym (and-false t)

pub record Edged (w h : ℕ) (e t : ℕ → ℕ → Bool) : Type 0 where
  pub west : (y : ℕ) → e 0 y ≡ e 0 (suc y)
  pub north : (x : ℕ) → e x 0 ≡ e (suc x) 0
  pub east : (x y : ℕ) → w < x → e x y ≡ e x (suc y)
  pub south : (x y : ℕ) → h < y → e x y ≡ e (suc x) y
  pub upright : (x y : ℕ) → e x (suc y) ≢ e (suc x) (suc y) → t x y ≡ t x (suc y)
  pub level : (x y : ℕ) → e (suc x) y ≢ e (suc x) (suc y) → t x y ≡ t (suc x) y

abbrev northward : (ℕ → ℕ → Bool) → (ℕ → ℕ → Bool) → ℕ → ℕ → Bool
northward e t x y = t x y && odd (e x y) (e (suc x) y)

abbrev westward : (ℕ → ℕ → Bool) → (ℕ → ℕ → Bool) → ℕ → ℕ → Bool
westward e t x y = t x y && odd (e x y) (e x (suc y))

abbrev pub inside : (ℕ → ℕ → Bool) → (ℕ → ℕ → Bool) → ℕ → ℕ → Bool
inside e t = crossed (northward e t)

pub data Touch (x y : ℕ) : ℕ → ℕ → Type 0 where
  north_west : Touch x y x y
  north_east : Touch x y (suc x) y
  south_west : Touch x y x (suc y)
  south_east : Touch x y (suc x) (suc y)

-- A row, from its west end.
module _ (e t : ℕ → ℕ → Bool) where
  inside_step : (x y : ℕ) → inside e t (suc x) y ≡ odd (inside e t x y) (t x y && odd (e x y) (e (suc x) y))
  inside_step = crossed_east (northward e t)

  pub inside_west : (y : ℕ) → inside e t 0 y ≡ false
  inside_west = crossed_west (northward e t)

  -- as far as no place is of the piece, no cell lies inside
  pub inside_start : (x y : ℕ) → ((k : ℕ) → k < x → t k y ≡ false) → inside e t x y ≡ false
  inside_start x y f = crossed_start (northward e t) x y (λ k l. rw (f k l))

  -- past a place that is not of the piece
  still_east : (x y : ℕ) → t x y ≡ false → inside e t (suc x) y ≡ inside e t x y
  still_east x y q = inside_step x y ∙ rw q (odd_false (inside e t x y))

  -- beside each other, where the cells do not differ
  pub inside_east : (x y : ℕ) → e x y ≡ e (suc x) y → inside e t (suc x) y ≡ inside e t x y
  inside_east x y q = inside_step x y ∙ odd_keeps (inside e t x y) (t x y) (e x y) (e (suc x) y) q

  -- round a place of the piece the cells inside and those of the region change together
  round_east : (x y : ℕ) → t x y ≡ true → odd (inside e t (suc x) y) (e (suc x) y) ≡ odd (inside e t x y) (e x y)
  round_east x y q =
      rw (inside_step x y, q) (simp odd_false at (odd_past (inside e t x y) true (e x y) (e (suc x) y) false))

-- A test that passes somewhere between two numbers, where a function that changes only beside a pass has changed.
abbrev pub Found : (ℕ → Bool) → ℕ → ℕ → Type 0
Found e x m = (k : ℕ) × (x ≤ k) × (k ≤ m) × (e k ≡ true)

module _ (f e : ℕ → Bool) (keeps : (k : ℕ) → e k ≡ false → e (suc k) ≡ false → f k ≡ f (suc k)) where
  found_at : (x m : ℕ) → x ≤ m → (a b : Bool) → e m ≡ a → e (suc m) ≡ b → f x ≢ f (suc m)
      → (f x ≢ f m → Found e x m) → Found e x (suc m)
  found_at x m l a true p q n r = (suc m, omega arith, le_refl (suc m), q)
  found_at x m l true false p q n r = (m, l, omega arith, p)
  found_at x m l false false p q n r =
      let (k, i, j, u) = r (λ s. n (s ∙ keeps m p q)) in
      (k, i, omega arith, u)

  pub found_between : (x m : ℕ) → x ≤ m → f x ≢ f m → Found e x m
  found_between x zero l n = absurd (n (ap f (let q : x ≡ 0 = omega arith in q)))
  found_between x (suc m) l n = go (dec_le x m) (found_between x m)
    where
      go : Dec (x ≤ m) → (x ≤ m → f x ≢ f m → Found e x m) → Found e x (suc m)
      go (yes i) r = found_at x m i (e m) (e (suc m)) refl refl n (r i)
      go (no i) r = absurd (n (ap f (let q : x ≡ suc m = omega arith in q)))

pub record Flanked (m : ℕ) (P : ℕ → Type 0) (x : ℕ) : Type 0 where
  pub before : (k : ℕ) × (k < x) × P k
  pub after : (k : ℕ) × (x < k) × (k ≤ suc m) × P k

-- a number that fails the test, where the function is not what it is at both ends, has passes on both sides
module _ (f e : ℕ → Bool) (keeps : (k : ℕ) → e k ≡ false → e (suc k) ≡ false → f k ≡ f (suc k))
    (m : ℕ) (start : f 0 ≡ false) (end : (k : ℕ) → m < k → f k ≡ false)
    (x : ℕ) (i : f x ≡ true) (o : e x ≡ false) where
  not_past : x ≤ m
  not_past = go (dec_le x m)
    where
      go : Dec (x ≤ m) → x ≤ m
      go (yes l) = l
      go (no l) = clash i (end x (omega arith))

  other : (k : ℕ) → e k ≡ true → x ≢ k
  other k u q = clash u (ap e (sym q) ∙ o)

  flanked : Flanked m (λ k. e k ≡ true) x
  flanked =
      let (a, _, b, p) = found_between f e keeps 0 x zero-le (λ q. clash i (sym q ∙ start)) in
      let past : f (suc m) ≡ false = end (suc m) (le_refl (suc m)) in
      let (c, l, d, q) = found_between f e keeps x (suc m) (omega (arith, not_past)) (λ q. clash i (q ∙ past)) in
      record { before = (a, omega (arith, other a p), p); after = (c, omega (arith, other c q), d, q) }

pub record Amid (w h : ℕ) (P : ℕ → ℕ → Type 0) (x y : ℕ) : Type 0 where
  pub row : Flanked w (λ k. P k y) x
  pub column : Flanked h (λ k. P x k) y

pub flanked_map : {m : ℕ} {P Q : ℕ → Type 0} {x : ℕ} → ((k : ℕ) → P k → Q k) → Flanked m P x → Flanked m Q x
flanked_map f a =
    let (k, l, p) = a.before in
    let (j, i, m, q) = a.after in
    record { before = (k, l, f k p); after = (j, i, m, f j q) }

pub amid_map : {w h : ℕ} {P Q : ℕ → ℕ → Type 0} {x y : ℕ} → ((u v : ℕ) → P u v → Q u v) → Amid w h P x y
    → Amid w h Q x y
amid_map {x = x} {y = y} f a =
    record { row = flanked_map (λ k. f k y) a.row; column = flanked_map (λ k. f x k) a.column }

module _ {w h : ℕ} {e t : ℕ → ℕ → Bool} (g : Edged w h e t) where
  abbrev inner : ℕ → ℕ → Bool
  inner = inside e t

  -- at each place an even number of these lines meet
  edged_even : Even (northward e t) (westward e t)
  edged_even =
      record {
        west = λ y. odd_keeps false (t 0 y) (e 0 y) (e 0 (suc y)) (g.west y);
        even = λ x y.
            let a = e x y in
            let b = e (suc x) y in
            let c = e x (suc y) in
            let d = e (suc x) (suc y) in
            rw (
              ← odd_at (t x y) (t x (suc y)) c d (g.upright x y),
              ← odd_at (t x y) (t (suc x) y) b d (g.level x y),
            ) (pairs (t x y) a b c d);
      }
    where
      pairs : (s a b c d : Bool)
          → odd (odd (s && odd a b) (s && odd c d)) (odd (s && odd a c) (s && odd b d)) ≡ false
      pairs true a b c d = odd_pairs a b c d
      pairs false a b c d = refl

  -- so one row down a line is crossed as one is from column to column
  inside_down : (x y : ℕ) → inner x (suc y) ≡ odd (inner x y) (t x y && odd (e x y) (e x (suc y)))
  inside_down = crossed_down edged_even

  pub inside_south : (x y : ℕ) → e x y ≡ e x (suc y) → inner x (suc y) ≡ inner x y
  inside_south x y q = inside_down x y ∙ odd_keeps (inner x y) (t x y) (e x y) (e x (suc y)) q

  round_south : (x y : ℕ) → t x y ≡ true → odd (inner x (suc y)) (e x (suc y)) ≡ odd (inner x y) (e x y)
  round_south x y q =
      rw (inside_down x y, q) (simp odd_false at (odd_past (inner x y) true (e x y) (e x (suc y)) false))

  -- south of a place a line is crossed as one is north of it
  inside_corner : (x y : ℕ)
      → inner (suc x) (suc y) ≡ odd (inner x (suc y)) (t x y && odd (e x (suc y)) (e (suc x) (suc y)))
  inside_corner x y =
      inside_step e t x (suc y)
      ∙ rw (← odd_at (t x y) (t x (suc y)) (e x (suc y)) (e (suc x) (suc y)) (g.upright x y))

  still_south : (x y : ℕ) → t x y ≡ false → inner x (suc y) ≡ inner x y
  still_south x y q = inside_down x y ∙ rw q (odd_false (inner x y))

  -- round a place that is not of the piece all four cells lie inside, or none does
  pub still_touch : {x y u v : ℕ} → t x y ≡ false → Touch x y u v → inner u v ≡ inner x y
  still_touch {x} {y} q north_west = refl
  still_touch {x} {y} q north_east = still_east e t x y q
  still_touch {x} {y} q south_west = still_south x y q
  still_touch {x} {y} q south_east = inside_corner x y ∙ rw q (odd_false (inner x (suc y))) ∙ still_south x y q

  -- round a place of the piece the cells inside and those of the region change together
  pub round_touch : {x y u v : ℕ} → t x y ≡ true → Touch x y u v → odd (inner u v) (e u v) ≡ odd (inner x y) (e x y)
  round_touch {x} {y} q north_west = refl
  round_touch {x} {y} q north_east = round_east e t x y q
  round_touch {x} {y} q south_west = round_south x y q
  round_touch {x} {y} q south_east =
      let b = e x (suc y) in
      rw (inside_corner x y, q) (simp odd_false at (odd_past (inner x (suc y)) true b (e (suc x) (suc y)) false))
      ∙ round_south x y q

  -- as far as no place is of the piece, no cell south-east of one lies inside
  pub inside_begin : (x y : ℕ) → ((k : ℕ) → k ≤ x → t k y ≡ false) → inner (suc x) (suc y) ≡ false
  inside_begin x y f =
      inside_down (suc x) y
      ∙ rw (
        inside_start e t (suc x) y (λ k l. f k (omega arith)),
        ← odd_at (t x y) (t (suc x) y) (e (suc x) y) (e (suc x) (suc y)) (g.level x y),
        f x (le_refl x),
      )

  -- no cell off the sheet lies inside
  edge_north : (x : ℕ) → inner x 0 ≡ false
  edge_north zero = inside_west e t 0
  edge_north (suc x) = inside_east e t x 0 (g.north x) ∙ edge_north x

  edge_south : (x y : ℕ) → h < y → inner x y ≡ false
  edge_south zero y l = inside_west e t y
  edge_south (suc x) y l = inside_east e t x y (g.south x y l) ∙ edge_south x y l

  edge_east : (x y : ℕ) → w < x → inner x y ≡ false
  edge_east x zero l = edge_north x
  edge_east x (suc y) l = inside_south x y (g.east x y l) ∙ edge_east x y l

  -- a cell that lies inside and is not of the region has cells of the region on all four sides
  pub inside_amid : (x y : ℕ) → inner x y ≡ true → e x y ≡ false → Amid w h (λ u v. e u v ≡ true) x y
  inside_amid x y i o =
      record {
        row = flanked (λ k. inner k y) (λ k. e k y) (λ k p q. sym (inside_east e t k y (p ∙ sym q)))
            w (inside_west e t y) (λ k. edge_east k y) x i o;
        column = flanked (λ k. inner x k) (λ k. e x k) (λ k p q. sym (inside_south x k (p ∙ sym q)))
            h (edge_north x) (λ k. edge_south x k) y i o;
      }
