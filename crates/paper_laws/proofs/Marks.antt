-- Reading a marked table, and what keeps an entry below the mark.
--   held            == the darts that a table holds an entry of; it has the mark at every other dart
--   at t d, on t d  == an entry of a table, the mark past its end; that the entry is not the mark
--   small           == a table of names has no name greater than the number of cells
use mathlib.Core.Path.{◌≡◌, refl, sym, ap, ◌∙◌}
use mathlib.Core.Bool.{Bool, true, false, cond, not, ◌&&◌}
use mathlib.Core.List.{List}
use Prim.Native.Nat.{ℕ, zero, suc, ◌+◌, ◌*◌, ◌/◌, ◌%◌, ◌≤◌, ◌<◌, zero-le}
use native.Mathlib.Nat.{mul-suc, add-mul}
use native.Mathlib.Numerals.{add-one}
use native.Mathlib.Decide.{dec_lt}
use native.Mathlib.Omega.{arith}
use lib.Dec.{eqb, ltb}
use lib.ListN.{length, get_or}
use lib.Seq.{ext_get_or}
use borrow.Author.Tests.{ltb-true, eq-eqb, ne_eqb}
use Rattle.laws.proofs.Table.{length_table, get_or_table, get_or_table_past, table_agree}
use Rattle.laws.proofs.Test.{and_left}
use Rattle.laws.proofs.Walk.{run_stays}
use Rattle.sheet_size.specs.Size.{within}
use Rattle.point_darts.specs.Dart.{mark, points, slots, point, direction, far}
use Rattle.point_darts.specs.Point.{right, corner}
use Rattle.point_darts.proofs.Darts.{four, direction_below, line_below}
use Rattle.point_darts.proofs.Fit.{points_fit}
use Rattle.paper.specs.Name.{names, named, cells}
use Rattle.paper.specs.Level.{side, next, last, along, marked}
use Rattle.paper.specs.Joining.{at, on}
use Rattle.paper_laws.proofs.Name.{cell_below, name_le}
use Rattle.paper_laws.proofs.Next.{Lines, next_on}

-- The entries of a marked table.
module _ (w h : ℕ) (held : ℕ → Bool) (f : ℕ → ℕ) where
  pub length_marked : length (marked w h held f) ≡ slots w h
  unfolding marked
  length_marked = length_table (slots w h) (λ d. cond (held d) (f d) mark)

  pub at_below : (d : ℕ) → d < slots w h → at (marked w h held f) d ≡ cond (held d) (f d) mark
  unfolding at marked
  at_below d b = get_or_table (slots w h) (λ d. cond (held d) (f d) mark) d mark b

  pub at_past : (d : ℕ) → slots w h ≤ d → at (marked w h held f) d ≡ mark
  unfolding at marked
  at_past d b = get_or_table_past (slots w h) (λ d. cond (held d) (f d) mark) d mark b

  -- every dart that is held has a place in the table
  module _ (inside : (d : ℕ) → held d ≡ true → d < slots w h) where
    past_off : (d : ℕ) → slots w h ≤ d → mark ≡ cond (held d) (f d) mark
    past_off d b = go (held d) refl
      where
        go : (t : Bool) → held d ≡ t → mark ≡ cond t (f d) mark
        go true e = absurd (omega (arith, inside d e))
        go false e = refl

    pub at_marked : (d : ℕ) → at (marked w h held f) d ≡ cond (held d) (f d) mark
    at_marked d = go (dec_lt d (slots w h))
      where
        go : Dec (d < slots w h) → at (marked w h held f) d ≡ cond (held d) (f d) mark
        go (yes b) = at_below d b
        go (no b) = let p : slots w h ≤ d = omega arith in at_past d p ∙ past_off d p

    pub at_held : (d : ℕ) → held d ≡ true → at (marked w h held f) d ≡ f d
    at_held d e = rw e at (at_marked d)

    pub at_free : (d : ℕ) → held d ≡ false → at (marked w h held f) d ≡ mark
    at_free d e = rw e at (at_marked d)

    -- the table tells which darts it holds
    pub on_marked : ((d : ℕ) → held d ≡ true → f d < mark) → (d : ℕ) → on (marked w h held f) d ≡ held d
    unfolding on
    on_marked small d = rw (at_marked d) (go (held d) refl)
      where
        go : (t : Bool) → held d ≡ t → not (eqb (cond t (f d) mark) mark) ≡ t
        go true e = ap not (ne_eqb (f d) mark (λ q. omega (arith, small d e)))
        go false e = ap not (eq-eqb mark mark refl)

-- Two tables of one length with equal entries are equal.
pub same_at : (n : ℕ) (t u : List ℕ) → length t ≡ n → length u ≡ n → ((d : ℕ) → d < n → at t d ≡ at u d) → t ≡ u
unfolding at
same_at n t u p q e = ext_get_or mark t u (p ∙ sym q) (λ d b. e d (rw p at b))

-- Two marked tables that hold the same darts with the same entries are equal.
module _ (w h : ℕ) (held kept : ℕ → Bool) (f g : ℕ → ℕ) where
  pub marked_same : ((d : ℕ) → d < slots w h → held d ≡ kept d)
      → ((d : ℕ) → d < slots w h → held d ≡ true → f d ≡ g d) → marked w h held f ≡ marked w h kept g
  unfolding marked
  marked_same p q =
      table_agree (slots w h) (λ d. cond (held d) (f d) mark) (λ d. cond (kept d) (g d) mark)
      (λ d b. rw (← p d b) (go d b (held d) refl))
    where
      go : (d : ℕ) → d < slots w h → (t : Bool) → held d ≡ t → cond t (f d) mark ≡ cond t (g d) mark
      go d b true e = q d b e
      go d b false e = refl

  pub marked_agree : ((d : ℕ) → held d ≡ kept d) → ((d : ℕ) → held d ≡ true → f d ≡ g d)
      → marked w h held f ≡ marked w h kept g
  marked_agree p q = marked_same (λ d b. p d) (λ d b. q d)

-- A sheet has fewer cells than darts.
pub cells_slots : (w h : ℕ) → w * h < slots w h
unfolding slots points
cells_slots w h = rw (add-one h, mul-suc (w + 1) h, add-mul w 1 h) (omega arith)

-- How many slots a sheet of a size that is one has at most.
pub slots_most : (w h : ℕ) → within w h ≡ true → slots w h ≤ 32412
unfolding slots
slots_most w h e = omega (arith, points_fit w h e)

-- So every dart is below the mark, and so are every point and every name.
pub within_fits : (w h : ℕ) → within w h ≡ true → slots w h ≤ mark
unfolding mark
within_fits w h e = omega (arith, slots_most w h e)

pub mark_no_number : (w h : ℕ) → within w h ≡ true → (slots w h ≤ mark) × (points w h ≤ mark) × (w * h < mark)
unfolding slots
mark_no_number w h e =
    let m = within_fits w h e in
    (m, omega arith, omega (arith, cells_slots w h))

-- The sides of darts are names, or 0 for the outside.
module _ (w h : ℕ) (n : List ℕ) (small : (i : ℕ) → i < w * h → get_or n i 0 ≤ w * h) where
  pub named_le : (x y : ℕ) → named w h n x y ≤ w * h
  unfolding named
  named_le zero y = zero-le
  named_le (suc x) zero = zero-le
  named_le (suc x) (suc y) = go (ltb x w) (ltb y h) refl refl
    where
      go : (a b : Bool) → ltb x w ≡ a → ltb y h ≡ b → cond (a && b) (get_or n (y * w + x) 0) 0 ≤ w * h
      go true true p q = small (y * w + x) (cell_below w h x y (ltb-true x w p) (ltb-true y h q))
      go true false p q = zero-le
      go false b p q = zero-le

  pub side_le : (d : ℕ) → side w h n d ≤ w * h
  unfolding side right corner cells
  side_le d =
      let p = point d in
      let x = p % (w + 1) in
      let y = p / (w + 1) in
      four (λ k. right (cells w h n p) k ≤ w * h)
      (named_le (suc x) (suc y)) (named_le x (suc y)) (named_le x y) (named_le (suc x) y)
      (direction d) (direction_below d)

  pub side_small : slots w h ≤ mark → (d : ℕ) → side w h n d < mark
  side_small fits d = omega (arith, side_le d, cells_slots w h)

-- the names of a sheet are such a table
pub names_side_small : (w h : ℕ) (s : List ℕ) → slots w h ≤ mark → (d : ℕ) → side w h (names w h s) d < mark
names_side_small w h s = side_small w h (names w h s) (name_le w h s)

-- Links lead from darts that are on to darts that are on.
module _ (w h : ℕ) (on : ℕ → Bool) (l : Lines w h on) where
  pub next_stays : (d : ℕ) → on d ≡ true → on (next w on d) ≡ true
  next_stays d e = next_on w on d (l.back d e)

  pub last_stays : (keep : ℕ → Bool) (d : ℕ) → on d ≡ true → on (last w h on keep d) ≡ true
  unfolding last
  last_stays keep = run_stays (next w on) (λ e. keep (far w e)) (λ d. on d ≡ true) next_stays (slots w h)

  pub along_on : (keep : ℕ → Bool) (d : ℕ) → (along w h on keep).on d ≡ true → on d ≡ true
  unfolding along
  along_on keep d = and_left (on d) (keep (point d))

  -- they have a place in a table
  pub lines_inside : (d : ℕ) → on d ≡ true → d < slots w h
  lines_inside d e = line_below w h d (l.lined d e)

  -- and are below the mark
  module _ (fits : slots w h ≤ mark) where
    pub dart_small : (d : ℕ) → on d ≡ true → d < mark
    dart_small d e = omega (arith, lines_inside d e)

    pub next_small : (d : ℕ) → on d ≡ true → next w on d < mark
    next_small d e = dart_small (next w on d) (next_stays d e)

    -- also where points are passed over
    pub along_next_small : (keep : ℕ → Bool) (d : ℕ) → (along w h on keep).on d ≡ true
        → (along w h on keep).next d < mark
    unfolding along
    along_next_small keep d e = next_small (last w h on keep d) (last_stays keep d (along_on keep d e))
