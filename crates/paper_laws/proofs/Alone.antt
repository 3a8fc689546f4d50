-- What a drawing tells of one region depends on the cells of that region alone.
--   Borne w h r n m == the tables n and m of names give the name r to the same cells
--   SameCells w h r t u == in the drawings t and u the region of the name r has the same cells
use mathlib.Core.Path.{◌≡◌, refl, sym, ap, ◌∙◌}
use mathlib.Core.Bool.{Bool, true, false, cond, not, ◌&&◌}
use mathlib.Core.List.{List}
use mathlib.Core.Logic.{◌≢◌}
use Prim.Native.Nat.{ℕ, zero, suc, ◌+◌, ◌*◌, ◌/◌, ◌%◌, ◌<◌, ◌≤◌}
use native.Mathlib.Decide.{ℕ_discrete, dec_le}
use native.Mathlib.Omega.{arith}
use lib.Dec.{eqb, ltb}
use lib.ListN.{get_or}
use borrow.Author.Tests.{ltb-true, eq-eqb, ne_eqb}
use Rattle.laws.proofs.Less.{eqb_comm}
use Rattle.laws.proofs.Table.{count_agree, some_agree, get_or_table_past}
use Rattle.point_darts.specs.Dart.{mark, slots, point, direction, reversal}
use Rattle.point_darts.specs.Point.{corner, right, left}
use Rattle.point_darts.proofs.Darts.{four, direction_below}
use Rattle.paper.specs.Name.{label, names, named, cells}
use Rattle.paper.specs.Level.{side, border, plain, level}
use Rattle.paper.specs.Total.{cells_of, borders_of, total, totals}
use Rattle.paper.specs.Drawing.{Tables, Drawn, drawn, drawing}
use Rattle.paper.specs.Joining.{at, on, between, shared}
use Rattle.paper.specs.Refusal.{used, adjoin}
use Rattle.paper.specs.Mixture.{region, SameRegion}
use Rattle.paper_laws.proofs.Name.{cell_below}
use Rattle.paper_laws.proofs.Sheet.{across, border_sides, border_below}
use Rattle.paper_laws.proofs.Marks.{at_held, at_free}
use Rattle.paper_laws.proofs.Added.{total_same, at_totals}
use Rattle.paper_laws.proofs.IsDrawing.{recovered_drawn}
use Rattle.paper_laws.proofs.InUse.{used_cells}

abbrev Borne : ℕ → ℕ → ℕ → List ℕ → List ℕ → Type 0
Borne w h r n m = (i : ℕ) → i < w * h → eqb (label n i) r ≡ eqb (label m i) r

-- a dart with the sides x and y bounds r on its right hand where x is r and y is not
hands : (x y r : ℕ) → (not (eqb x y) && eqb x r) ≡ (eqb x r && not (eqb y r))
hands x y r = go (ℕ_discrete x r) (eqb y r) refl
  where
    go : Dec (x ≡ r) → (b : Bool) → eqb y r ≡ b → (not (eqb x y) && eqb x r) ≡ (eqb x r && not (eqb y r))
    go (yes e) true f = rw (e, eq-eqb r r refl, eqb_comm r y, f)
    go (yes e) false f = rw (e, eq-eqb r r refl, eqb_comm r y, f)
    go (no e) b f = rw (ne_eqb x r e) (off (not (eqb x y)))
      where
        off : (c : Bool) → (c && false) ≡ false
        off true = refl
        off false = refl

module _ (w h r : ℕ) (n m : List ℕ) (e : Borne w h r n m) where
  named_alone : (x y : ℕ) → eqb (named w h n x y) r ≡ eqb (named w h m x y) r
  unfolding named label
  named_alone zero y = refl
  named_alone (suc x) zero = refl
  named_alone (suc x) (suc y) = go (ltb x w) (ltb y h) refl refl
    where
      go : (a b : Bool) → ltb x w ≡ a → ltb y h ≡ b
          → eqb (cond (a && b) (get_or n (y * w + x) 0) 0) r ≡ eqb (cond (a && b) (get_or m (y * w + x) 0) 0) r
      go true true p q = e (y * w + x) (cell_below w h x y (ltb-true x w p) (ltb-true y h q))
      go true false p q = refl
      go false b p q = refl

  side_alone : (d : ℕ) → eqb (side w h n d) r ≡ eqb (side w h m d) r
  unfolding side cells right corner
  side_alone d =
      let x = point d % (w + 1) in
      let y = point d / (w + 1) in
      four (λ k. eqb (right (cells w h n (point d)) k) r ≡ eqb (right (cells w h m (point d)) k) r)
      (named_alone (suc x) (suc y)) (named_alone x (suc y)) (named_alone x y) (named_alone (suc x) y)
      (direction d) (direction_below d)

  across_alone : (d : ℕ) → eqb (across w h n d) r ≡ eqb (across w h m d) r
  unfolding across cells left corner
  across_alone d =
      let x = point d % (w + 1) in
      let y = point d / (w + 1) in
      four (λ k. eqb (left (cells w h n (point d)) k) r ≡ eqb (left (cells w h m (point d)) k) r)
      (named_alone (suc x) y) (named_alone (suc x) (suc y)) (named_alone x (suc y)) (named_alone x y)
      (direction d) (direction_below d)

  -- its border lines
  border_alone : (d : ℕ) → (border w h n d && eqb (side w h n d) r) ≡ (border w h m d && eqb (side w h m d) r)
  border_alone d =
      rw (border_sides w h n d, border_sides w h m d, hands (side w h n d) (across w h n d) r, hands (side w h m d) (across w h m d) r)
      (rw (side_alone d, across_alone d))

  borders_alone : borders_of w h n r ≡ borders_of w h m r
  unfolding borders_of
  borders_alone =
      count_agree (λ d. border w h n d && eqb (side w h n d) r) (λ d. border w h m d && eqb (side w h m d) r) (slots w h)
      (λ d l. border_alone d)

  cells_alone : cells_of w h n r ≡ cells_of w h m r
  unfolding cells_of
  cells_alone = count_agree (λ i. eqb (label n i) r) (λ i. eqb (label m i) r) (w * h) e

  -- the darts that have it as side
  module _ (z : r ≢ mark) where
    side1_test : (k : List ℕ) (d : ℕ) → eqb (at (drawn w h k).side1 d) r ≡ (border w h k d && eqb (side w h k d) r)
    unfolding drawn level plain
    side1_test k d = go (border w h k d) refl
      where
        go : (b : Bool) → border w h k d ≡ b → eqb (at (drawn w h k).side1 d) r ≡ (b && eqb (side w h k d) r)
        go true p = rw (at_held w h (border w h k) (side w h k) (border_below w h k) d p)
        go false p =
            rw (at_free w h (border w h k) (side w h k) (border_below w h k) d p, ne_eqb mark r (λ q. z (sym q)))

    side1_alone : (d : ℕ) → eqb (at (drawn w h n).side1 d) r ≡ eqb (at (drawn w h m).side1 d) r
    side1_alone d = side1_test n d ∙ border_alone d ∙ sym (side1_test m d)

-- an entry of a table of totals
totals_alone : (w h r : ℕ) (c f d g : ℕ → ℕ) → c r ≡ d r → f r ≡ g r → at (totals w h c f) r ≡ at (totals w h d g) r
unfolding totals at
totals_alone w h r c f d g p q = go (dec_le r (w * h))
  where
    go : Dec (r ≤ w * h) → at (totals w h c f) r ≡ at (totals w h d g) r
    go (yes l) = at_totals w h c f r l ∙ total_same c f d g r p q ∙ sym (at_totals w h d g r l)
    go (no l) =
        get_or_table_past (w * h + 1) (total c f) r mark (omega arith)
        ∙ sym (get_or_table_past (w * h + 1) (total d g) r mark (omega arith))

abbrev pub SameCells : ℕ → ℕ → ℕ → Tables → Tables → Type 0
SameCells w h r t u = (i : ℕ) → i < w * h → eqb (region w h t i) r ≡ eqb (region w h u i) r

module _ (w h : ℕ) (room : slots w h ≤ mark) (t u : Tables) (d : Drawn w h t) (f : Drawn w h u) where
  borne : (r : ℕ) → SameCells w h r t u → Borne w h r (names w h d.labels) (names w h f.labels)
  unfolding region
  borne r e = rw (← recovered_drawn w h room t d, ← recovered_drawn w h room u f) e

  module _ (r : ℕ) (e : SameCells w h r t u) where
    abbrev n : List ℕ
    n = names w h d.labels

    abbrev m : List ℕ
    m = names w h f.labels

    cell_total : at t.cells r ≡ at u.cells r
    unfolding drawing drawn
    cell_total =
        let p = cells_alone w h r n m (borne r e) in
        rw (← d.same, ← f.same) (totals_alone w h r (cells_of w h n) (cells_of w h n) (cells_of w h m) (cells_of w h m) p p)

    border_total : at t.borders r ≡ at u.borders r
    unfolding drawing drawn
    border_total =
        let p = cells_alone w h r n m (borne r e) in
        let q = borders_alone w h r n m (borne r e) in
        rw (← d.same, ← f.same) (totals_alone w h r (cells_of w h n) (borders_of w h n) (cells_of w h m) (borders_of w h m) p q)

    present : r ≢ 0 → used t.parent r ≡ used u.parent r
    unfolding used on
    present z =
        sym (used_cells w h room t d r z) ∙ ap (λ k. not (eqb k mark)) cell_total ∙ used_cells w h room u f r z

    pub region_alone : r ≢ 0 → SameRegion w h r t u
    region_alone z = record { present = present z; cells = e; cell_total = cell_total; border_total = border_total }

  -- whether two regions share a line
  pub adjoin_alone : (a b : ℕ) → a ≢ mark → b ≢ mark → SameCells w h a t u → SameCells w h b t u
      → adjoin w h t.side1 a b ≡ adjoin w h u.side1 a b
  unfolding adjoin shared between drawing
  adjoin_alone a b y z p q =
      let n = names w h d.labels in
      let m = names w h f.labels in
      let l = side1_alone w h a n m (borne a p) y in
      let k = side1_alone w h b n m (borne b q) z in
      rw (← d.same, ← f.same)
      (some_agree (shared (drawn w h n).side1 (reversal w) a b) (shared (drawn w h m).side1 (reversal w) a b) (slots w h)
      (λ i _. rw (l i, k (reversal w i), k i, l (reversal w i))))
