-- Regions and their names, for every sheet: a width w, a height h and the list s of its labels.
--   Beside w h i j  == cells i and j lie side by side: j is the next cell of the row, or the cell below
--   Kin w h s i j   == cells i and j lie side by side and have one label
--   Chain w h s i j == a chain of side-by-side cells of equal label leads from i to j: they are of one region
--   First w h s i v == v is 1 plus a cell of the region of cell i that is no later than i
--   Named w h s t   == the table t gives side-by-side cells of equal label one entry, and each cell 1 plus a cell of
--                      its region that is no later
--   firsts w h s    == the first cell of the region of each cell
--   lowered w h s a b == the names, with a and b made the smaller of the two
use mathlib.Core.Path.{◌≡◌, refl, sym, ap, ◌∙◌}
use mathlib.Core.Bool.{Bool, true, false, cond, ◌&&◌}
use mathlib.Core.List.{List, [], ◌∷◌, map}
use mathlib.Core.Logic.{◌⊎◌, inl, inr, ⊎_elim, ◌≢◌, ◌↔◌}
use Prim.Native.Nat.{ℕ, suc, ◌+◌, ◌*◌, ◌-◌, ◌%◌, ◌≤◌, ◌<◌, min, max}
use native.Mathlib.Nat.{mod-le, mod-eq_of_lt, mul-add-mod_self_right, mul-le-mul_right, mul_comm}
use native.Mathlib.Decide.{dec_le}
use native.Mathlib.Omega.{arith}
use lib.Dec.{eqb, ltb, leb}
use borrow.Author.Tests.{eqb-true, eq-eqb, ltb-true, lt-ltb, leb-true, le-leb}
use lib.ListN.{length, get_or, length-map}
use lib.Seq.{ext_get_or}
use Rattle.laws.specs.Least.{least, ties, tie, lower}
use Rattle.laws.specs.Table.{table, listed}
use Rattle.laws.proofs.Table.{get_or_map}
use Rattle.laws.proofs.Least.{
  lower_cases,
  lower_left,
  lower_right,
  get_or_lower,
  Linked,
  step,
  back,
  then,
  linked_same,
  linked_map,
  linked_iff,
  linked_eq,
  Near,
  by_b,
  by_c,
  Joined,
  length_least,
  Roots,
  roots_same,
  roots_unique,
  least_roots,
}
use Rattle.paper.specs.Name.{label, west, north, names}

pub data Beside (w h i j : ℕ) : Type 0 where
  row : j < w * h → 0 < j % w → j ≡ i + 1 → Beside w h i j
  column : j < w * h → j ≡ i + w → Beside w h i j

-- the cell in column x and row y
pub cell_below : (w h x y : ℕ) → x < w → y < h → y * w + x < w * h
cell_below w h x y p q = omega (arith, mul-le-mul_right w q, mul_comm w h)

-- Side-by-side cells by column and row.
module _ (w h x y : ℕ) where
  pub beside_row : suc x < w → y < h → Beside w h (y * w + x) (y * w + suc x)
  beside_row p q =
      let e : (y * w + suc x) % w ≡ suc x = mul-add-mod_self_right y w (suc x) ∙ mod-eq_of_lt p in
      row (cell_below w h (suc x) y p q) (omega arith) (omega arith)

  pub beside_column : x < w → suc y < h → Beside w h (y * w + x) (suc y * w + x)
  beside_column p q = column (cell_below w h x (suc y) p q) (omega arith)

pub record Kin (w h : ℕ) (s : List ℕ) (i j : ℕ) : Type 0 where
  pub beside : Beside w h i j
  pub alike : label s i ≡ label s j

abbrev pub Chain : ℕ → ℕ → List ℕ → ℕ → ℕ → Type 0
Chain w h s = Linked (Kin w h s)

-- A rule that moves to k where the test t passes and the labels x and y are equal, and else stays at i.
module _ (x y k i : ℕ) where
  rule_test : (t u : Bool) → eqb x y ≡ u
      → ((t ≡ true) × (x ≡ y) × (cond (t && eqb x y) k i ≡ k)) ⊎ (cond (t && eqb x y) k i ≡ i)
  rule_test true true e = inl (refl, eqb-true x y e, rw e)
  rule_test true false e = inr (rw e)
  rule_test false u e = inr refl

  rule_cases : (t : Bool) → ((t ≡ true) × (x ≡ y) × (cond (t && eqb x y) k i ≡ k)) ⊎ (cond (t && eqb x y) k i ≡ i)
  rule_cases t = rule_test t (eqb x y) refl

  rule_moves : (t : Bool) → t ≡ true → x ≡ y → cond (t && eqb x y) k i ≡ k
  rule_moves t p q = rw (p, eq-eqb x y q)

  rule_le : (t : Bool) → k ≤ i → cond (t && eqb x y) k i ≤ i
  rule_le t h = ⊎_elim (λ p. omega arith) (λ e. omega arith) (rule_cases t)

abbrev firsts : ℕ → ℕ → List ℕ → List ℕ
firsts w h s = least (w * h) (west w s) (north w s)

-- The neighbours of a cell, by the rules west and north, are the cells beside it of equal label.
module _ (w h : ℕ) (s : List ℕ) where
  west_le : (i : ℕ) → i < w * h → west w s i ≤ i
  unfolding west
  west_le i b = rule_le (label s i) (label s (i - 1)) (i - 1) i (ltb 0 (i % w)) (omega arith)

  north_le : (i : ℕ) → i < w * h → north w s i ≤ i
  unfolding north
  north_le i b = rule_le (label s i) (label s (i - w)) (i - w) i (leb w i) (omega arith)

  row_chain : (i : ℕ) → i < w * h → 0 < i % w → label s i ≡ label s (i - 1) → Chain w h s i (i - 1)
  row_chain i b p e =
      let f : i ≡ i - 1 + 1 = omega (arith, mod-le i w) in
      back (step (record { beside = row b p f; alike = sym e }))

  column_chain : (i : ℕ) → i < w * h → w ≤ i → label s i ≡ label s (i - w) → Chain w h s i (i - w)
  column_chain i b p e =
      let f : i ≡ i - w + w = omega arith in
      back (step (record { beside = column b f; alike = sym e }))

  west_chain : (i : ℕ) → i < w * h → Chain w h s i (west w s i)
  unfolding west
  west_chain i b =
      ⊎_elim (λ p. rw p.2 (row_chain i b (ltb-true 0 (i % w) p.0) p.1)) (λ e. linked_eq (sym e))
      (rule_cases (label s i) (label s (i - 1)) (i - 1) i (ltb 0 (i % w)))

  north_chain : (i : ℕ) → i < w * h → Chain w h s i (north w s i)
  unfolding north
  north_chain i b =
      ⊎_elim (λ p. rw p.2 (column_chain i b (leb-true w i p.0) p.1)) (λ e. linked_eq (sym e))
      (rule_cases (label s i) (label s (i - w)) (i - w) i (leb w i))

  near_chain : (i j : ℕ) → Near (west w s) (north w s) (w * h) i j → Chain w h s i j
  near_chain i j (by_b b e) = rw e (west_chain i b)
  near_chain i j (by_c b e) = rw e (north_chain i b)

  beside_joined : (i j : ℕ) → Beside w h i j → label s i ≡ label s j → Joined (west w s) (north w s) (w * h) i j
  unfolding west north
  beside_joined i j (row b p e) q =
      let k : i ≡ j - 1 = omega arith in
      let t = lt-ltb 0 (j % w) p in
      let m = rule_moves (label s j) (label s (j - 1)) (j - 1) j (ltb 0 (j % w)) t (rw (← k) (sym q)) in
      back (step (by_b b (k ∙ sym m)))
  beside_joined i j (column b e) q =
      let k : i ≡ j - w = omega arith in
      let t = le-leb w j (omega arith) in
      let m = rule_moves (label s j) (label s (j - w)) (j - w) j (leb w j) t (rw (← k) (sym q)) in
      back (step (by_c b (k ∙ sym m)))

  joined_chain : {i j : ℕ} → Joined (west w s) (north w s) (w * h) i j → Chain w h s i j
  joined_chain = linked_map near_chain

  chain_joined : {i j : ℕ} → Chain w h s i j → Joined (west w s) (north w s) (w * h) i j
  chain_joined = linked_map (λ i j k. beside_joined i j k.beside k.alike)

  names_roots : Roots (west w s) (north w s) (w * h) (λ i. get_or (firsts w h s) i 0)
  names_roots = least_roots (w * h) (west w s) (north w s) west_le north_le

  name_suc : (i : ℕ) → i < w * h → get_or (names w h s) i 0 ≡ suc (get_or (firsts w h s) i 0)
  unfolding names
  name_suc i b = get_or_map suc (firsts w h s) i 0 0 (rw length_least b)

  pub length_names : length (names w h s) ≡ w * h
  unfolding names
  length_names = length-map (firsts w h s) suc ∙ length_least (w * h) (west w s) (north w s)

-- a cell beside another is on the sheet, and so is the other
pub beside_below : (w h i j : ℕ) → Beside w h i j → (i < w * h) × (j < w * h)
beside_below w h i j (row b p e) = (omega arith, b)
beside_below w h i j (column b e) = (omega arith, b)

pub record First (w h : ℕ) (s : List ℕ) (i v : ℕ) : Type 0 where
  pub cell : ℕ
  pub named : v ≡ suc cell
  pub before : cell ≤ i
  pub chain : Chain w h s i cell

pub record Named (w h : ℕ) (s t : List ℕ) : Type 0 where
  pub sized : length t ≡ w * h
  pub alike : (i j : ℕ) → Kin w h s i j → get_or t i 0 ≡ get_or t j 0
  pub first : (i : ℕ) → i < w * h → First w h s i (get_or t i 0)

module _ (w h : ℕ) (s : List ℕ) where
  kin_name : (i j : ℕ) → Kin w h s i j → get_or (names w h s) i 0 ≡ get_or (names w h s) j 0
  kin_name i j k =
      let b = beside_below w h i j k.beside in
      let e = roots_same (names_roots w h s) (beside_joined w h s i j k.beside k.alike) in
      cc (name_suc w h s i b.0, name_suc w h s j b.1)

  -- the names are names
  pub names_named : Named w h s (names w h s)
  names_named =
      record {
        sized = length_names w h s;
        alike = kin_name;
        first = λ i b.
            let r = names_roots w h s in
            record {
              cell = get_or (firsts w h s) i 0;
              named = name_suc w h s i b;
              before = r.low i b;
              chain = joined_chain w h s (r.joined i b);
            };
      }

  -- cells of one region bear one name
  pub chain_name : {i j : ℕ} → Chain w h s i j → get_or (names w h s) i 0 ≡ get_or (names w h s) j 0
  chain_name = linked_same (λ i. get_or (names w h s) i 0) kin_name

  -- cells that bear one name are of one region
  pub name_chain : (i j : ℕ) → i < w * h → j < w * h → get_or (names w h s) i 0 ≡ get_or (names w h s) j 0 → Chain w h s i j
  name_chain i j b d e =
      let p = names_named.first i b in
      let q = names_named.first j d in
      let f : p.cell ≡ q.cell = cc (p.named, q.named) in
      then (rw f at p.chain) (back q.chain)

  pub same_name : (i j : ℕ) → i < w * h → j < w * h
      → (get_or (names w h s) i 0 ≡ get_or (names w h s) j 0) ↔ Chain w h s i j
  same_name i j b d = (name_chain i j b d, chain_name)

  -- a name is at least 1 and at most the number of the cell, counted from 1
  pub name_range : (i : ℕ) → i < w * h → (1 ≤ get_or (names w h s) i 0) × (get_or (names w h s) i 0 ≤ suc i)
  name_range i b = let p = names_named.first i b in omega arith

  pub name_le : (i : ℕ) → i < w * h → get_or (names w h s) i 0 ≤ w * h
  name_le i b = let r = name_range i b in omega arith

  -- the cell that a name tells is of the region
  pub name_cell : (i : ℕ) → i < w * h → Chain w h s i (get_or (names w h s) i 0 - 1)
  name_cell i b =
      let p = names_named.first i b in
      let e : get_or (names w h s) i 0 - 1 ≡ p.cell = omega arith in
      rw e p.chain

  -- and bears the name
  pub name_own : (i : ℕ) → i < w * h → get_or (names w h s) (get_or (names w h s) i 0 - 1) 0 ≡ get_or (names w h s) i 0
  name_own i b = sym (chain_name (name_cell i b))

  -- no cell of the region is earlier
  pub name_least : (i j : ℕ) → j < w * h → Chain w h s i j → get_or (names w h s) i 0 ≤ suc j
  name_least i j b l = rw (chain_name l) (name_range j b).1

-- The laws of names decide the table.
module _ (w h : ℕ) (s t : List ℕ) (r : Named w h s t) where
  named_same : {i j : ℕ} → Chain w h s i j → get_or t i 0 - 1 ≡ get_or t j 0 - 1
  named_same l = ap (λ x. x - 1) (linked_same (λ i. get_or t i 0) r.alike l)

  named_roots : Roots (west w s) (north w s) (w * h) (λ i. get_or t i 0 - 1)
  named_roots =
      record {
        same_b = λ i b. named_same (back (west_chain w h s i b));
        same_c = λ i b. named_same (back (north_chain w h s i b));
        low = λ i b. let p = r.first i b in omega arith;
        joined = λ i b.
            let p = r.first i b in
            let e : get_or t i 0 - 1 ≡ p.cell = omega arith in
            rw e (chain_joined w h s p.chain);
      }

  named_entry : (i : ℕ) → i < w * h → get_or t i 0 ≡ get_or (names w h s) i 0
  named_entry i b =
      let p = r.first i b in
      let e = roots_unique named_roots (names_roots w h s) i b in
      omega (arith, name_suc w h s i b)

  pub named_names : t ≡ names w h s
  named_names =
      ext_get_or 0 t (names w h s) (r.sized ∙ sym (length_names w h s)) (λ i b. named_entry i (rw r.sized at b))

-- Where side-by-side cells of equal label have equal labels in t too, so do the cells of a region.
relabelled : (w h : ℕ) (s t : List ℕ) → ((i j : ℕ) → Kin w h s i j → label t i ≡ label t j)
    → {i j : ℕ} → Chain w h s i j → Chain w h t i j
relabelled w h s t f = linked_map (λ i j k. step (record { beside = k.beside; alike = f i j k }))

-- The names tell nothing of the labels but which side-by-side cells have equal ones.
pub names_agree : (w h : ℕ) (s t : List ℕ)
    → ((i j : ℕ) → Beside w h i j → (label s i ≡ label s j) ↔ (label t i ≡ label t j))
    → names w h s ≡ names w h t
names_agree w h s t e =
    named_names w h t (names w h s)
    (record {
      sized = length_names w h s;
      alike = λ i j k. kin_name w h s i j (record { beside = k.beside; alike = (e i j k.beside).1 k.alike });
      first = λ i b.
          let p = (names_named w h s).first i b in
          record {
            cell = p.cell;
            named = p.named;
            before = p.before;
            chain = relabelled w h s t (λ m n r. (e m n r.beside).0 r.alike) p.chain;
          };
    })

-- a region has one label
pub chain_label : (w h : ℕ) (s : List ℕ) {i j : ℕ} → Chain w h s i j → label s i ≡ label s j
chain_label w h s = linked_same (label s) (λ i j k. k.alike)

-- side-by-side cells have equal names where they have equal labels
pub names_labels : (w h : ℕ) (s : List ℕ) (i j : ℕ) → Beside w h i j
    → (label s i ≡ label s j) ↔ (get_or (names w h s) i 0 ≡ get_or (names w h s) j 0)
names_labels w h s i j b =
    let (x, y) = beside_below w h i j b in
    (λ e. kin_name w h s i j (record { beside = b; alike = e }), λ e. chain_label w h s (name_chain w h s i j x y e))

-- Naming names changes nothing.
pub names_names : (w h : ℕ) (s : List ℕ) → names w h (names w h s) ≡ names w h s
unfolding label
names_names w h s = sym (names_agree w h s (names w h s) (names_labels w h s))

-- Joining the names a and b of two cells x and y that lie side by side: the names, with a and b made the smaller of the
-- two, are names again. That the cells lie side by side makes the two regions one, in `touching`; else it tells only
-- that both cells are on the sheet, in `touch-below`.
abbrev lowered : ℕ → ℕ → List ℕ → ℕ → ℕ → List ℕ
lowered w h s a b = map (lower a b) (names w h s)

module _ (w h : ℕ) (s : List ℕ) (a b x y : ℕ) (touch : Beside w h x y ⊎ Beside w h y x)
    (is-a : get_or (names w h s) x 0 ≡ a) (is_b : get_or (names w h s) y 0 ≡ b) where
  lowered_label : (i : ℕ) → label (lowered w h s a b) i ≡ lower a b (get_or (names w h s) i 0)
  unfolding label
  lowered_label i = get_or_lower a b (names w h s) i

  -- the cells of a region stay of one region
  lowered_chain : {i j : ℕ} → Chain w h s i j → Chain w h (lowered w h s a b) i j
  lowered_chain =
      relabelled w h s (lowered w h s a b) (λ i j k. cc (lowered_label i, lowered_label j, kin_name w h s i j k))

  touch_below : (x < w * h) × (y < w * h)
  touch_below = ⊎_elim (λ p. beside_below w h x y p) (λ p. let q = beside_below w h y x p in (q.1, q.0)) touch

  touch_label : label (lowered w h s a b) x ≡ label (lowered w h s a b) y
  touch_label = cc (lowered_label x, lowered_label y, lower_left a b, lower_right a b)

  touching : Chain w h (lowered w h s a b) x y
  touching =
      ⊎_elim (λ p. step (record { beside = p; alike = touch_label }))
      (λ p. back (step (record { beside = p; alike = sym touch_label }))) touch

  -- a cell whose name stays has its first cell still
  kept_first : (i : ℕ) → i < w * h → lower a b (get_or (names w h s) i 0) ≡ get_or (names w h s) i 0
      → First w h (lowered w h s a b) i (lower a b (get_or (names w h s) i 0))
  kept_first i d e =
      let p = (names_named w h s).first i d in
      record { cell = p.cell; named = e ∙ p.named; before = p.before; chain = lowered_chain p.chain }

  -- a cell i of the region of u, which is joined with the region of v, takes the name of v
  fallen_first : (i u v : ℕ) → i < w * h → u < w * h → v < w * h → Chain w h (lowered w h s a b) u v
      → get_or (names w h s) i 0 ≡ get_or (names w h s) u 0 → get_or (names w h s) v 0 ≤ get_or (names w h s) u 0
      → First w h (lowered w h s a b) i (get_or (names w h s) v 0)
  fallen_first i u v bi bu bv l e f =
      let p = (names_named w h s).first v bv in
      let r = name_range w h s i bi in
      record {
        cell = p.cell;
        named = p.named;
        before = omega arith;
        chain = then (lowered_chain (name_chain w h s i u bi bu e)) (then l (lowered_chain p.chain));
      }

  larger_first : (i : ℕ) → i < w * h → get_or (names w h s) i 0 ≡ max a b → Dec (a ≤ b)
      → First w h (lowered w h s a b) i (min a b)
  larger_first i d e (yes f) =
      let m : min a b ≡ get_or (names w h s) x 0 = omega arith in
      rw m (fallen_first i y x d touch_below.1 touch_below.0 (back touching) (omega arith) (omega arith))
  larger_first i d e (no f) =
      let m : min a b ≡ get_or (names w h s) y 0 = omega arith in
      rw m (fallen_first i x y d touch_below.0 touch_below.1 touching (omega arith) (omega arith))

  lowered_first : (i : ℕ) → i < w * h → First w h (lowered w h s a b) i (get_or (lowered w h s a b) i 0)
  lowered_first i d =
      rw get_or_lower
      (⊎_elim (λ p. rw p.1 (larger_first i d p.0 (dec_le a b))) (λ p. kept_first i d p.1)
      (lower_cases a b (get_or (names w h s) i 0)))

  lowered_named : Named w h (lowered w h s a b) (lowered w h s a b)
  unfolding label
  lowered_named =
      record {
        sized = length-map (names w h s) (lower a b) ∙ length_names w h s;
        alike = λ i j k. k.alike;
        first = lowered_first;
      }

  pub join_names : names w h (map (lower a b) (names w h s)) ≡ map (lower a b) (names w h s)
  join_names = sym (named_names w h (lowered w h s a b) (lowered w h s a b) lowered_named)

-- Of two regions that do not touch this fails: in a row of three cells with the labels 1, 2, 1 the names are 1, 2, 3;
-- with 1 and 3 both made 1 they are 1, 2, 1, and the names of that are 1, 2, 3 once more.
pub apart_fails : names 3 1 (map (lower 1 3) (names 3 1 (1 ∷ 2 ∷ 1 ∷ [])))
    ≢ map (lower 1 3) (names 3 1 (1 ∷ 2 ∷ 1 ∷ []))
unfolding names west north label least ties tie lower table listed
apart_fails e = let f : ◌≡◌ {A = ℕ} 3 1 = ap (λ t. get_or t 2 0) e in omega arith
