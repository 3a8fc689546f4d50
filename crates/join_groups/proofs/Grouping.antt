-- Groups of cells stand for a drawing: at the start its own regions, and after each join those that it leaves.
--   group_of l v     == the name of the group that the region named v is of, by the first cells l
--   Grouped w h s l u == the drawing u is that of the groups l, made of the regions of a drawing with the sides s
use mathlib.Core.Path.{◌≡◌, refl, sym, ap, ◌∙◌}
use mathlib.Core.List.{List, [], ◌∷◌, map}
use mathlib.Core.Logic.{⊎_elim}
use Prim.Native.Nat.{ℕ, zero, suc, ◌-◌, ◌*◌, ◌<◌, ◌≤◌, zero-le}
use native.Mathlib.Decide.{dec_lt}
use native.Mathlib.Omega.{arith}
use lib.ListN.{length, get_or, length-map, get_or-map, get_or-eq_default}
use lib.Seq.{ext_get_or}
use Rattle.laws.specs.Least.{lower, least}
use Rattle.laws.proofs.Least.{lower_cases, get_or_lower}
use Rattle.laws.proofs.Table.{get_or_map}
use Rattle.point_darts.specs.Dart.{mark, slots}
use Rattle.paper.specs.Name.{west, north, names}
use Rattle.paper.specs.Drawing.{Tables, drawing, Drawn, recovered, fresh}
use Rattle.paper.specs.Joining.{joined}
use Rattle.paper.specs.Sitting.{Joinable}
use Rattle.paper_laws.proofs.Name.{length_names, name_range, name_own}
use Rattle.paper_laws.proofs.Neighbour.{joined_names}
use Rattle.paper_laws.proofs.Theorem.{removal_is_fresh}
use Rattle.paper_laws.proofs.IsDrawing.{length_recovered, recovered_names, same_drawing}
use Rattle.table_forest.specs.Forest.{Forest}
use Rattle.join_groups.specs.Group.{group_of, Grouped}

-- Numbers one greater are lowered alike.
pub lower_suc : (x y v : ℕ) → lower (suc x) (suc y) (suc v) ≡ suc (lower x y v)
lower_suc x y v =
    ⊎_elim (λ p. ⊎_elim (λ q. omega arith) (λ q. omega arith) (lower_cases (suc x) (suc y) (suc v)))
    (λ p. ⊎_elim (λ q. omega arith) (λ q. omega arith) (lower_cases (suc x) (suc y) (suc v))) (lower_cases x y v)

lower_outside : (x y : ℕ) → lower (suc x) (suc y) 0 ≡ 0
lower_outside x y = ⊎_elim (λ p. omega arith) (λ p. p.1) (lower_cases (suc x) (suc y) 0)

map_both : (f g p q : ℕ → ℕ) → ((v : ℕ) → f (g v) ≡ p (q v)) → (l : List ℕ) → map f (map g l) ≡ map p (map q l)
map_both f g p q e [] = refl
map_both f g p q e (v ∷ l) = rw (e v, map_both f g p q e l)

map_then : (f g p : ℕ → ℕ) → ((v : ℕ) → f (g v) ≡ p v) → (l : List ℕ) → map f (map g l) ≡ map p l
map_then f g p e [] = refl
map_then f g p e (v ∷ l) = rw (e v, map_then f g p e l)

-- the groups of x + 1 and y + 1 made one
pub group_lower : (l : List ℕ) (x y v : ℕ) → lower (suc x) (suc y) (group_of l v) ≡ group_of (map (lower x y) l) v
unfolding group_of
group_lower l x y zero = lower_outside x y
group_lower l x y (suc i) = lower_suc x y (get_or l i 0) ∙ ap suc (sym (get_or_lower x y l i))

-- The first cell of the region of each cell, in a sheet with the labels q.
module _ (w h : ℕ) (q : List ℕ) where
  abbrev l : List ℕ
  l = least (w * h) (west w q) (north w q)

  pub first_long : length l ≡ w * h
  unfolding names
  first_long = sym (length-map l suc) ∙ length_names w h q

  pub first_name : (i : ℕ) → i < w * h → get_or (names w h q) i 0 ≡ suc (get_or l i 0)
  unfolding names
  first_name i b = get_or_map suc l i 0 0 (omega (arith, first_long))

  first_low : (i : ℕ) → i < w * h → get_or l i 0 ≤ i
  first_low i b = omega (arith, first_name i b, name_range w h q i b)

  -- it is its own
  first_own : (i : ℕ) → i < w * h → get_or l (get_or l i 0) 0 ≡ get_or l i 0
  first_own i b =
      let k : suc (get_or l i 0) - 1 ≡ get_or l i 0 = omega arith in
      let o = rw (first_name i b, k) at (name_own w h q i b) in
      omega (arith, o, first_name (get_or l i 0) (omega (arith, first_low i b)))

  -- so the table of first cells is a forest
  pub first_forest : Forest (w * h) l l
  first_forest =
      record {
        sized = refl;
        room = omega (arith, first_long);
        labels = record { low = low; new = λ k b c. absurd (omega (arith, first_long)) };
        leads = λ k b. record { down = first_low k b; same = first_own k b; root = λ e. e };
      }
    where
      low : (k : ℕ) → get_or l k 0 ≤ k
      low k = by (dec_lt k (w * h))
        where
          by : Dec (k < w * h) → get_or l k 0 ≤ k
          by (yes b) = first_low k b
          by (no b) = let z : length l ≤ k = omega (arith, first_long) in rw (get_or-eq_default l 0 z) zero-le

module _ (w h : ℕ) (room : slots w h ≤ mark) where
  -- The regions of a drawing are groups.
  pub grouped_first : {t : Tables} → Drawn w h t → (s : List ℕ) → t.side1 ≡ s
      → let q = recovered w h s in Grouped w h s (least (w * h) (west w q) (north w q)) t
  unfolding names group_of
  grouped_first {t} d s e =
      let r = d.labels in
      let q = recovered w h s in
      let l = least (w * h) (west w q) (north w q) in
      let told : q ≡ names w h r =
      ap (recovered w h) (sym e ∙ sym (ap (λ (u : Tables). u.side1) d.same)) ∙ recovered_names w h r room in
      let all : drawing w h q ≡ t = ap (drawing w h) told ∙ same_drawing w h r ∙ d.same in
      record {
        before = q;
        after = q;
        long = length_recovered w h s;
        sides = ap (λ (u : Tables). u.side1) all ∙ e;
        same = all;
        named = refl;
        led = ext_get_or 0 (map suc l) (map (group_of l) (map suc l)) (sym (length-map (map suc l) (group_of l)))
            (λ i b.
            let c : i < w * h = rw (length-map l suc, first_long w h q) at b in
            let p = get_or_map suc l i 0 0 (omega (arith, first_long w h q)) in
            p ∙ ap suc (sym (first_own w h q i c)) ∙ sym (get_or-map (group_of l) (map suc l) i 0 ∙ ap (group_of l) p));
      }

  -- A join makes one of two groups.
  module _ (s l : List ℕ) (u : Tables) (g : Grouped w h s l u) where
    pub grouped_joined : (x y : ℕ) → Joinable w h u (suc x) (suc y)
        → Grouped w h s (map (lower x y) l) (joined w h u (suc x) (suc y))
    unfolding fresh
    grouped_joined x y j =
        let a = suc x in
        let b = suc y in
        let r = g.after in
        let k = joined_names w h r room a b (rw g.same j) in
        record {
          before = g.before;
          after = map (lower a b) (names w h r);
          long = length-map (names w h r) (lower a b) ∙ length_names w h r;
          sides = g.sides;
          same = sym (removal_is_fresh w h room r a b (rw g.same j)) ∙ ap (λ v. joined w h v a b) g.same;
          named = k ∙ ap (map (lower a b)) g.named ∙ map_both (lower a b) suc suc (lower x y) (lower_suc x y) l;
          led = k
              ∙ ap (map (lower a b)) g.led
              ∙ map_then (lower a b) (group_of l) (group_of (map (lower x y) l)) (group_lower l x y) (names w h g.before);
        }
