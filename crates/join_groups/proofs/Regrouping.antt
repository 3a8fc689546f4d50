-- From a drawing to its groups, and from groups to the drawing that they stand for.
--   Standing ..     == groups stand for the drawing u
--   Stopped ..      == so they do where a list stops
--   Regrouped ..    == the drawing where a list stops is that of some labels, whose names stand at the front of a table
use mathlib.Core.Path.{◌≡◌, refl, sym, ap, subst, ◌∙◌}
use mathlib.Core.Bool.{true}
use mathlib.Core.List.{List, map}
use mathlib.Core.Logic.{⊎_elim}
use Prim.Native.Nat.{ℕ, suc, ◌+◌, ◌*◌, ◌-◌, ◌≤◌, ◌<◌}
use native.Mathlib.Omega.{arith}
use lib.ListN.{length, get_or, take}
use lib.Seq.{ext_get_or}
use Rattle.laws.specs.Table.{table}
use Rattle.laws.specs.Least.{least}
use Rattle.laws.proofs.Table.{length_table, get_or_table}
use Rattle.sheet_size.specs.Size.{within}
use Rattle.point_darts.specs.Dart.{mark, slots}
use Rattle.paper.specs.Name.{west, north, names}
use Rattle.paper.specs.Level.{side, border, level, plain}
use Rattle.paper.specs.Total.{cells_of}
use Rattle.paper.specs.Drawing.{Tables, drawn, drawing, Drawn, recovered}
use Rattle.paper.specs.Joining.{at, on}
use Rattle.paper.specs.Order.{stop}
use Rattle.paper_laws.proofs.Name.{name_range, names_names}
use Rattle.paper_laws.proofs.IsDrawing.{length_recovered, recovered_names}
use Rattle.paper_laws.proofs.Marks.{within_fits, cells_slots}
use Rattle.paper_laws.proofs.Enclosure.{Used, side_used, side_below}
use Rattle.paper_laws.proofs.Drawn.{sides_on, drawn_side1}
use Rattle.paper_laws.proofs.Added.{length_totals}
use Rattle.table_forest.specs.Forest.{Forest}
use Rattle.region_names.specs.Frame.{Down, surround, framed}
use Rattle.region_darts.specs.Lists.{Lists}
use Rattle.region_darts.proofs.Group.{lists_as}
use Rattle.join_groups.specs.Group.{group_of, Standing, Stopped, Regrouped}
use Rattle.join_groups.proofs.Grouping.{grouped_first, first_long, first_forest, first_name}

module _ (w h : ℕ) (e : within w h ≡ true) (t : Tables) (d : Drawn w h t) (s : List ℕ) (q : t.side1 ≡ s) where
  room : slots w h ≤ mark
  room = within_fits w h e

  abbrev n : List ℕ
  n = names w h d.labels

  same_side : s ≡ (drawing w h d.labels).side1
  same_side = sym q ∙ ap (λ (u : Tables). u.side1) (sym d.same)

  told : recovered w h s ≡ n
  told = ap (recovered w h) same_side ∙ recovered_names w h d.labels room

  line : (i : ℕ) → on s i ≡ true → border w h n i ≡ true
  unfolding drawing drawn level plain
  line i o = sym (ap (λ f. f i) (sides_on w h d.labels room)) ∙ rw same_side at o

  side_at : (i : ℕ) → on s i ≡ true → at s i ≡ side w h n i
  unfolding drawing
  side_at i o = rw same_side (drawn_side1 w h n i (line i o))

  -- every side has a place in a table by name
  pub sides_fit : (m : ℕ) → m ≡ slots w h → (i : ℕ) → on s i ≡ true → at s i < m
  sides_fit m z i o = omega (arith, side_at i o, side_below w h d.labels i, cells_slots w h)

  -- at first each region is a group of its own
  abbrev first : List ℕ
  first = least (w * h) (west w (recovered w h s)) (north w (recovered w h s))

  own_group : (i : ℕ) → on s i ≡ true → group_of first (at s i) ≡ at s i
  unfolding group_of
  own_group i u = rw (side_at i u) (⊎_elim outer inner (side_used w h d.labels i))
    where
      outer : side w h n i ≡ 0 → group_of first (side w h n i) ≡ side w h n i
      outer z = rw z

      inner : Used w h n (side w h n i) → group_of first (side w h n i) ≡ side w h n i
      inner z =
          let c = z.cell in
          let a : suc (get_or first c 0) ≡ suc c =
          sym (first_name w h (recovered w h s) c z.below)
          ∙ ap (λ l. get_or l c 0) (ap (names w h) told ∙ names_names w h d.labels)
          ∙ z.own in
          rw z.bears a

  -- the names less one are the first cells
  pub names_some : (r : List ℕ) → r ≡ recovered w h s → (i : ℕ) → i < length r → 0 < get_or r i 0
  names_some r q i b =
      let z : i < w * h = rw (q, length_recovered) at b in
      let m = name_range w h d.labels i z in
      rw (q, told) (omega (arith, m))

  first_cells : (r g : List ℕ) → r ≡ recovered w h s → g ≡ table (length r) (λ i. get_or r i 0 - 1) → g ≡ first
  first_cells r g q z =
      z ∙ ap (λ u. table (length u) (λ i. get_or u i 0 - 1)) q
      ∙ ext_get_or 0 (table (length c) (λ i. get_or c i 0 - 1)) first
      (length_table (length c) (λ i. get_or c i 0 - 1) ∙ long ∙ sym (first_long w h c))
      (λ i b.
      let l : i < length c = rw length_table at b in
      let m : i < w * h = omega (arith, l, long) in
      let p : get_or c i 0 ≡ suc (get_or first i 0) = ap (λ u. get_or u i 0) again ∙ first_name w h c i m in
      get_or_table (length c) (λ i. get_or c i 0 - 1) i 0 l ∙ omega (arith, p))
    where
      c : List ℕ
      c = recovered w h s

      long : length c ≡ w * h
      long = length_recovered w h s

      again : c ≡ names w h c
      again = told ∙ sym (ap (names w h) told ∙ names_names w h d.labels)

  counted : length t.cells ≡ w * h + 1
  unfolding drawing drawn
  counted = rw (← d.same) (length_totals w h (cells_of w h n) (cells_of w h n))

  pub standing_first : length s ≡ slots w h → (r g l f k : List ℕ) → r ≡ recovered w h s → g ≡ table (length r) (λ i. get_or r i 0 - 1)
      → length g ≡ w * h → length l ≡ slots w h → length f ≡ slots w h → length k ≡ slots w h → Lists s (λ v. v) l f k
      → Standing w h s t.cells g l f k t
  standing_first z r g l f k i j lg ll lf lk p =
      let b = first_cells r g i j in
      record {
        size = e;
        sided = z;
        noded = lg;
        listed = (ll, lf, lk);
        counted = counted;
        cells = refl;
        groups = first;
        forest = rw b (first_forest w h (recovered w h s));
        grouped = grouped_first w h room d s q;
        lists = lists_as s l f k (λ v. v) (group_of first) own_group p;
      }

pub standing_cells : (w h : ℕ) (s c k l f e : List ℕ) (t : Tables) → t.cells ≡ c → Standing w h s t.cells k l f e t
    → Standing w h s c k l f e t
standing_cells w h s c k l f e t q = subst (λ i. Standing w h s i k l f e t) q

-- Names of groups.
pub forest_down : (m n : ℕ) (l u g : List ℕ) → g ≡ l → Forest n l u → Down m g
forest_down m n l u g e f k b = rw e (f.labels.low k)

pub stopped_regrouped : (w h : ℕ) (ns : List ℕ) (k i : ℕ) (t : Tables) (s c n l f e r : List ℕ)
    → Stopped w h ns k i t s c n l f e
    → ((o : List ℕ) → Forest (length n) o n → take (surround w h) r ≡ framed w h (map suc o)) → Regrouped w h ns k i t r
stopped_regrouped w h ns k i t s c n l f e r p q =
    let v = p.standing in
    let g = v.grouped in
    record {
      labels = g.after;
      stops = ap (stop k i) g.same ∙ p.stops;
      round = q v.groups (rw v.noded v.forest) ∙ ap (framed w h) (sym g.named);
    }
