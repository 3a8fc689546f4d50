-- What stands where groups stand for a drawing.
--   Standing ..     == groups stand for the drawing u: by the sides s and the cells c, the forest n of first cells, and the lists t, f, e
--                      of the darts of each group
--   Chosen c a b    == by the cells c the names a and b are those of two regions, neither the outside
use mathlib.Core.Path.{◌≡◌, refl, sym, ap, ◌∙◌}
use mathlib.Core.Bool.{Bool, true, false, ◌||◌}
use mathlib.Core.List.{List}
use mathlib.Core.Logic.{◌≢◌}
use Prim.Native.Nat.{ℕ, zero, suc, ◌+◌, ◌*◌, ◌-◌, ◌≤◌}
use native.Mathlib.Omega.{arith}
use lib.Dec.{eqb, lit<}
use lib.ListN.{length, get_or}
use borrow.Author.Tests.{eqb-false, not-true}
use Rattle.laws.specs.First.{first_failed}
use Rattle.laws.proofs.First.{all_passed}
use Rattle.laws.proofs.Test.{and_left, and_right, or_neither}
use Rattle.point_darts.specs.Dart.{mark, slots}
use Rattle.point_darts.proofs.Fit.{row_fit, dart_fits}
use Rattle.paper.specs.Name.{names}
use Rattle.paper.specs.Enclosure.{top_side}
use Rattle.paper.specs.Drawing.{Tables, drawn, drawing, Drawn}
use Rattle.paper.specs.Joining.{at}
use Rattle.paper.specs.Refusal.{used, name_tests, adjoin}
use Rattle.paper_laws.proofs.Marks.{within_fits, cells_slots}
use Rattle.paper_laws.proofs.InUse.{used_cells}
use Rattle.paper_laws.proofs.Enclosure.{parents_used}
use Rattle.table_entries.proofs.Entries.{on_no_mark, on_below}
use Rattle.table_forest.specs.Forest.{Forest, Grown}
use Rattle.region_darts.specs.Lists.{Of}
use Rattle.join_answer.proofs.Asking.{names_numbered}
use Rattle.laws.proofs.Table.{get_or_map}
use Rattle.join_groups.specs.Group.{group_of, Met, Unmet, Walkable, Standing}
use Rattle.join_groups.proofs.Sharing.{sized, group_dart, list_walkable, met_shared, unmet_apart}

pub record Chosen (c : List ℕ) (a b : ℕ) : Type 0 where
  pub inner : (a ≢ 0) × (b ≢ 0)
  pub apart : a ≢ b
  pub here : (used c a ≡ true) × (used c b ≡ true)

pub passed_chosen : (c : List ℕ) (a b : ℕ) → first_failed (name_tests c a b) ≡ 0 → Chosen c a b
unfolding name_tests
passed_chosen c a b e =
    let p = all_passed 6 9 (lit< tt) (name_tests c a b) (names_numbered c a b) e in
    let (x, y) = or_neither (eqb a 0) (eqb b 0) (not-true (eqb a 0 || eqb b 0) p.0) in
    record {
      inner = (eqb-false a 0 x, eqb-false b 0 y);
      apart = eqb-false a b (not-true (eqb a b) p.1.0);
      here = (and_left (used c a) (used c b) p.1.1.0, and_right (used c a) (used c b) p.1.1.0);
    }

pub chosen_swap : {c : List ℕ} {a b : ℕ} → Chosen c a b → Chosen c b a
chosen_swap k = record { inner = (k.inner.1, k.inner.0); apart = λ e. k.apart (sym e); here = (k.here.1, k.here.0) }

module _ (w h : ℕ) (s c n t f e : List ℕ) (u : Tables) (v : Standing w h s c n t f e u) where
  pub room : slots w h ≤ mark
  room = within_fits w h v.size

  pub standing_drawn : Drawn w h u
  standing_drawn = let g = v.grouped in record { labels = g.after; sized = g.long; same = g.same }

  abbrev pub standing_grown : Grown (length n) n
  standing_grown = record { labels = v.groups; forest = rw v.noded v.forest }

  pub back_room : length s + 4 * (w + 2) ≤ mark
  unfolding slots
  back_room = omega (arith, v.sided, row_fit w h, dart_fits w h v.size (slots w h) refl (slots w h - 1) (omega (arith, row_fit w h)))

  list_long : length t ≡ length s
  list_long = v.listed.0 ∙ sym v.sided

  pub side_long : length s ≤ mark
  side_long = omega (arith, v.sided, room)

  -- a region in use has its first cell
  pub name_below : (a : ℕ) → used c a ≡ true → a ≤ w * h
  unfolding used
  name_below a q = omega (arith, on_below c a q, v.counted)

  pub first_cell : (i : ℕ) → used c (suc i) ≡ true → get_or v.groups i 0 ≡ i
  unfolding used drawing drawn at
  first_cell i q =
      let g = v.grouped in
      let b = name_below (suc i) q in
      let p : used u.parent (suc i) ≡ true =
      sym (used_cells w h room u standing_drawn (suc i) (λ z. omega arith)) ∙ ap (λ k. used k (suc i)) v.cells ∙ q in
      let z = (parents_used w h g.after i (omega arith) room).0 (rw (← g.same) at (on_no_mark u.parent (suc i) p)) in
      let m : get_or (names w h g.after) i 0 ≡ suc (get_or v.groups i 0) =
      rw g.named (get_or_map suc v.groups i 0 0 (omega (arith, sized w h room s v.groups u g))) in
      omega (arith, z, m)

  -- and a dart
  pub some_dart : (a : ℕ) → a ≢ 0 → used c a ≡ true → (d : ℕ) × Of s (group_of v.groups) a d
  some_dart zero z q = absurd (z refl)
  some_dart (suc i) z q =
      (top_side w i, group_dart w h room s v.groups u v.grouped i (name_below (suc i) q) (first_cell i q))

  module _ (a b : ℕ) (k : Chosen c a b) where
    no_mark : (a : ℕ) → used c a ≡ true → a ≢ mark
    no_mark a q z = omega (arith, name_below a q, cells_slots w h, room, z)

    pub walkable : Walkable w s t (at f a) (length n)
    walkable =
        let (d, o) = some_dart a k.inner.0 k.here.0 in
        rw v.noded (list_walkable w h room s v.groups u v.grouped t f e v.lists list_long side_long a d o)

    -- what a walk through the list of a finds
    pub walk_right : (r : Bool) → (r ≡ true → Met w s v.groups t (at f a) b)
        → (r ≡ false → Unmet w s v.groups t (at f a) b (length t)) → r ≡ adjoin w h u.side1 a b
    walk_right r = by r (adjoin w h u.side1 a b) refl
      where
        by : (r i : Bool) → adjoin w h u.side1 a b ≡ i → (r ≡ true → Met w s v.groups t (at f a) b)
            → (r ≡ false → Unmet w s v.groups t (at f a) b (length t)) → r ≡ adjoin w h u.side1 a b
        by true i q p o =
            let (d, j) = some_dart a k.inner.0 k.here.0 in
            sym (met_shared w h room s v.groups u v.grouped t f e v.lists list_long side_long a d j b k.apart (p refl))
        by false false q p o = sym q
        by false true q p o =
            let (d, j) = some_dart a k.inner.0 k.here.0 in
            absurd (unmet_apart w h room s v.groups u v.grouped t f e v.lists list_long side_long a d j b
            (no_mark a k.here.0) (no_mark b k.here.1) (o refl) q)

  -- the forest is led on
  pub standing_led : (n₁ : List ℕ) → length n₁ ≡ length n → Forest (length n) v.groups n₁ → Standing w h s c n₁ t f e u
  standing_led n₁ l o =
      record {
        size = v.size;
        sided = v.sided;
        noded = l ∙ v.noded;
        listed = v.listed;
        counted = v.counted;
        cells = v.cells;
        groups = v.groups;
        forest = rw (← v.noded) o;
        grouped = v.grouped;
        lists = v.lists;
      }

  -- A walk through the list of a, which starts at x.
  module _ (a b x : ℕ) (k : Chosen c a b) (q : x ≡ at f a) where
    pub meets_ready : (length s + 4 * (w + 2) ≤ mark) × (length t ≤ mark) × Grown (length n) n × Walkable w s t x (length n)
    meets_ready = (back_room, omega (arith, list_long, side_long), standing_grown, rw q (walkable a b k))

    pub meets_told : (n₁ : List ℕ) → length n₁ ≡ length n → (r : Bool)
        → ((l : List ℕ) → Forest (length n) l n
        → Forest (length n) l n₁ × (r ≡ true → Met w s l t x b) × (r ≡ false → Unmet w s l t x b (length t)))
        → Standing w h s c n₁ t f e u × (r ≡ adjoin w h u.side1 a b)
    meets_told n₁ l r p =
        let (o, i, j) = p v.groups standing_grown.forest in
        (standing_led n₁ l o, walk_right a b k r (rw q at i) (rw q at j))
