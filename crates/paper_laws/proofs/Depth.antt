-- Depth: how many parents up from a region the outside is; at most half of the smaller of w + 1 and h + 1.
--   Used w h n r    == the name r is borne by its own cell
--   parentage w h n == the table of parents, by name
--   Falls t U       == a name but 0 that U holds of has in the table t a smaller parent, and U holds of that
--   above t n r     == how many parents up from r the outside is, looked for n steps far
--   depth t r       == how many parents up from r the outside is
--   Room m d x      == of the numbers 0 to m + 1 at least d are before x, and at least d after it
--   Region r        == r is the outside, or a name in use
--   Deep r          == each cell of the region r has, in its row and in its column, room for as many as r is deep
use mathlib.Core.Path.{◌≡◌, refl, sym, ap, ◌∙◌}
use mathlib.Core.List.{List}
use mathlib.Core.Logic.{◌⊎◌, inr, ⊎_elim}
use Prim.Native.Nat.{ℕ, zero, suc, ◌+◌, ◌*◌, ◌/◌, ◌<◌, ◌≤◌, min}
use native.Mathlib.Nat.{le_refl}
use native.Mathlib.Omega.{arith}
use lib.ListN.{get_or}
use Rattle.laws.proofs.Parity.{Flanked}
use Rattle.point_darts.specs.Dart.{mark}
use Rattle.paper.specs.Name.{names, named}
use Rattle.paper.specs.Enclosure.{above, depth}
use Rattle.paper_laws.proofs.First.{every_cell, named_cell}
use Rattle.paper_laws.proofs.Enclosure.{Used, parentage, parents_below, parents_named}
use Rattle.paper_laws.proofs.Round.{parent_amid}

record Falls (t : List ℕ) (U : ℕ → Type 0) : Type 0 where
  falls : (r : ℕ) → U (suc r) → get_or t (suc r) mark ≤ r
  holds : (r : ℕ) → U (suc r) → U (get_or t (suc r) mark)

-- Where names fall from child to parent, the depth is one more than the parent's.
module _ (t : List ℕ) (U : ℕ → Type 0) (f : Falls t U) where
  above_outside : (m : ℕ) → above t m 0 ≡ 0
  unfolding above
  above_outside zero = refl
  above_outside (suc m) = refl

  -- as many steps as the name are enough, and more do no harm
  above_enough : (m k r : ℕ) → r ≤ m → r ≤ k → U r → above t m r ≡ above t k r
  unfolding above
  above_enough zero k r a b u =
      let e : r ≡ 0 = omega arith in
      sym (ap (above t k) e ∙ above_outside k)
  above_enough (suc m) k zero a b u = sym (above_outside k)
  above_enough (suc m) zero (suc r) a b u = absurd (omega arith)
  above_enough (suc m) (suc k) (suc r) a b u =
      let l = f.falls r u in
      ap suc (above_enough m k (get_or t (suc r) mark) (omega arith) (omega arith) (f.holds r u))

  depth_above : (r : ℕ) → U (suc r) → depth t (suc r) ≡ suc (depth t (get_or t (suc r) mark))
  unfolding depth above
  depth_above r u =
      let q = get_or t (suc r) mark in
      ap suc (above_enough r q q (f.falls r u) (le_refl q) (f.holds r u))

pub depth_outside : (t : List ℕ) → depth t 0 ≡ 0
unfolding depth above
depth_outside t = refl

abbrev Room : ℕ → ℕ → ℕ → Type 0
Room m d x = (d ≤ x) × (x + d ≤ suc m)

-- between two numbers with room for d there is room for one more
flanked_room : (m d x : ℕ) (P : ℕ → Type 0) → ((k : ℕ) → k ≤ suc m → P k → Room m d k) → Flanked m P x
    → Room m (suc d) x
flanked_room m d x P f a =
    let (k, l, p) = a.before in
    let (j, i, b, q) = a.after in
    omega (arith, f k (omega arith) p, f j b q)

module _ (w h : ℕ) (s : List ℕ) where
  abbrev n : List ℕ
  n = names w h s

  abbrev t : List ℕ
  t = parentage w h n

  abbrev Region : ℕ → Type 0
  Region r = (r ≡ 0) ⊎ Used w h n r

  -- the parent of a region is a region or the outside, with a smaller name
  parent_below : (r : ℕ) → Used w h n r → get_or t r mark < r
  parent_below r u = rw u.bears (parents_below w h s u.cell u.below u.own)

  parent_region : (r : ℕ) → Used w h n r → Region (get_or t r mark)
  parent_region r u = rw u.bears (parents_named w h s u.cell u.below u.own)

  names_fall : Falls t Region
  names_fall =
      record {
        falls = λ r. ⊎_elim (λ e. absurd (omega arith)) (λ u. omega (arith, parent_below (suc r) u));
        holds = λ r. ⊎_elim (λ e. absurd (omega arith)) (parent_region (suc r));
      }

  -- a region's depth is one more than its parent's
  pub depth_parent : (r : ℕ) → Used w h (names w h s) r
      → depth (parentage w h (names w h s)) r
      ≡ suc (depth (parentage w h (names w h s)) (get_or (parentage w h (names w h s)) r mark))
  depth_parent r u = rw u.bears (depth_above t Region names_fall u.cell (inr (rw (← u.bears) u)))

  abbrev Deep : ℕ → Type 0
  Deep r = (x y : ℕ) → x ≤ suc w → y ≤ suc h → named w h n x y ≡ r → Room w (depth t r) x × Room h (depth t r) y

  deep_outside : Deep 0
  deep_outside x y a b e = rw (depth_outside t) (omega arith)

  -- between cells of the parent there is room for one more
  deep_parent : (r : ℕ) → Used w h n r → Deep (get_or t r mark) → Deep r
  deep_parent r u f x y a b e =
      let q : ℕ = get_or t r mark in
      let c = parent_amid w h s r u x y e in
      rw (depth_parent r u) (
        flanked_room w (depth t q) x (λ k. named w h n k y ≡ q) (λ k l p. (f k y l b p).0) c.row,
        flanked_room h (depth t q) y (λ k. named w h n x k ≡ q) (λ k l p. (f x k a l p).1) c.column,
      )

  deep : (m r : ℕ) → r ≤ m → Region r → Deep r
  deep zero r b g = let e : r ≡ 0 = omega arith in rw e deep_outside
  deep (suc m) r b g =
      ⊎_elim (λ e. rw e deep_outside)
      (λ u. deep_parent r u (deep m (get_or t r mark) (omega (arith, parent_below r u)) (parent_region r u))) g

  -- some cell bears the name
  used_cell : (r : ℕ) → Used w h n r → (x : ℕ) × (y : ℕ) × (x ≤ w) × (y ≤ h) × (named w h n x y ≡ r)
  used_cell r u =
      every_cell w h (λ i. get_or n i 0 ≡ r → (x : ℕ) × (y : ℕ) × (x ≤ w) × (y ≤ h) × (named w h n x y ≡ r))
      (λ x y a b e. (suc x, suc y, a, b, named_cell w h n x y a b ∙ e)) u.cell u.below (u.own ∙ sym u.bears)

  -- a depth is at most half of the width and one, and of the height and one
  pub depth_bound : (r : ℕ) → Used w h (names w h s) r
      → (2 * depth (parentage w h (names w h s)) r ≤ w + 1) × (2 * depth (parentage w h (names w h s)) r ≤ h + 1)
  depth_bound r u =
      let (x, y, a, b, e) = used_cell r u in
      omega (arith, deep r r (le_refl r) (inr u) x y (omega arith) (omega arith) e)

  -- half of the smaller of the two, rounded down
  pub depth_half : (r : ℕ) → Used w h (names w h s) r
      → depth (parentage w h (names w h s)) r ≤ min (w + 1) (h + 1) / 2
  depth_half r u = omega (arith, depth_bound r u)
