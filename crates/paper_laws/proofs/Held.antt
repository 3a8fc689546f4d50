-- Links of a level, held in tables.
--   Plane w h x     == the map x of a sheet: its size, its points, its laws
--   Held w h x k l  == the tables l have the links of the level of x that keeps the points k
use mathlib.Core.Path.{◌≡◌, refl, sym, ◌∙◌, ap, fun_ext}
use mathlib.Core.Bool.{Bool, true, false, cond, ◌&&◌}
use mathlib.Core.Logic.{◌≢◌}
use mathlib.Core.List.{List}
use Prim.Native.Nat.{ℕ, ◌<◌, ◌≤◌}
use native.Mathlib.Decide.{ℕ_discrete}
use native.Mathlib.Omega.{arith}
use lib.Dec.{eqb}
use lib.ListN.{length, set}
use lib.Seq.{get_or-set_same, get_or-set_other}
use borrow.Author.Tests.{eq-eqb, ne_eqb, le-ltb, ltb-false}
use Rattle.laws.proofs.Test.{and_left}
use Rattle.laws.proofs.Chart.{Map, Chart, Few, Covers, level}
use Rattle.laws.proofs.Over.{put, Over}
use Rattle.laws.proofs.Meet.{Two}
use Rattle.laws.proofs.Link.{next_on}
use Rattle.point_darts.specs.Dart.{mark, slots, dart, point, direction}
use Rattle.point_darts.specs.Point.{bits, half, has, degree}
use Rattle.point_darts.proofs.Darts.{point_dart, dart_own, direction_below}
use Rattle.point_darts.proofs.Points.{bits_same}
use Rattle.point_rules.proofs.Turns.{has_degree}
use Rattle.paper.specs.Level.{mask, big}
use Rattle.paper.specs.Joining.{Links, at, on, low, high}
use Rattle.paper_laws.proofs.Marks.{same_at}
use Rattle.paper_laws.proofs.Removed.{on_links}
use Rattle.paper_laws.proofs.Pair.{two_darts}
use Rattle.paper_laws.proofs.Next.{has_mask}

pub record Plane (w h : ℕ) (x : Map) : Type 0 where
  pub size : x.n ≡ slots w h
  pub leaves : (d : ℕ) → x.pt d ≡ point d
  pub chart : Chart x
  pub few : Few x (big x.on)
  pub alone : (p : ℕ) → degree (mask x.on p) ≡ 1 → ⊥

pub record Held (w h : ℕ) (x : Map) (k : ℕ → Bool) (l : Links) : Type 0 where
  pub over : Over mark x k (at l.next) (at l.other)
  pub nexts : length l.next ≡ slots w h
  pub others : length l.other ≡ slots w h

-- the tables of a level are the only ones
pub held_same : {w h : ℕ} {x : Map} {k : ℕ → Bool} {l j : Links} → Held w h x k l → Held w h x k j → l ≡ j
held_same {w} {h} {l = l} {j = j} g f =
    λ i. record {
      next = same_at (slots w h) l.next j.next g.nexts f.nexts (λ d _. g.over.nexts d ∙ sym (f.over.nexts d)) i;
      other = same_at (slots w h) l.other j.other g.others f.others (λ d _. g.over.others d ∙ sym (f.over.others d)) i;
    }

-- a table with one entry set
pub at_set : (t : List ℕ) (y v : ℕ) → y < length t → (d : ℕ) → at (set t y v) d ≡ put (at t) y v d
unfolding at put
at_set t y v l d = go (ℕ_discrete d y)
  where
    go : Dec (d ≡ y) → at (set t y v) d ≡ put (at t) y v d
    go (yes e) = rw (eq-eqb d y e, e) (get_or-set_same t y v mark l)
    go (no e) = rw (ne_eqb d y e) (get_or-set_other t y d v mark e)

-- and one more, over any function that the table had the entries of
pub at_set_more : (t : List ℕ) {f : ℕ → ℕ} (y v : ℕ) → y < length t → ((d : ℕ) → at t d ≡ f d)
    → (d : ℕ) → at (set t y v) d ≡ put f y v d
unfolding put
at_set_more t y v l e d = at_set t y v l d ∙ ap (cond (eqb d y) v) (e d)

pub mask_agree : (o q : ℕ → Bool) (p : ℕ) → ((k : ℕ) → k < 4 → o (dart p k) ≡ q (dart p k)) → mask o p ≡ mask q p
unfolding mask
mask_agree o q p e = bits_same (λ k. o (dart p k)) (λ k. q (dart p k)) e

mask_none : (p : ℕ) → mask (λ d. false) p ≡ 0
unfolding mask bits
mask_none p = refl

degree_none : degree 0 ≡ 0
unfolding degree has half
degree_none = refl

-- a point with at most two lines is not big
pub two_small : (o : ℕ → Bool) (p : ℕ) → degree (mask o p) ≤ 2 → big o p ≡ false
unfolding big
two_small o p e = le-ltb 2 (degree (mask o p)) e

pub plane_below : {w h : ℕ} {x : Map} → Plane w h x → (d : ℕ) → x.on d ≡ true → d < slots w h
plane_below s d e = rw s.size at (s.chart.turns.below d e)

-- a point that is not big and has a dart has two lines
pub small_degree : {w h : ℕ} {x : Map} → Plane w h x → (p d : ℕ) → x.on d ≡ true → x.pt d ≡ p → big x.on p ≡ false
    → degree (mask x.on p) ≡ 2
unfolding big
small_degree {x = x} s p d o q b =
    let m = mask x.on p in
    let r : p ≡ point d = sym q ∙ s.leaves d in
    let here : x.on (dart p (direction d)) ≡ true = ap (λ r. x.on (dart r (direction d))) r ∙ ap x.on (dart_own d) ∙ o in
    let b' = direction_below d in
    let most : degree m ≤ 2 = ltb-false 2 (degree m) b in
    let least : 1 ≤ degree m = has_degree m (direction d) b' (has_mask x.on p (direction d) b' ∙ here) in
    two_of (degree m) least most (s.alone p)
  where
    two_of : (g : ℕ) → 1 ≤ g → g ≤ 2 → g ≢ 1 → g ≡ 2
    two_of g a c n = omega arith

module _ {w h : ℕ} {x : Map} (s : Plane w h x) (k : ℕ → Bool) where
  pub level_was : (d : ℕ) → (level x k).on d ≡ true → x.on d ≡ true
  unfolding level
  level_was d e = and_left (x.on d) (k (x.pt d)) e

  level_at : (p j : ℕ) → j < 4 → (level x k).on (dart p j) ≡ (x.on (dart p j) && k p)
  unfolding level
  level_at p j b = ap (λ q. x.on (dart p j) && k q) (s.leaves (dart p j) ∙ point_dart p j b)

  -- the lines at a kept point, and at one that is not
  pub mask_kept : (p : ℕ) → k p ≡ true → mask (level x k).on p ≡ mask x.on p
  mask_kept p e = mask_agree (level x k).on x.on p (λ j b. level_at p j b ∙ rw e (bool_and (x.on (dart p j))))
    where
      bool_and : (t : Bool) → (t && true) ≡ t
      bool_and true = refl
      bool_and false = refl

  pub mask_free : (p : ℕ) → k p ≡ false → mask (level x k).on p ≡ 0
  mask_free p e =
      mask_agree (level x k).on (λ d. false) p (λ j b. level_at p j b ∙ rw e (bool_and (x.on (dart p j)))) ∙ mask_none p
    where
      bool_and : (t : Bool) → (t && false) ≡ false
      bool_and true = refl
      bool_and false = refl

  pub level_alone : (p : ℕ) → degree (mask (level x k).on p) ≡ 1 → ⊥
  level_alone p e = go (k p) refl
    where
      go : (t : Bool) → k p ≡ t → ⊥
      go true q = s.alone p (rw (mask_kept p q) at e)
      go false q = omega (arith, degree_none, rw (mask_free p q) at e)

  two_kept : (p : ℕ) → degree (mask (level x k).on p) ≡ 2 → k p ≡ true
  two_kept p e = go (k p) refl
    where
      go : (t : Bool) → k p ≡ t → k p ≡ true
      go true q = q
      go false q = absurd (omega (arith, degree_none, rw (mask_free p q) at e))

  -- a point that has two darts in the level is kept, is not big, and has these two darts
  pub two_level : (p : ℕ) → degree (mask (level x k).on p) ≡ 2
      → Two x p (dart p (low (mask (level x k).on p))) (dart p (high (mask (level x k).on p)))
  two_level p e =
      let q = mask_kept p (two_kept p e) in
      rw q (two_darts x s.leaves p (rw q at e))

  pub two_level_kept : (p : ℕ) → degree (mask (level x k).on p) ≡ 2 → (k p ≡ true) × (big x.on p ≡ false)
  two_level_kept p e =
      let q = rw (mask_kept p (two_kept p e)) at e in
      (two_kept p e, two_small x.on p (omega (arith, q)))

  -- a point that is kept, is not big and has a dart has two darts in the level
  pub small_two : (p d : ℕ) → x.on d ≡ true → x.pt d ≡ p → k p ≡ true → big x.on p ≡ false
      → degree (mask (level x k).on p) ≡ 2
  small_two p d o q e b = rw (mask_kept p e) (small_degree s p d o q b)

  module _ (room : slots w h ≤ mark) (v : Covers x k) {l : Links} (held : Held w h x k l) where
    -- the tables have the darts of the level
    pub on_held : on l.next ≡ (level x k).on
    unfolding level
    on_held = fun_ext (on_links l.next held.over.nexts
        (λ d e f.
        let b = plane_below s ((level x k).nx d) (next_on s.chart v d (level_was d e)) in
        omega arith))
