-- Turns taken on the way along a table x of next.
--   taken_by x d     == the turn that is taken from dart d into the next that x has for it
--   turns_to n x e is d == how many turns that pass the test is are taken from dart d on, before x leads to the dart e
--   Going n x e s i r l d a == of the turns from dart s on, n steps far, r to the right and l to the left are counted in i steps;
--                      the rest are those from dart d on, and a is next of d
use mathlib.Core.Path.{◌≡◌, refl, sym, ap, ◌∙◌}
use mathlib.Core.Bool.{Bool, true, false, cond}
use mathlib.Core.List.{List}
use mathlib.Core.Logic.{◌≢◌}
use Prim.Native.Nat.{ℕ, suc, ◌+◌, ◌-◌, ◌≤◌, ◌<◌}
use native.Mathlib.Omega.{arith}
use lib.Dec.{eqb, ltb}
use lib.ListN.{length, get_or}
use borrow.Author.Tests.{lt-ltb, le-ltb, ltb-true, eqb-true, eq-eqb, ne_eqb}
use Rattle.laws.specs.Table.{number}
use Rattle.laws.specs.Run.{count_to}
use Rattle.laws.proofs.Test.{and_left, and_right}
use Rattle.laws.proofs.Steps.{count_stop, count_go, count_most}
use Rattle.sheet_size.specs.Size.{within}
use Rattle.point_darts.specs.Dart.{mark, points, slots, dart, point, direction}
use Rattle.point_darts.specs.Point.{bits}
use Rattle.point_darts.proofs.Darts.{direction_below}
use Rattle.point_rules.specs.declared.turn.Turn.{Turn}
use Rattle.point_rules.specs.Turn.{turning, turning_of, is_right, is_left}
use Rattle.paper.specs.Level.{mask}
use Rattle.paper.specs.Joining.{at, on}
use Rattle.paper_laws.proofs.Next.{mask_below}
use Rattle.paper_laws.proofs.Marks.{within_fits}
use Rattle.table_entries.proofs.Entries.{at_end, on_mark, on_entry}
use Rattle.count_turns.specs.Turns.{whole, taken_by, turns_to, walked, met, turns_at, Counted}

-- no line is present past the end of a table
pub mask_past : (t : List ℕ) (p : ℕ) → length t ≤ dart p 0 → 0 ≡ mask (on t) p
unfolding mask bits dart
mask_past t p b =
    let off : (k : ℕ) → on t (dart p k) ≡ false = λ k. on_mark t (dart p k) (at_end t (dart p k) (omega arith)) in
    rw (off 0, off 1, off 2, off 3)

-- the turn of the next line, where the lines are those of a point
pub turning_mask : (x : List ℕ) (d a p m k : ℕ) → p ≡ point a → m ≡ mask (on x) p → k ≡ direction d → (v : Turn)
    → v ≡ turning_of m k → v ≡ turning (mask (on x) (point a)) (direction d)
unfolding turning_of
turning_mask x d a p m k e f g v q =
    q ∙ rw (g, f, e, lt-ltb (mask (on x) (point a)) 16 (mask_below (on x) (point a)), lt-ltb (direction d) 4 (direction_below d))

-- Turns of one kind, which the test is tells.
module _ (x : List ℕ) (e : ℕ) (is : Turn → Bool) where
  -- nothing is counted where x leads to the end
  turns_stop : (n d a : ℕ) → a ≡ at x d → a ≡ e → turns_to n x e is d ≡ 0
  unfolding turns_to
  turns_stop n d a p q = count_stop _ _ _ n d (eq-eqb (at x d) e (sym p ∙ q))

  turns_go : (n d a : ℕ) → a ≡ at x d → a ≢ e → (v : Turn) → v ≡ turning (mask (on x) (point a)) (direction d)
      → (i : ℕ) → i ≡ number (is v) → turns_to (suc n) x e is d ≡ i + turns_to n x e is a
  unfolding turns_to taken_by
  turns_go n d a p q v f i g = rw (g, f, p) (count_go _ _ _ n d (ne_eqb (at x d) e (λ z. q (p ∙ z))))

  turns_none : (d : ℕ) → turns_to 0 x e is d ≡ 0
  unfolding turns_to count_to
  turns_none d = refl

  turns_most : (n d : ℕ) → turns_to n x e is d ≤ n
  unfolding turns_to
  turns_most n d = count_most _ _ _ n d

-- On the way.
pub record Going (n : ℕ) (x : List ℕ) (e s i r l d a : ℕ) : Type 0 where
  pub right : r + turns_to (n - i) x e is_right d ≡ turns_to n x e is_right s
  pub left : l + turns_to (n - i) x e is_left d ≡ turns_to n x e is_left s
  pub after : a ≡ at x d

module _ (n : ℕ) (x : List ℕ) (e s : ℕ) where
  pub going_none : (a : ℕ) → a ≡ at x s → Going n x e s 0 0 0 s a
  going_none a p =
      let z : n - 0 ≡ n = omega arith in
      record { right = rw z (omega arith); left = rw z (omega arith); after = p }

  module _ (i r l d a : ℕ) (g : Going n x e s i r l d a) where
    -- the end is reached
    pub going_stop : a ≡ e → (r ≡ turns_to n x e is_right s) × (l ≡ turns_to n x e is_left s)
    going_stop q = (
      omega (arith, g.right, turns_stop x e is_right (n - i) d a g.after q),
      omega (arith, g.left, turns_stop x e is_left (n - i) d a g.after q),
    )

    -- no step is left
    pub going_out : n ≤ i → (r ≡ turns_to n x e is_right s) × (l ≡ turns_to n x e is_left s)
    going_out h =
        let z : n - i ≡ 0 = omega arith in
        (omega (arith, rw z at g.right, turns_none x e is_right d), omega (arith, rw z at g.left, turns_none x e is_left d))

    -- one step more, with the turn v
    module _ (h : i < n) (q : a ≢ e) (v : Turn) (f : v ≡ turning (mask (on x) (point a)) (direction d)) where
      one : n - i ≡ suc (n - (i + 1))
      one = omega arith

      right_on : (j : ℕ) → j ≡ number (is_right v) → r + j + turns_to (n - (i + 1)) x e is_right a ≡ turns_to n x e is_right s
      right_on j t = omega (arith, rw one at g.right, turns_go x e is_right (n - (i + 1)) d a g.after q v f j t)

      left_on : (k : ℕ) → k ≡ number (is_left v) → l + k + turns_to (n - (i + 1)) x e is_left a ≡ turns_to n x e is_left s
      left_on k u = omega (arith, rw one at g.left, turns_go x e is_left (n - (i + 1)) d a g.after q v f k u)

      -- no more turns than steps
      pub right_fits : (j : ℕ) → j ≡ number (is_right v) → r + j ≤ n
      right_fits j t = omega (arith, right_on j t, turns_most x e is_right n s)

      pub left_fits : (k : ℕ) → k ≡ number (is_left v) → l + k ≤ n
      left_fits k u = omega (arith, left_on k u, turns_most x e is_left n s)

      pub going_more : (j k b : ℕ) → j ≡ number (is_right v) → k ≡ number (is_left v) → b ≡ at x a
          → Going n x e s (i + 1) (r + j) (l + k) a b
      going_more j k b t u p = record { right = right_on j t; left = left_on k u; after = p }

-- Whether the other of a dart is met before it.
module _ (o : List ℕ) (d f : ℕ) (e : f ≡ at o d) where
  pub met_before : f < d → (g : ℕ) → g ≡ at o f → eqb g d ≡ met o d
  unfolding met
  met_before b g q = rw (← e, lt-ltb f d b, q)

  pub met_after : d ≤ f → false ≡ met o d
  unfolding met
  met_after b = rw (← e, le-ltb f d b)

module _ (o : List ℕ) (d : ℕ) (m : met o d ≡ true) where
  pub met_below : at o d < d
  unfolding met
  met_below = ltb-true _ _ (and_left (ltb (at o d) d) _ m)

  -- the other of a dart that was met does not meet it
  met_once : met o (at o d) ≡ false
  unfolding met
  met_once =
      let back : at o (at o d) ≡ d = eqb-true _ _ (and_right (ltb (at o d) d) (eqb (at o (at o d)) d) m) in
      rw (back, le-ltb d (at o d) (omega (arith, met_below)))

-- a choice made twice
twice : (b : Bool) (v w : ℕ) → cond b (cond b v w) w ≡ cond b v w
twice true v w = refl
twice false v w = refl

-- Up to the next that a table y has, or from the other end.
module _ (n : ℕ) (x y o : List ℕ) (is was : Turn → Bool) (d a : ℕ) (e : a ≡ at y d) where
  pub turns_off : a ≡ mark → mark ≡ turns_at n x y o is was d
  unfolding turns_at
  turns_off z = rw (on_mark y d (sym e ∙ z))

  module _ (z : a ≢ mark) where
    here : on y d ≡ true
    here = on_entry y d (λ f. z (e ∙ f))

    pub turns_walked : met o d ≡ false → (v : ℕ) → v ≡ turns_to n x a is d → v ≡ turns_at n x y o is was d
    unfolding turns_at walked
    turns_walked m v q = q ∙ rw (here, m, e)

    pub turns_met : met o d ≡ true → (v : ℕ) → v ≡ turns_at n x y o was is (at o d) → v ≡ turns_at n x y o is was d
    unfolding turns_at walked
    turns_met m v q = q ∙ rw (here, m, met_once o d m) (twice (on y (at o d)) _ mark)

-- The entries of the other of a dart that was met.
module _ {n : ℕ} {x y o : List ℕ} {d : ℕ} {r l : List ℕ} (c : Counted n x y o d r l) (f : ℕ) (e : f ≡ at o d)
    (m : met o d ≡ true) where
  pub other_below : (f < length r) × (f < length l)
  other_below =
      let b : f < d = rw e (met_below o d m) in
      (omega (arith, c.below, c.rights), omega (arith, c.below, c.lefts))

  pub counted_met : (a : ℕ) → a ≡ at y d → a ≢ mark
      → (get_or l f 0 ≡ turns_at n x y o is_right is_left d) × (get_or r f 0 ≡ turns_at n x y o is_left is_right d)
  counted_met a p z =
      let b : f < d = rw e (met_below o d m) in (
        turns_met n x y o is_right is_left d a p z m _ (c.left f b ∙ ap (turns_at n x y o is_left is_right) e),
        turns_met n x y o is_left is_right d a p z m _ (c.right f b ∙ ap (turns_at n x y o is_right is_left) e),
      )

-- a table by dart has four entries for each point
pub whole_slots : (w h : ℕ) (x : List ℕ) → within w h ≡ true → length x ≡ slots w h → whole x
unfolding slots
whole_slots w h x e l = ((points w h, sym l), rw l (within_fits w h e))
