-- The entries of the darts that leave a point, levels 0 and 1.
--   entry_of m f d   == the entry of f where the masks m have the line of dart d, else the mark
--   onward w m d    == the dart that follows dart d
use mathlib.Core.Path.{◌≡◌, refl, ◌∙◌}
use mathlib.Core.Bool.{Bool, true, cond}
use mathlib.Core.List.{List}
use Prim.Native.Nat.{ℕ, ◌+◌, ◌*◌, ◌-◌, ◌/◌, ◌%◌, ◌≤◌, ◌<◌}
use native.Mathlib.Nat.{mul-le-mul_left}
use native.Mathlib.Omega.{arith}
use lib.Dec.{eqb, lit<}
use lib.ListN.{get_or, length}
use Rattle.sheet_size.specs.Size.{within}
use Rattle.point_darts.specs.Dart.{mark, points, dart, beside, turned}
use Rattle.point_darts.specs.Point.{half, has}
use Rattle.point_rules.specs.declared.turn.Turn.{Turn}
use Rattle.point_rules.specs.Turn.{turning_of, led, turn_of}
use Rattle.sheet_size.proofs.Limit.{within_limits}
use Rattle.point_darts.proofs.Back.{beside_le}
use Rattle.point_darts.proofs.Darts.{point_dart, direction_dart, turned_below, far_dart}
use Rattle.paper.specs.Joining.{at}
use Rattle.table_entries.specs.Pointed.{four_at, pointed}
use Rattle.table_entries.proofs.Entries.{at_in}
use Rattle.table_entries.proofs.Passed.{pointed_is}
use Rattle.level_lines.specs.Line.{lined, onward, entry_of}

-- Turning.
turned_le : (k i : ℕ) → turned k i ≤ 4
turned_le k i = omega (arith, turned_below k i)

led_le : (k : ℕ) (v : Turn) → led k v ≤ 4
unfolding led
led_le k Turn.Right = turned_le k 1
led_le k Turn.Straight = turned_le k 0
led_le k Turn.Left = turned_le k 3
led_le k Turn.Back = turned_le k 2
led_le k Turn.None = omega arith

pub turn_of_le : (m k : ℕ) → turn_of m k ≤ 4
unfolding turn_of
turn_of_le m k = led_le k (turning_of m k)

-- The entries at the darts of a point.
module _ (m : List ℕ) (p : ℕ) where
  lined_dart : (k : ℕ) → k < 4 → lined m (dart p k) ≡ has (at m p) k
  unfolding lined
  lined_dart k b = rw (point_dart p k b, direction_dart p k b)

  entry_dart : (f : ℕ → ℕ) (k x v : ℕ) (b : Bool) → k < 4 → has (at m p) k ≡ b → v ≡ cond b x mark → x ≡ f (dart p k)
      → v ≡ entry_of m f (dart p k)
  unfolding entry_of
  entry_dart f k x v b l h e q = rw (lined_dart k l, h, ← q) e

  -- four entries chosen by the four bits of a point's mask
  pub present_is : (t u : List ℕ) (l a b c d x y z n : ℕ) → l ≡ at m p
      → a ≡ cond (eqb (l % 2) 1) x mark → b ≡ cond (eqb (l / 2 % 2) 1) y mark
      → c ≡ cond (eqb (l / 2 / 2 % 2) 1) z mark → d ≡ cond (eqb (l / 2 / 2 / 2 % 2) 1) n mark
      → u ≡ four_at t p a b c d → (f : ℕ → ℕ) → x ≡ f (dart p 0) → y ≡ f (dart p 1) → z ≡ f (dart p 2)
      → n ≡ f (dart p 3) → u ≡ pointed (entry_of m f) p t
  unfolding has half
  present_is t u l a b c d x y z n q ea eb ec ed e f ex ey ez en =
      e ∙ pointed_is (entry_of m f) t p a b c d
      (entry_dart f 0 x a (eqb (l % 2) 1) (lit< tt) (rw q refl) ea ex)
      (entry_dart f 1 y b (eqb (l / 2 % 2) 1) (lit< tt) (rw q refl) eb ey)
      (entry_dart f 2 z c (eqb (l / 2 / 2 % 2) 1) (lit< tt) (rw q refl) ec ez)
      (entry_dart f 3 n d (eqb (l / 2 / 2 / 2 % 2) 1) (lit< tt) (rw q refl) ed en)

-- the darts that leave the points beside a point have numbers
pub beside_fit : (w p a b c d : ℕ) → dart p 3 + 4 * (w + 2) < mark
    → (a ≡ beside w p 0) × (b ≡ beside w p 1) × (c ≡ beside w p 2) × (d ≡ beside w p 3)
    → (a < 16383) × (b < 16383) × (c < 16383) × (d < 16383)
unfolding mark dart
beside_fit w p a b c d l e = (fits 0 a e.0, fits 1 b e.1, fits 2 c e.2, fits 3 d e.3)
  where
    fits : (k q : ℕ) → q ≡ beside w p k → q < 16383
    fits k q e = omega (arith, l, e, beside_le w p k)

-- next at the darts of a point, where q is the point that the dart leads to, and the lines there are l
onward_dart : (w p : ℕ) (m : List ℕ) (k q l r : ℕ) → k < 4 → q ≡ beside w p k → l ≡ at m q → r ≡ dart q (turn_of l k)
    → r ≡ onward w m (dart p k)
unfolding onward
onward_dart w p m k q l r b e g f = f ∙ rw (far_dart w p k b, direction_dart p k b, ← e, g)

-- next at the four darts of a point: a, b, c and d are the points beside it, i, j, k and l the lines there
module _ (w p : ℕ) (m t : List ℕ) {u : List ℕ} {a b c d i j k l x y z n : ℕ}
    (far : (a ≡ beside w p 0) × (b ≡ beside w p 1) × (c ≡ beside w p 2) × (d ≡ beside w p 3))
    (along : (x ≡ dart a (turn_of i 0)) × (y ≡ dart b (turn_of j 1)) × (z ≡ dart c (turn_of k 2)) × (n ≡ dart d (turn_of l 3)))
    (put : (f : ℕ → ℕ) → x ≡ f (dart p 0) → y ≡ f (dart p 1) → z ≡ f (dart p 2) → n ≡ f (dart p 3)
    → u ≡ pointed (entry_of m f) p t) where
  pub next_is : (i ≡ at m a) × (j ≡ at m b) × (k ≡ at m c) × (l ≡ at m d) → u ≡ pointed (entry_of m (onward w m)) p t
  next_is e =
      put (onward w m) (onward_dart w p m 0 a i x (lit< tt) far.0 e.0 along.0)
      (onward_dart w p m 1 b j y (lit< tt) far.1 e.1 along.1)
      (onward_dart w p m 2 c k z (lit< tt) far.2 e.2 along.2)
      (onward_dart w p m 3 d l n (lit< tt) far.3 e.3 along.3)

  -- where the lines south and north are given
  pub next_beside : {s v : ℕ} → (i ≡ at m (p + 1)) × (j ≡ s) × (k ≡ at m (p - 1)) × (l ≡ v)
      → s ≡ at m (p + (w + 1)) → v ≡ at m (p - (w + 1)) → u ≡ pointed (entry_of m (onward w m)) p t
  unfolding beside
  next_beside e f g =
      next_is (rw far.0 e.0, rw far.1 (e.1 ∙ f), rw far.2 e.2, rw far.3 (e.3 ∙ g))

-- the lines at a point in the table
pub lines_in : (m : List ℕ) (q i : ℕ) → q ≡ i → i < length m → get_or m i 0 ≡ at m q
lines_in m q i e b = rw e (at_in m i b)

-- a sheet has two rows of points or more
pub two_rows : (w h : ℕ) → within w h ≡ true → w + 1 + (w + 1) ≤ points w h
unfolding points
two_rows w h e =
    let l : 2 ≤ h + 1 = omega (arith, within_limits w h e) in
    omega (arith, mul-le-mul_left (w + 1) l)
