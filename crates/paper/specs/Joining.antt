-- The removal rule (the paper, "A drawing, and joining in it"). It reads the seven tables alone.
--   Links           == next and other of a level, as tables
--   between a b x y == x and y are a and b, in either order
--   removed ..      == the links without the darts that are taken
--   rest1, rest3    == step 1: the links of level 1, and of level 3, without the darts of sides a and b
--   smoothed ..     == step 3: the links without the points that have two darts of two different edges
--   closed ..       == step 4: each closed curve's darts moved to its anchor
--   shared_lines ..  == how many lines a and b share: each has one dart with a on its right hand and b on its left
--   added a b k t   == step 5, totals: what a and b have in the table t, added up less k, is the smaller's; the larger has none
--   joined w h t a b == the seven tables after steps 1, 3, 4 and 5
-- Step 2 removed hanging ends; step 1 leaves none (`no-hanging-line`, `no-hanging-curve` in `paper_laws`), so request T-07 took it out.
use Rattle.std.specs.Prelude.{Bool, true, false, cond, not, ◌&&◌, ◌||◌, List, ℕ, zero, suc, ◌+◌, ◌*◌, ◌-◌, min, max, eqb, get_or, set}
use Rattle.laws.specs.Table.{table, count}
use Rattle.laws.specs.Least.{lower}
use Rattle.laws.specs.Run.{run}
use Rattle.point_darts.specs.Dart.{mark, points, slots, dart, reversal}
use Rattle.point_darts.specs.Point.{has, degree}
use Rattle.paper.specs.Level.{mask, marked, tops}
use Rattle.paper.specs.Enclosure.{parents}
use Rattle.paper.specs.Drawing.{Tables}

pub record Links : Type 0 where
  pub next : List ℕ
  pub other : List ℕ

-- an entry of a table, the mark past its end
unfoldable pub at : List ℕ → ℕ → ℕ
at t d = get_or t d mark

unfoldable pub on : List ℕ → ℕ → Bool
on t d = not (eqb (at t d) mark)

unfoldable pub between : ℕ → ℕ → ℕ → ℕ → Bool
between a b x y = eqb x a && eqb y b || eqb x b && eqb y a

-- dart d has the sides a and b, where o leads from a dart to its other
unfoldable pub shared : List ℕ → (ℕ → ℕ) → ℕ → ℕ → ℕ → Bool
shared s o a b d = between a b (at s d) (at s (o d))

-- the first dart that remains of e, the next of the other of e, and on
unfoldable pub chase : Links → (ℕ → Bool) → ℕ → ℕ
chase l taken e = run (λ f. at l.next (at l.other f)) (λ f. not (taken f)) 4 e

unfoldable pub removed : ℕ → ℕ → Links → (ℕ → Bool) → Links
removed w h l taken =
    let rest : ℕ → Bool = λ d. on l.next d && not (taken d) in
    record {
      next = marked w h rest (λ d. chase l taken (at l.next d));
      other = marked w h rest (at l.other);
    }

unfoldable pub rest1 : ℕ → ℕ → Tables → ℕ → ℕ → Links
rest1 w h t a b =
    let back = table (slots w h) (reversal w) in
    removed w h (record { next = t.next1; other = back }) (shared t.side1 (at back) a b)

unfoldable pub rest3 : ℕ → ℕ → Tables → ℕ → ℕ → Links
rest3 w h t a b =
    removed w h (record { next = t.next3; other = t.other3 }) (shared t.side1 (at t.other3) a b)

-- the first and the last direction of a mask
unfoldable pub low : ℕ → ℕ
low m = cond (has m 0) 0 (cond (has m 1) 1 (cond (has m 2) 2 3))

unfoldable pub high : ℕ → ℕ
high m = cond (has m 3) 3 (cond (has m 2) 2 (cond (has m 1) 1 0))

-- darts u and v go; their others x and y become each other's other
unfoldable pub spliced : Links → ℕ → ℕ → ℕ → ℕ → Links
spliced l u v x y =
    record {
      next = set (set (set (set l.next x (at l.next v)) y (at l.next u)) u mark) v mark;
      other = set (set (set (set l.other x y) y x) u mark) v mark;
    }

unfoldable pub smooth : Links → ℕ → Links
smooth l p =
    let m = mask (on l.next) p in
    let u = dart p (low m) in
    let v = dart p (high m) in
    let x = at l.other u in
    let y = at l.other v in
    elim (eqb (degree m) 2 && not (eqb x v)) [ true ↦ spliced l u v x y | false ↦ l ]

-- points p, p + 1, .., in all n points, smoothed one after another
unfoldable pub smooths : ℕ → ℕ → Links → Links
smooths zero p l = l
smooths (suc n) p l = smooths n (suc p) (smooth l p)

unfoldable pub smoothed : ℕ → ℕ → Links → Links
smoothed w h l = smooths (points w h) 0 l

-- darts u and v give way to darts e and f, each its own next and each the other of the other
unfoldable pub moved : Links → ℕ → ℕ → ℕ → ℕ → Links
moved l u v e f =
    record {
      next = set (set (set (set l.next u mark) v mark) e e) f f;
      other = set (set (set (set l.other u mark) v mark) e f) f e;
    }

-- at a loop's point p that has only two lines left; t has the tops of the pieces
unfoldable pub close : (ℕ → Bool) → List ℕ → Links → ℕ → Links
close lines t l p =
    let m = mask (on l.next) p in
    let u = dart p (low m) in
    let v = dart p (high m) in
    let q = get_or t p 0 in
    let r = mask lines q in
    elim (eqb (degree m) 2 && eqb (at l.other u) v && eqb (degree (mask lines p)) 2) [
      | true ↦ moved l u v (dart q (low r)) (dart q (high r))
      | false ↦ l
    ]

unfoldable pub closes : (ℕ → Bool) → List ℕ → ℕ → ℕ → Links → Links
closes lines t zero p l = l
closes lines t (suc n) p l = closes lines t n (suc p) (close lines t l p)

unfoldable pub closed : ℕ → ℕ → (ℕ → Bool) → Links → Links
closed w h lines l = let t = tops w h lines in closes lines t (points w h) 0 l

unfoldable pub shared_lines : ℕ → ℕ → List ℕ → ℕ → ℕ → ℕ
shared_lines w h s a b = count (slots w h) (λ d. eqb (at s d) a && eqb (at s (reversal w d)) b)

unfoldable pub added : ℕ → ℕ → ℕ → List ℕ → List ℕ
added a b k t = set (set t (min a b) (at t a + at t b - k)) (max a b) mark

unfoldable pub joined : ℕ → ℕ → Tables → ℕ → ℕ → Tables
joined w h t a b =
    let k1 = rest1 w h t a b in
    let c3 = closed w h (on k1.next) (smoothed w h (rest3 w h t a b)) in
    let s1 = marked w h (on k1.next) (λ d. lower a b (at t.side1 d)) in
    record {
      next1 = k1.next;
      side1 = s1;
      next3 = c3.next;
      other3 = c3.other;
      parent = parents w h (on s1) (at s1);
      cells = added a b 0 t.cells;
      borders = added a b (2 * shared_lines w h t.side1 a b) t.borders;
    }
