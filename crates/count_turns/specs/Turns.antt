-- The turns of the runs, from the tables x of level 1 next, y of level 3 next and o of level 3 other.
--   whole x         == the table x has four entries for each of some points, and at most as many as the mark
--   taken_by x d     == the turn that is taken from dart d into the next that x has for it, among the lines that x has there
--   turns_to n x e is d == how many turns that pass the test is are taken from dart d on, before x leads to the dart e, n steps far
--                      at most
--   walked n x y is d == the same up to the next that y has for d; the mark where it has none
--   met o d         == the other of dart d comes before it, and d is the other of that
--   turns_at n x y o is was d == where y has a next for d: the turns that pass the test is from d on or, where its other is met before
--                      it, those that pass the test was from there on; the mark elsewhere
--   turn_table w h x y o is was == the table of these
--   Counted n x y o d r l == the tables r and l, of n entries, have the right turns and the left turns of the darts before d
use Rattle.std.specs.Prelude.{◌≡◌, Bool, cond, ◌&&◌, List, ℕ, ◌*◌, ◌≤◌, ◌<◌, eqb, ltb, length, get_or}
use Rattle.laws.specs.Table.{table}
use Rattle.laws.specs.Run.{count_to}
use Rattle.point_darts.specs.Dart.{mark, slots, point, direction}
use Rattle.point_rules.specs.declared.turn.Turn.{Turn}
use Rattle.point_rules.specs.Turn.{turning, is_right, is_left}
use Rattle.paper.specs.Level.{mask}
use Rattle.paper.specs.Joining.{at, on}

abbrev pub whole : List ℕ → Type 0
whole x = ((p : ℕ) × (4 * p ≡ length x)) × (length x ≤ mark)

unfoldable pub taken_by : List ℕ → ℕ → Turn
taken_by x d = turning (mask (on x) (point (at x d))) (direction d)

unfoldable pub turns_to : ℕ → List ℕ → ℕ → (Turn → Bool) → ℕ → ℕ
turns_to n x e is d = count_to (at x) (λ f. eqb (at x f) e) (λ f. is (taken_by x f)) n d

unfoldable pub walked : ℕ → List ℕ → List ℕ → (Turn → Bool) → ℕ → ℕ
walked n x y is d = cond (on y d) (turns_to n x (at y d) is d) mark

unfoldable pub met : List ℕ → ℕ → Bool
met o d = ltb (at o d) d && eqb (at o (at o d)) d

unfoldable pub turns_at : ℕ → List ℕ → List ℕ → List ℕ → (Turn → Bool) → (Turn → Bool) → ℕ → ℕ
turns_at n x y o is was d = cond (on y d) (cond (met o d) (walked n x y was (at o d)) (walked n x y is d)) mark

unfoldable pub turn_table : ℕ → ℕ → List ℕ → List ℕ → List ℕ → (Turn → Bool) → (Turn → Bool) → List ℕ
turn_table w h x y o is was = table (slots w h) (turns_at (slots w h) x y o is was)

pub record Counted (n : ℕ) (x y o : List ℕ) (d : ℕ) (r l : List ℕ) : Type 0 where
  pub lines : whole x
  pub below : d < n
  pub rights : length r ≡ n
  pub lefts : length l ≡ n
  pub right : (e : ℕ) → e < d → get_or r e 0 ≡ turns_at n x y o is_right is_left e
  pub left : (e : ℕ) → e < d → get_or l e 0 ≡ turns_at n x y o is_left is_right e
