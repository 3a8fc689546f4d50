-- Turns of the curves: the run back from the other end of a curve turns as often, with the hands exchanged.
--   taken w on d    == the turn that is taken at the far point of dart d
--   turns w h on keep is d == how many turns that pass the test is the run from d to the next kept point takes inside
--   level w h n 3   == level 3 of the sheet with the names n
use mathlib.Core.Path.{◌≡◌, sym, ap, ◌∙◌}
use mathlib.Core.Bool.{Bool, true, false}
use mathlib.Core.List.{List}
use Prim.Native.Nat.{ℕ}
use borrow.Author.Tests.{ltb-false}
use Rattle.laws.proofs.Loop.{Above, not_above}
use Rattle.laws.proofs.Steps.{count_back}
use Rattle.laws.proofs.Test.{and_left, and_right}
use Rattle.point_darts.specs.Dart.{point, direction, far, turned, reversal}
use Rattle.point_darts.specs.Point.{degree}
use Rattle.point_darts.proofs.Darts.{direction_below, point_reversal, direction_reversal}
use Rattle.point_rules.specs.declared.turn.Turn.{Turn}
use Rattle.point_rules.specs.Turn.{turning, turn, is_right, is_left}
use Rattle.point_rules.proofs.Turns.{turn_back}
use Rattle.paper.specs.Level.{border, mask, next, along, big, kept3, among, level}
use Rattle.paper.specs.Turns.{taken, turns}
use Rattle.paper_laws.proofs.Next.{Lines, mask_below, way_in, point_next, direction_next, next_on, far_reversal}
use Rattle.paper_laws.proofs.Sheet.{sheet, sheet_chart, border_lines}
use Rattle.paper_laws.proofs.Kept.{sheet_loops}
use Rattle.paper_laws.proofs.Along.{Kept, stop_leads, last_last, kept3_kept}

-- The way back through a point with at most two lines.
module _ (w h : ℕ) (on : ℕ → Bool) (l : Lines w h on) (d : ℕ) (e : on d ≡ true) (few : big on (far w d) ≡ false) where
  abbrev lines : ℕ
  lines = mask on (far w d)

  -- it comes in where the way forth goes out
  taken_reversed : taken w on (reversal w (next w on d)) ≡ turning lines (turned (turn lines (direction d)) 2)
  unfolding taken
  taken_reversed =
      let back = l.back d e in
      rw (
        far_reversal w h on l (next w on d) (next_on w on d back),
        point_next w on d back,
        direction_reversal w (next w on d),
        direction_next w on d back,
      )

  taken_back : let u = taken w on (reversal w (next w on d)) in
      (is_left u ≡ is_right (taken w on d)) × (is_right u ≡ is_left (taken w on d))
  unfolding taken big
  taken_back =
      rw taken_reversed
      (turn_back lines (mask_below on (far w d)) (direction d) (direction_below d) (ltb-false 2 (degree lines) few)
      (way_in w on d (l.back d e)))

-- The level along the points that pass keep, where every point with three or four lines is kept.
module _ (w h : ℕ) (n : List ℕ) (keep : ℕ → Bool) (g : Kept w h n keep) (a : Above (big (border w h n)) keep) where
  abbrev on : ℕ → Bool
  on = border w h n

  back_turns : (is was : Turn → Bool)
      → ((x : ℕ) → on x ≡ true → big on (far w x) ≡ false → is (taken w on (reversal w (next w on x))) ≡ was (taken w on x))
      → (d : ℕ) → (along w h on keep).on d ≡ true
      → turns w h on keep is ((along w h on keep).other d) ≡ turns w h on keep was d
  unfolding turns along sheet
  back_turns is was t d e =
      rw (last_last w h n keep d, stop_leads w h n keep)
      (count_back (λ x. was (taken w on x)) (λ x. is (taken w on x)) (sheet_chart w h n) g.passes
      (λ x o s. t x o (not_above a (far w x) (ap keep (sym (point_reversal w x)) ∙ s)))
      g.covers d (and_left (on d) (keep (point d)) e) (and_right (on d) (keep (point d)) e))

  along_turns : (d : ℕ) → (along w h on keep).on d ≡ true → let o = (along w h on keep).other d in
      (turns w h on keep is_left o ≡ turns w h on keep is_right d) × (turns w h on keep is_right o ≡ turns w h on keep is_left d)
  along_turns d e =
      let b = taken_back w h on (border_lines w h n) in
      (back_turns is_left is_right (λ x o f. (b x o f).0) d e, back_turns is_right is_left (λ x o f. (b x o f).1) d e)

-- the turns of the other dart of a curve of level 3 are the same two numbers exchanged
pub turns_other : (w h : ℕ) (n : List ℕ) (d : ℕ) → (level w h n 3).on d ≡ true
    → let on = border w h n in
    let keep = among (kept3 w h on) in
    let o = (level w h n 3).other d in
    (turns w h on keep is_left o ≡ turns w h on keep is_right d) × (turns w h on keep is_right o ≡ turns w h on keep is_left d)
unfolding level
turns_other w h n d e =
    along_turns w h n (among (kept3 w h (border w h n))) (kept3_kept w h n) (sheet_loops w h n).high d e
