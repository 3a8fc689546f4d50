-- Turns of the curves (request T-05): how often the run of a dart to the next kept point turns right, and how often left.
--   taken w on d    == the turn that is taken at the far point of dart d
--   turns w h on keep is d == how many turns that pass the test is the run from d takes strictly inside: at the points that it
--                      passes, and not at those where it starts and ends, which are kept
--   curve_turns w h on is == the table of these of the darts of level 3; the mark elsewhere
use Rattle.std.specs.Prelude.{Bool, List, ℕ}
use Rattle.laws.specs.Run.{count_to}
use Rattle.point_darts.specs.Dart.{slots, direction, far}
use Rattle.point_rules.specs.declared.turn.Turn.{Turn}
use Rattle.point_rules.specs.Turn.{turning}
use Rattle.paper.specs.Level.{mask, next, along, kept3, among, marked}

unfoldable pub taken : ℕ → (ℕ → Bool) → ℕ → Turn
taken w on d = turning (mask on (far w d)) (direction d)

unfoldable pub turns : ℕ → ℕ → (ℕ → Bool) → (ℕ → Bool) → (Turn → Bool) → ℕ → ℕ
turns w h on keep is d = count_to (next w on) (λ e. keep (far w e)) (λ e. is (taken w on e)) (slots w h) d

unfoldable pub curve_turns : ℕ → ℕ → (ℕ → Bool) → (Turn → Bool) → List ℕ
curve_turns w h on is =
    let k = kept3 w h on in
    marked w h (along w h on (among k)).on (turns w h on (among k) is)
