-- Two editors at one sheet (request T-06). Every name from 1 to W·H, used or not, has an owner, editor 1 or editor 2; an editor joins
-- only regions of their own.
--   is_editor e      == e is the number of an editor
--   owned o         == every name has an owner, by the table o; entry 0 is not read
--   lent w h o t ws == the owners, the seven tables and the work tables have the stated lengths
--   start_tests ..   == the tests of starting: those of the whole drawing, then that of the owners; n is the sheet's length
--   started ..      == the outcome of starting
--   Call            == a call of an editor: to join the regions a and b, with work tables
--   call e a b ws   == such a call
--   both_tests p k a b == the tests of two names: neither is 0, they differ, both pass p, else k
--   theirs o p e r  == a present region of the editor e has the name r, by the owners o and the parents p
--   call_tests ..    == the tests of a call in the paper's order: of its size, lengths, owners and drawing, then of its two names
--   reply w h o t c == the number that the call c is answered with in the tables t
--   after w h o t c == the tables after it
--   edited w h o t c == its outcome
use Rattle.std.specs.Prelude.{Bool, cond, not, ◌&&◌, ◌||◌, List, [], ◌∷◌, ◌++◌, ℕ, ◌+◌, ◌*◌, eqb, length, drop}
use Rattle.laws.specs.Every.{every}
use Rattle.laws.specs.First.{first_failed}
use Rattle.paper.specs.Drawing.{Tables, drawing, is_drawing}
use Rattle.paper.specs.Joining.{at, joined}
use Rattle.paper.specs.Refusal.{Outcome, ended, outcome, work_left, seven, stated, draw_tests, size_tests, used, adjoin}

unfoldable pub is_editor : ℕ → Bool
is_editor e = eqb e 1 || eqb e 2

unfoldable pub owned : List ℕ → Bool
owned o = every is_editor (drop 1 o)

unfoldable pub lent : ℕ → ℕ → List ℕ → Tables → List (List ℕ) → Bool
lent w h o t ws = eqb (length o) (w * h + 1) && stated w h t ws

-- Starting.
unfoldable pub start_tests : ℕ → ℕ → ℕ → List ℕ → Tables → List (List ℕ) → List (Bool × ℕ)
start_tests w h n o t ws = draw_tests w h n (lent w h o t ws) ++ (owned o, 11) ∷ []

unfoldable pub started : ℕ → ℕ → List ℕ → List ℕ → Tables → List (List ℕ) → Outcome
started w h s o t ws =
    let r = first_failed (start_tests w h (length s) o t ws) in
    let drawn = seven (drawing w h s) in
    outcome r [] (seven t) drawn ws

-- Joining as an editor.
pub record Call : Type 0 where
  pub editor : ℕ
  pub a : ℕ
  pub b : ℕ
  pub work : List (List ℕ)

abbrev pub call : ℕ → ℕ → ℕ → List (List ℕ) → Call
call e a b ws = record { editor = e; a = a; b = b; work = ws }

unfoldable pub theirs : List ℕ → List ℕ → ℕ → ℕ → Bool
theirs o p e r = eqb (at o r) e && used p r

-- two names: neither is the outside's, they differ, and both pass the test p, else k
abbrev pub both_tests : (ℕ → Bool) → ℕ → ℕ → ℕ → List (Bool × ℕ)
both_tests p k a b = (not (eqb a 0 || eqb b 0), 6) ∷ (not (eqb a b), 7) ∷ (p a && p b, k) ∷ []

-- two names, by the level 1 sides s and the parents p
unfoldable pub own_tests : ℕ → ℕ → List ℕ → List ℕ → List ℕ → ℕ → ℕ → ℕ → List (Bool × ℕ)
own_tests w h o s p e a b = both_tests (theirs o p e) 10 a b ++ (adjoin w h s a b, 9) ∷ []

unfoldable pub call_tests : ℕ → ℕ → List ℕ → Tables → Call → List (Bool × ℕ)
call_tests w h o t c =
    size_tests w h (lent w h o t c.work)
    ++ (is_editor c.editor && owned o, 11) ∷ (is_drawing w h t, 5)
    ∷ own_tests w h o t.side1 t.parent c.editor c.a c.b

unfoldable pub reply : ℕ → ℕ → List ℕ → Tables → Call → ℕ
reply w h o t c = first_failed (call_tests w h o t c)

unfoldable pub after : ℕ → ℕ → List ℕ → Tables → Call → Tables
after w h o t c = cond (eqb (reply w h o t c) 0) (joined w h t c.a c.b) t

unfoldable pub edited : ℕ → ℕ → List ℕ → Tables → Call → Outcome
edited w h o t c =
    let k = reply w h o t c in
    let u = after w h o t c in
    ended k [] (seven u) (work_left k c.work)
