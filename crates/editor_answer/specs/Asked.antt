-- What joining as an editor answers after a check of the drawing (request T-06).
--   named k o p e a b == the number after one that is k: it, else that of the first test of the names a and b of the editor e that is
--                      not passed, by the owners o and the parents p
--   asked k w h o s p e a b == the number after a check with the number k: its own, 11 after its 4 and before its 5, else that of the
--                      first test of the names, by the level 1 sides s too
use Rattle.std.specs.Prelude.{cond, ◌&&◌, List, ℕ, eqb}
use Rattle.laws.specs.First.{first_failed}
use Rattle.paper.specs.Editor.{both_tests, is_editor, owned, theirs, own_tests}
use Rattle.join_answer.specs.Judge.{judged_or}

unfoldable pub named : ℕ → List ℕ → List ℕ → ℕ → ℕ → ℕ → ℕ
named k o p e a b = cond (eqb k 0) (first_failed (both_tests (theirs o p e) 10 a b)) k

unfoldable pub asked : ℕ → ℕ → ℕ → List ℕ → List ℕ → List ℕ → ℕ → ℕ → ℕ → ℕ
asked k w h o s p e a b =
    let j = judged_or k (is_editor e && owned o) 11 in
    cond (eqb j 0) (first_failed (own_tests w h o s p e a b)) j
