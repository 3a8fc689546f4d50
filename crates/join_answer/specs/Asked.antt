-- What joining answers to two names after a check of the drawing (the paper, "Refusal numbers and their order").
--   asked v w h s p a b == the number after a check that answered v: its own, else that of the first test of the names a and b that
--                      is not passed, by the level 1 sides s and the parents p
use Rattle.std.specs.Prelude.{cond, List, ℕ, eqb, Result}
use Rattle.laws.specs.First.{first_failed}
use Rattle.paper.specs.Refusal.{pair_tests}
use Rattle.answer.specs.declared.Refusal.{Refusal}
use Rattle.answer.specs.Answer.{number_of}

unfoldable pub asked : Result (Unit {0}) Refusal → ℕ → ℕ → List ℕ → List ℕ → ℕ → ℕ → ℕ
asked v w h s p a b =
    cond (eqb (number_of v) 0) (first_failed (pair_tests w h s p a b)) (number_of v)
