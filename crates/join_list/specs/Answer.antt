-- What joining by a list answers: the number and the values of each answer, and the outcome that it tells (request T-10).
--   list_number r, list_values r == the number and the values that the answer r tells
--   listed r ts ws  == the outcome that it tells
use Rattle.std.specs.Prelude.{List, [], ◌∷◌, ℕ, Result, Ok, Err}
use Rattle.paper.specs.Refusal.{Outcome, ended}
use Rattle.answer.specs.Answer.{refusal_number}
use Rattle.join_list.specs.declared.each.ListRefusal.{ListRefusal}

unfoldable pub list_number : Result (Unit {0}) ListRefusal → ℕ
list_number (Ok done) = 0
list_number (Err r) = refusal_number r.refusal

unfoldable pub list_values : Result (Unit {0}) ListRefusal → List ℕ
list_values (Ok done) = []
list_values (Err r) = r.place ∷ []

unfoldable pub listed : Result (Unit {0}) ListRefusal → List (List ℕ) → List (List ℕ) → Outcome
listed r ts ws = ended (list_number r) (list_values r) ts ws
