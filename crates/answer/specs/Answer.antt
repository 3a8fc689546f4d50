-- What a call answers (the paper, "Refusal numbers and their order"): it is done, or something is refused.
--   refusal_number r == the number of the refusal r
--   number_of a      == the number that the answer a tells, 0 for done
--   told a ts ws     == the outcome that the answer a tells, with no values
use Rattle.std.specs.Prelude.{List, [], ℕ, Result, Ok, Err}
use Rattle.paper.specs.Refusal.{Outcome, ended}
use Rattle.answer.specs.declared.Refusal.{Refusal}

abbrev pub refusal_number : Refusal → ℕ
refusal_number Refusal.Size = 1
refusal_number Refusal.Level = 2
refusal_number Refusal.Sheet = 3
refusal_number Refusal.Tables = 4
refusal_number Refusal.Drawing = 5
refusal_number Refusal.Outside = 6
refusal_number Refusal.Equal = 7
refusal_number Refusal.Name = 8
refusal_number Refusal.Apart = 9
refusal_number Refusal.Owner = 10
refusal_number Refusal.Editor = 11
refusal_number Refusal.List = 12

unfoldable pub number_of : {T : Type 0} → Result T Refusal → ℕ
number_of (Ok value) = 0
number_of (Err refusal) = refusal_number refusal

unfoldable pub told : Result (Unit {0}) Refusal → List (List ℕ) → List (List ℕ) → Outcome
told a ts ws = ended (number_of a) [] ts ws
