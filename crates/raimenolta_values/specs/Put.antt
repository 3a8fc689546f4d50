-- Answers in numbers, and what lent slots hold after an answer is put into them.
--   count_numbers a, list_numbers a, numbers a == the answer a of a count, to a list, of the reader in numbers
--   count_number a, list_number a, refusal a == the number of the refusal that an answer a in numbers tells, 0 for done
--   count_held a v   == what the slot that held v holds after the count a
--   place_held a v   == what the slot of the place, which held v, holds after the answer a to a list
--   size_held a s    == what the slot of the size, which held s, holds after the answer a of the reader
--   card_held a k    == what the slot of the card, which held k, holds after it
use Rattle.std.specs.Prelude.{List, [], ◌∷◌, ℕ, Result, Ok, Err}
use Rattle.sheet_size.specs.declared.Size.{Size}
use Rattle.answer.specs.declared.Refusal.{Refusal}
use Rattle.answer.specs.Answer.{refusal_number}
use Rattle.deck_card.specs.declared.answer.ReadRefusal.{ReadRefusal}
use Rattle.deck_card.specs.Outcome.{fault_number}
use Rattle.join_list.specs.declared.each.ListRefusal.{ListRefusal}
use Rattle.raimenolta_values.specs.declared.read.Sides.{Sides}
use Rattle.raimenolta_values.specs.declared.read.Refused.{Refused}
use Rattle.raimenolta_values.specs.declared.list.Refused.{Refused as ListRefused}

unfoldable pub count_numbers : Result ℕ Refusal → Result ℕ ℕ
count_numbers (Ok n) = Ok n
count_numbers (Err r) = Err (refusal_number r)

unfoldable pub count_number : Result ℕ ℕ → ℕ
count_number (Ok n) = 0
count_number (Err r) = r

unfoldable pub count_held : Result ℕ ℕ → ℕ → ℕ
count_held (Ok n) v = n
count_held (Err r) v = v

unfoldable pub list_numbers : Result (Unit {0}) ListRefusal → Result (Unit {0}) ListRefused
list_numbers (Ok done) = Ok done
list_numbers (Err r) = Err (record { number = refusal_number r.refusal; place = r.place })

unfoldable pub list_number : Result (Unit {0}) ListRefused → ℕ
list_number (Ok done) = 0
list_number (Err r) = r.number

unfoldable pub place_held : Result (Unit {0}) ListRefused → ℕ → ℕ
place_held (Ok done) v = v
place_held (Err r) v = r.place

unfoldable pub numbers : Result Size ReadRefusal → Result Sides Refused
numbers (Ok size) = Ok (record { width = size.width; height = size.height })
numbers (Err r) = Err (record { number = fault_number r.fault; card = r.card })

unfoldable pub refusal : Result Sides Refused → ℕ
refusal (Ok sides) = 0
refusal (Err r) = r.number

unfoldable pub size_held : Result Sides Refused → List ℕ → List ℕ
size_held (Ok sides) s = sides.width ∷ sides.height ∷ []
size_held (Err r) s = s

unfoldable pub card_held : Result Sides Refused → ℕ → ℕ
card_held (Ok sides) k = k
card_held (Err r) k = r.card
