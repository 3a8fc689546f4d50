-- What a call answers, and what the lent table holds afterwards (the paper, "Refusal numbers and their order").
--   DeckOutcome     == the number of the refusal, 0 for done; the values; the lent table at the end
--   fault_number f  == the number of the fault f of a deck
--   fault_told a    == the number that the answer a tells, 0 where it tells no fault
--   Verdict         == what a reader says of a deck: the width and the height of its sheet, or the numbers of the refusal and the card
--   verdict a       == what the reader's answer a says
--   verdict_outcome v t == the outcome of the verdict v, with the table t: of a sheet the width and the height, of a refusal its
--                      number and the card's
--   read_outcome a t == the outcome that the reader's answer a tells, with the table t
--   write_refusal_number r == the number of the refusal r to write
--   write_number a  == the number that the writer's answer a tells, 0 for done
--   write_outcome a t == the outcome that it tells, with the bytes t
--   part_refusal_number r == the number of the refusal r of the part of a card
--   part_number r   == the same, 0 where the part is not refused
use Rattle.std.specs.Prelude.{List, [], ◌∷◌, ℕ, Option, None, Some, Result, Ok, Err}
use Rattle.sheet_size.specs.declared.Size.{Size}
use Rattle.deck_card.specs.declared.answer.Fault.{Fault}
use Rattle.deck_card.specs.declared.answer.ReadRefusal.{ReadRefusal}
use Rattle.deck_card.specs.declared.answer.WriteRefusal.{WriteRefusal}
use Rattle.deck_card.specs.declared.answer.PartRefusal.{PartRefusal}

pub record DeckOutcome : Type 0 where
  pub number : ℕ
  pub values : List ℕ
  pub table : List ℕ

abbrev pub fault_number : Fault → ℕ
fault_number Fault.Card = 20
fault_number Fault.Header = 21
fault_number Fault.Number = 22
fault_number Fault.Cell = 23
fault_number Fault.Blank = 24
fault_number Fault.End = 25
fault_number Fault.Table = 26

abbrev pub fault_told : {A : Type 0} → Result A Fault → ℕ
fault_told (Ok a) = 0
fault_told (Err fault) = fault_number fault

pub data Verdict : Type 0 where
  Sheet : ℕ → ℕ → Verdict
  Refused : ℕ → ℕ → Verdict

abbrev pub verdict : Result Size ReadRefusal → Verdict
verdict (Ok size) = Sheet size.width size.height
verdict (Err refusal) = Refused (fault_number refusal.fault) refusal.card

unfoldable pub verdict_outcome : Verdict → List ℕ → DeckOutcome
verdict_outcome (Sheet w h) t = record { number = 0; values = w ∷ h ∷ []; table = t }
verdict_outcome (Refused n k) t = record { number = n; values = k ∷ []; table = t }

unfoldable pub read_outcome : Result Size ReadRefusal → List ℕ → DeckOutcome
read_outcome a t = verdict_outcome (verdict a) t

abbrev pub write_refusal_number : WriteRefusal → ℕ
write_refusal_number WriteRefusal.Size = 1
write_refusal_number WriteRefusal.Sheet = 3
write_refusal_number WriteRefusal.Deck = 4
write_refusal_number WriteRefusal.Label = 27

abbrev pub write_number : Result (Unit {0}) WriteRefusal → ℕ
write_number (Ok done) = 0
write_number (Err refusal) = write_refusal_number refusal

unfoldable pub write_outcome : Result (Unit {0}) WriteRefusal → List ℕ → DeckOutcome
write_outcome a t = record { number = write_number a; values = []; table = t }

abbrev pub part_refusal_number : PartRefusal → ℕ
part_refusal_number PartRefusal.Width = 1
part_refusal_number PartRefusal.Card = 20

abbrev pub part_number : Option PartRefusal → ℕ
part_number None = 0
part_number (Some refusal) = part_refusal_number refusal
