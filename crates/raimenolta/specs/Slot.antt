-- Values in lent slots: a caller in another language takes no enum, so a call leaves its values in slots that it is lent.
--   done_held o l    == what a slot that held l holds after the outcome o: its values where it is done
--   refused_held o l == what a slot that held l holds after the outcome o: its values where it is refused
--   slotted o l     == the outcome o with its values in a slot that held l, after the other tables
--   place_slotted o l == the outcome o with the place of its refusal in a slot that held l, after the other tables
--   slotted_twice o s k == the outcome o with its values in two slots: when done in the one that held s, refused in the one
--                      that held k
--   carded o        == the outcome o of reading or writing a deck, as one with one table and no work tables
use Rattle.std.specs.Prelude.{cond, List, [], ◌∷◌, ◌++◌, ℕ, eqb}
use Rattle.paper.specs.Refusal.{Outcome, ended}
use Rattle.deck_card.specs.Outcome.{DeckOutcome}

unfoldable pub done_held : Outcome → List ℕ → List ℕ
done_held o l = cond (eqb o.number 0) o.values l

unfoldable pub refused_held : Outcome → List ℕ → List ℕ
refused_held o l = cond (eqb o.number 0) l o.values

unfoldable pub slotted : Outcome → List ℕ → Outcome
slotted o l = ended o.number [] (o.tables ++ done_held o l ∷ []) o.work

unfoldable pub place_slotted : Outcome → List ℕ → Outcome
place_slotted o l = ended o.number [] (o.tables ++ refused_held o l ∷ []) o.work

unfoldable pub slotted_twice : Outcome → List ℕ → List ℕ → Outcome
slotted_twice o s k = ended o.number [] (o.tables ++ done_held o s ∷ refused_held o k ∷ []) o.work

unfoldable pub carded : DeckOutcome → Outcome
carded o = ended o.number o.values (o.table ∷ []) []
