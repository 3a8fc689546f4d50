-- Values in lent slots.
--   slotted o l     == the outcome o with its values in a slot that held l, after the other tables
--   place_slotted o l == the outcome o with the place of its refusal in a slot that held l, after the other tables
--   slotted_twice o s k == the outcome o with its values in two slots: when done in the one that held s, refused in the one
--                      that held k
use mathlib.Core.Path.{◌≡◌, sym, ap}
use mathlib.Core.List.{List, [], ◌∷◌, ◌++◌}
use mathlib.Core.Logic.{◌≢◌}
use Prim.Native.Nat.{ℕ, zero, suc}
use native.Mathlib.Omega.{arith}
use lib.ListN.{length}
use borrow.Author.Tests.{ne_eqb}
use Rattle.std.specs.Prelude.{Result, Ok, Err}
use Rattle.paper.specs.Enclosure.{depth, holes}
use Rattle.paper.specs.Drawing.{Tables}
use Rattle.paper.specs.Joining.{on}
use Rattle.paper.specs.Refusal.{Outcome, ended, outcome, seven, count_refusal, deepened, holed}
use Rattle.paper.specs.Order.{placed}
use Rattle.answer.specs.declared.Refusal.{Refusal}
use Rattle.answer.specs.Answer.{refusal_number, number_of}
use Rattle.answer.proofs.Outcome.{refusal_some}
use Rattle.count_answer.specs.Count.{values, counted}
use Rattle.join_list.specs.declared.each.ListRefusal.{ListRefusal}
use Rattle.join_list.specs.Answer.{list_number as number_of_list, list_values, listed}
use Rattle.sheet_size.specs.declared.Size.{Size}
use Rattle.deck_card.specs.declared.answer.ReadRefusal.{ReadRefusal}
use Rattle.deck_card.specs.Outcome.{fault_number, verdict_outcome, read_outcome}
use Rattle.deck_reading.specs.Reading.{reading}
use Rattle.deck_reading.proofs.One.{refused_some}
use Rattle.raimenolta_values.specs.declared.read.Sides.{Sides}
use Rattle.raimenolta_values.specs.declared.read.Refused.{Refused}
use Rattle.raimenolta_values.specs.declared.list.Refused.{Refused as ListRefused}
use Rattle.raimenolta_values.specs.Put.{count_numbers, count_number, count_held, list_numbers, list_number, place_held}
use Rattle.raimenolta_values.specs.Put.{numbers, refusal, size_held, card_held}
use Rattle.raimenolta.specs.Slot.{done_held, refused_held, slotted, place_slotted, slotted_twice, carded}

-- the outcome of a count that is done has its value
valued : (k x : ℕ) (ts us ws : List (List ℕ)) → (outcome k (x ∷ []) ts us ws).number ≡ 0
    → (outcome k (x ∷ []) ts us ws).values ≢ []
unfolding outcome
valued zero x ts us ws e q = omega (arith, ap length q)
valued (suc k) x ts us ws e q = omega (arith, e)

module _ (w h : ℕ) (t : Tables) (r : ℕ) (ws : List (List ℕ)) where
  pub depth_valued : (deepened w h t r ws).number ≡ 0 → (deepened w h t r ws).values ≢ []
  unfolding deepened
  depth_valued = valued (count_refusal w h t r ws) (depth t.parent r) (seven t) (seven t) ws

  pub holes_valued : (holed w h t r ws).number ≡ 0 → (holed w h t r ws).values ≢ []
  unfolding holed
  holes_valued = valued (count_refusal w h t r ws) (holes w h (on t.side1) t.parent r) (seven t) (seven t) ws

-- A count's answer, told in numbers m, with its value in a slot, and a list's with the place of its refusal in one.
module _ (ts ws : List (List ℕ)) (o : Outcome) (l n v : ℕ) where
  pub count_slotted : (r : Result ℕ Refusal) (m : Result ℕ ℕ) → m ≡ count_numbers r → n ≡ count_number m → v ≡ count_held m l
      → counted r ts ws ≡ o → ended n [] (ts ++ (v ∷ []) ∷ []) ws ≡ slotted o (l ∷ [])
  unfolding counted number_of values slotted done_held count_numbers count_number count_held
  count_slotted (Ok i) m z p q e = rw (← e, p, q, z)
  count_slotted (Err r) m z p q e = rw (← e, p, q, z, ne_eqb (refusal_number r) 0 (refusal_some r))

  pub list_slotted : (r : Result (Unit {0}) ListRefusal) (m : Result (Unit {0}) ListRefused) → m ≡ list_numbers r
      → n ≡ list_number m → v ≡ place_held m l → listed r ts ws ≡ o
      → ended n [] (ts ++ (v ∷ []) ∷ []) ws ≡ place_slotted o (l ∷ [])
  unfolding listed number_of_list list_values place_slotted refused_held list_numbers list_number place_held
  list_slotted (Ok done) m z p q e = rw (← e, p, q, z)
  list_slotted (Err r) m z p q e = rw (← e, p, q, z, ne_eqb (refusal_number r.refusal) 0 (refusal_some r.refusal))

-- A list that is done has no values.
list_values_lem : (k i : ℕ) → k ≡ 0 → placed k i ≡ []
unfolding placed
list_values_lem k i z = rw z

-- The reader's answer, with the size in one slot and the card in another.
module _ (d t u s z : List ℕ) (k n y : ℕ) where
  pub read_slotted : (r : Result Size ReadRefusal) (m : Result Sides Refused) → m ≡ numbers r
      → n ≡ refusal m → z ≡ size_held m s → y ≡ card_held m k → read_outcome r u ≡ reading d t
      → ended n [] (u ∷ z ∷ (y ∷ []) ∷ []) [] ≡ slotted_twice (carded (reading d t)) s (k ∷ [])
  unfolding verdict_outcome read_outcome carded slotted_twice done_held refused_held numbers refusal size_held card_held
  read_slotted (Ok size) m x p q i e = rw (← e, p, q, i, x)
  read_slotted (Err r) m x p q i e =
      rw (← e, p, q, i, x, ne_eqb (fault_number r.fault) 0 (refused_some d t u (fault_number r.fault) r.card (sym e)))
