-- The part of a card and its companion, by worked cases: each refusal, in its order, and the part itself.
--   row             == a card whose first two columns hold A and B, with the number 2
use mathlib.Core.Path.{◌≡◌, refl}
use mathlib.Core.List.{List, [], ◌∷◌, ◌++◌, map}
use Prim.Native.Nat.{ℕ}
use lib.ListN.{take, replicate}
use Rattle.laws.specs.Equal.{equal}
use Rattle.laws.proofs.Cases.{Case, failed, none_failed}
use Rattle.laws.proofs.Equal.{equal_true}
use Rattle.deck_card.specs.Card.{columns, places, long, feed, whole, measured, part, part_refusal}

row : List ℕ
row = 65 ∷ 66 ∷ replicate 70 32 ++ replicate 7 48 ++ 50 ∷ 10 ∷ []

parts : List (Case (List ℕ))
parts =
    record { computed = part_refusal 0 [] ∷ part 0 []; stated = 1 ∷ [] }
    ∷ record { computed = part_refusal 73 row ∷ part 73 row; stated = 1 ∷ [] }
    ∷ record { computed = part_refusal 2 (take 80 row) ∷ part 2 (take 80 row); stated = 20 ∷ [] }
    ∷ record { computed = part_refusal 2 (10 ∷ row) ∷ part 2 (10 ∷ row); stated = 20 ∷ [] }
    ∷ record { computed = part_refusal 2 (take 80 row ++ 32 ∷ []) ∷ part 2 (take 80 row ++ 32 ∷ []); stated = 20 ∷ [] }
    ∷ record { computed = part_refusal 2 row ∷ part 2 row; stated = 0 ∷ 65 ∷ 66 ∷ [] }
    ∷ record { computed = part_refusal 72 row ∷ part 72 row; stated = 0 ∷ 65 ∷ 66 ∷ replicate 70 32 }
    ∷ []

parts_hold : failed equal 0 parts ≡ []
unfolding failed equal columns places long feed whole measured part part_refusal row parts
parts_hold = refl

part_cases : map (λ (c : Case (List ℕ)). c.computed) parts ≡ map (λ (c : Case (List ℕ)). c.stated) parts
part_cases = none_failed equal equal_true 0 parts parts_hold
