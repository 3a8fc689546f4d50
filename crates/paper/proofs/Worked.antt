-- The outcome of each call, by worked cases: every refusal once, judged where all that comes later in the order is wrong too, and
-- done. One statement over one list: number, values, tables and work tables.
--   same_outcome    == two outcomes are equal in all four
--   refused k ts ws == the outcome with the number k, no values, and these tables and work tables left
--   one, two, four  == the drawings of P1, P2 and P7; joined_two is P2 with its two regions joined
use mathlib.Core.Path.{◌≡◌, refl, ap₂}
use mathlib.Core.Bool.{Bool, true, false, ◌&&◌, false≢true}
use mathlib.Core.List.{List, [], ◌∷◌, map}
use Prim.Native.Nat.{ℕ}
use lib.Dec.{eqb}
use lib.ListN.{replicate}
use borrow.Author.Tests.{eqb-true}
use Rattle.laws.specs.Equal.{equal}
use Rattle.laws.proofs.Cases.{Case, failed, none_failed}
use Rattle.laws.proofs.Equal.{equal_true}
use Rattle.laws.proofs.Test.{and_left, and_right}
use Rattle.paper.specs.Drawing.{Tables, drawing}
use Rattle.paper.specs.Refusal.{Outcome, ended, seven, levelled, mapped, merged, deepened, holed}
use Rattle.paper.specs.Order.{whole, merged_list, grouping, grouped}
use Rattle.paper.specs.Editor.{Call, call, started, edited}
use Rattle.paper.specs.Mixture.{after_all, replies_to, own, region}
use Rattle.paper.proofs.Opened.{opened}

unfoldable pub same_tables : List (List ℕ) → List (List ℕ) → Bool
same_tables [] [] = true
same_tables [] (u ∷ us) = false
same_tables (t ∷ ts) [] = false
same_tables (t ∷ ts) (u ∷ us) = equal t u && same_tables ts us

unfoldable pub same_outcome : Outcome → Outcome → Bool
same_outcome o p =
    (eqb o.number p.number && equal o.values p.values)
    && (same_tables o.tables p.tables && same_tables o.work p.work)

tables_equal : (ts us : List (List ℕ)) → same_tables ts us ≡ true → ts ≡ us
unfolding same_tables
tables_equal [] [] e = refl
tables_equal [] (u ∷ us) e = absurd (false≢true e)
tables_equal (t ∷ ts) [] e = absurd (false≢true e)
tables_equal (t ∷ ts) (u ∷ us) e =
    ap₂ ◌∷◌ (equal_true t u (and_left (equal t u) (same_tables ts us) e))
    (tables_equal ts us (and_right (equal t u) (same_tables ts us) e))

pub outcome_equal : (o p : Outcome) → same_outcome o p ≡ true → o ≡ p
unfolding same_outcome
outcome_equal o p e =
    let k = eqb o.number p.number in
    let v = equal o.values p.values in
    let t = same_tables o.tables p.tables in
    let w = same_tables o.work p.work in
    let a = and_left (k && v) (t && w) e in
    let b = and_right (k && v) (t && w) e in
    let n = eqb-true o.number p.number (and_left k v a) in
    let vs = equal_true o.values p.values (and_right k v a) in
    let ts = tables_equal o.tables p.tables (and_left t w b) in
    let ws = tables_equal o.work p.work (and_right t w b) in
    λ i. record { number = n i; values = vs i; tables = ts i; work = ws i }

unfoldable pub refused : ℕ → List (List ℕ) → List (List ℕ) → Outcome
refused k ts ws = ended k [] ts ws

-- a list of joins that stops with the number k at the place i
stopped : ℕ → ℕ → Tables → List (List ℕ) → Outcome
stopped k i t ws = ended k (i ∷ []) (seven t) ws

-- the mark, as the tables below have it
unfoldable pub none : ℕ
none = 65535

-- next, other and side of P1 at level 1
unfoldable pub next_1 : List ℕ
next_1 = 5 ∷ 8 ∷ none ∷ none ∷ none ∷ 14 ∷ 1 ∷ none ∷ 15 ∷ none ∷ none ∷ 0 ∷ none ∷ none ∷ 11 ∷ 6 ∷ []

other_1 : List ℕ
other_1 = 6 ∷ 11 ∷ none ∷ none ∷ none ∷ 15 ∷ 0 ∷ none ∷ 14 ∷ none ∷ none ∷ 1 ∷ none ∷ none ∷ 8 ∷ 5 ∷ []

unfoldable pub side_1 : List ℕ
side_1 = 1 ∷ 0 ∷ none ∷ none ∷ none ∷ 1 ∷ 0 ∷ none ∷ 0 ∷ none ∷ none ∷ 1 ∷ none ∷ none ∷ 1 ∷ 0 ∷ []

-- x and y at the darts 0 and 1, and n marks after them
unfoldable pub anchored : ℕ → ℕ → ℕ → List ℕ
anchored n x y = x ∷ y ∷ replicate n none

unfoldable pub one : Tables
one =
    record {
      next1 = next_1;
      side1 = side_1;
      next3 = anchored 14 0 1;
      other3 = anchored 14 1 0;
      parent = none ∷ 0 ∷ [];
      cells = 0 ∷ 1 ∷ [];
      borders = 4 ∷ 4 ∷ [];
    }

two : Tables
two = drawing 2 1 (7 ∷ 9 ∷ [])

unfoldable pub joined_two : Tables
joined_two =
    record {
      next1 = 4 ∷ 12 ∷ none ∷ none ∷ 9 ∷ none ∷ 1 ∷ none ∷ none ∷ 22 ∷ 6 ∷ none
          ∷ 16 ∷ none ∷ none ∷ 0 ∷ 23 ∷ none ∷ 15 ∷ none ∷ none ∷ none ∷ 18 ∷ 10 ∷ [];
      side1 = 1 ∷ 0 ∷ none ∷ none ∷ 1 ∷ none ∷ 0 ∷ none ∷ none ∷ 1 ∷ 0 ∷ none
          ∷ 0 ∷ none ∷ none ∷ 1 ∷ 0 ∷ none ∷ 1 ∷ none ∷ none ∷ none ∷ 1 ∷ 0 ∷ [];
      next3 = anchored 22 0 1;
      other3 = anchored 22 1 0;
      parent = none ∷ 0 ∷ none ∷ [];
      cells = 0 ∷ 2 ∷ none ∷ [];
      borders = 6 ∷ 6 ∷ none ∷ [];
    }

four : Tables
four = drawing 2 2 (65 ∷ 66 ∷ 66 ∷ 65 ∷ [])

-- seven tables of P1's size that are no drawing, the last with n entries: 2 are the stated length
unfoldable pub rubbish : ℕ → Tables
rubbish n =
    record {
      next1 = replicate 16 1;
      side1 = replicate 16 2;
      next3 = replicate 16 3;
      other3 = replicate 16 4;
      parent = replicate 2 5;
      cells = replicate 2 6;
      borders = replicate n 7;
    }

-- three tables of P1's size, the second with n entries: 16 are the stated length
lent : ℕ → List (List ℕ)
lent n = replicate 16 1 ∷ replicate n 2 ∷ replicate 16 3 ∷ []

-- four work tables of n entries, the last with m
unfoldable pub works : ℕ → ℕ → List (List ℕ)
works n m = replicate n 6 ∷ replicate n 7 ∷ replicate n 8 ∷ replicate m 9 ∷ []

unfoldable pub clean : ℕ → List (List ℕ)
clean n = replicate n 0 ∷ replicate n 0 ∷ replicate n 0 ∷ replicate n 0 ∷ []

-- owners of the names of P7: the left column is editor 1's, the right column editor 2's
lands : List ℕ
lands = 9 ∷ 1 ∷ 2 ∷ 1 ∷ 2 ∷ []

calls : List (Case Outcome)
calls =
    -- level drawing
    record { computed = levelled 0 1 4 [] (lent 15) (works 16 17); stated = refused 1 (lent 15) (works 16 17) }
    ∷ record { computed = levelled 1 73 4 [] (lent 15) (works 16 17); stated = refused 1 (lent 15) (works 16 17) }
    ∷ record { computed = levelled 1 1 4 [] (lent 15) (works 16 17); stated = refused 2 (lent 15) (works 16 17) }
    ∷ record { computed = levelled 1 1 1 [] (lent 15) (works 16 17); stated = refused 3 (lent 15) (works 16 17) }
    ∷ record { computed = levelled 1 1 1 (65 ∷ []) (lent 15) (works 16 16); stated = refused 4 (lent 15) (works 16 16) }
    ∷ record { computed = levelled 1 1 1 (65 ∷ []) (lent 16) (works 16 17); stated = refused 4 (lent 16) (works 16 17) }
    ∷ record {
      computed = levelled 1 1 1 (65 ∷ []) (lent 16) (works 16 16);
      stated = ended 0 [] (next_1 ∷ other_1 ∷ side_1 ∷ []) (clean 16);
    }
    ∷ record {
      computed = levelled 1 1 3 (65 ∷ []) (lent 16) (works 16 16);
      stated = ended 0 [] (anchored 14 0 1 ∷ anchored 14 1 0 ∷ anchored 14 1 0 ∷ []) (clean 16);
    }
    -- whole drawing
    ∷ record { computed = mapped 111 1 [] (rubbish 3) (works 16 17); stated = refused 1 (seven (rubbish 3)) (works 16 17) }
    ∷ record { computed = mapped 1 1 [] (rubbish 3) (works 16 17); stated = refused 3 (seven (rubbish 3)) (works 16 17) }
    ∷ record { computed = mapped 1 1 (65 ∷ []) (rubbish 3) (works 16 16); stated = refused 4 (seven (rubbish 3)) (works 16 16) }
    ∷ record { computed = mapped 1 1 (65 ∷ []) (rubbish 2) (works 16 17); stated = refused 4 (seven (rubbish 2)) (works 16 17) }
    ∷ record { computed = mapped 1 1 (65 ∷ []) (rubbish 2) (works 16 16); stated = ended 0 [] (seven one) (clean 16) }
    -- joining
    ∷ record { computed = merged 1 0 (rubbish 3) 0 0 (works 16 17); stated = refused 1 (seven (rubbish 3)) (works 16 17) }
    ∷ record { computed = merged 1 1 (rubbish 3) 0 0 (works 16 16); stated = refused 4 (seven (rubbish 3)) (works 16 16) }
    ∷ record { computed = merged 1 1 (rubbish 2) 0 0 (works 16 17); stated = refused 4 (seven (rubbish 2)) (works 16 17) }
    ∷ record { computed = merged 1 1 (rubbish 2) 0 0 (works 16 16); stated = refused 5 (seven (rubbish 2)) (clean 16) }
    ∷ record { computed = merged 2 1 two 0 0 (works 24 24); stated = refused 6 (seven two) (clean 24) }
    ∷ record { computed = merged 2 1 two 3 0 (works 24 24); stated = refused 6 (seven two) (clean 24) }
    ∷ record { computed = merged 2 1 two 3 3 (works 24 24); stated = refused 7 (seven two) (clean 24) }
    ∷ record { computed = merged 2 1 two 1 3 (works 24 24); stated = refused 8 (seven two) (clean 24) }
    ∷ record { computed = merged 2 1 two 3 1 (works 24 24); stated = refused 8 (seven two) (clean 24) }
    ∷ record { computed = merged 2 2 four 1 4 (works 36 36); stated = refused 9 (seven four) (clean 36) }
    ∷ record { computed = merged 2 1 two 1 2 (works 24 24); stated = ended 0 [] (seven joined_two) (clean 24) }
    ∷ record { computed = merged 2 1 two 2 1 (works 24 24); stated = ended 0 [] (seven joined_two) (clean 24) }
    -- joining by a list
    ∷ record { computed = merged_list 1 0 (rubbish 3) (0 ∷ []) (works 16 17); stated = stopped 1 0 (rubbish 3) (works 16 17) }
    ∷ record { computed = merged_list 1 1 (rubbish 3) (0 ∷ []) (works 16 16); stated = stopped 4 0 (rubbish 3) (works 16 16) }
    ∷ record { computed = merged_list 1 1 (rubbish 2) (0 ∷ []) (works 16 17); stated = stopped 4 0 (rubbish 2) (works 16 17) }
    ∷ record { computed = merged_list 1 1 (rubbish 2) (0 ∷ []) (works 16 16); stated = stopped 12 0 (rubbish 2) (clean 16) }
    ∷ record { computed = merged_list 1 1 (rubbish 2) (0 ∷ 0 ∷ []) (works 16 16); stated = stopped 5 0 (rubbish 2) (clean 16) }
    ∷ record { computed = merged_list 2 1 two (0 ∷ 0 ∷ 1 ∷ 2 ∷ []) (works 24 24); stated = stopped 6 0 two (clean 24) }
    ∷ record { computed = merged_list 2 1 two (1 ∷ 2 ∷ 3 ∷ 0 ∷ []) (works 24 24); stated = stopped 6 1 joined_two (clean 24) }
    ∷ record { computed = merged_list 2 1 two (1 ∷ 2 ∷ 3 ∷ 3 ∷ []) (works 24 24); stated = stopped 7 1 joined_two (clean 24) }
    ∷ record { computed = merged_list 2 1 two (2 ∷ 1 ∷ 1 ∷ 2 ∷ []) (works 24 24); stated = stopped 8 1 joined_two (clean 24) }
    ∷ record { computed = merged_list 2 2 four (1 ∷ 4 ∷ 1 ∷ 2 ∷ []) (works 36 36); stated = stopped 9 0 four (clean 36) }
    ∷ record { computed = merged_list 2 1 two [] (works 24 24); stated = ended 0 [] (seven two) (clean 24) }
    ∷ record { computed = merged_list 2 1 two (1 ∷ 2 ∷ []) (works 24 24); stated = ended 0 [] (seven joined_two) (clean 24) }
    -- starting with owners
    ∷ record { computed = started 111 1 [] [] (rubbish 3) (works 16 17); stated = refused 1 (seven (rubbish 3)) (works 16 17) }
    ∷ record { computed = started 1 1 [] [] (rubbish 3) (works 16 17); stated = refused 3 (seven (rubbish 3)) (works 16 17) }
    ∷ record { computed = started 1 1 (65 ∷ []) (1 ∷ []) (rubbish 2) (works 16 16); stated = refused 4 (seven (rubbish 2)) (works 16 16) }
    ∷ record {
      computed = started 1 1 (65 ∷ []) (1 ∷ 3 ∷ []) (rubbish 3) (works 16 16);
      stated = refused 4 (seven (rubbish 3)) (works 16 16);
    }
    ∷ record { computed = started 1 1 (65 ∷ []) (1 ∷ 3 ∷ []) (rubbish 2) (works 16 16); stated = refused 11 (seven (rubbish 2)) (clean 16) }
    ∷ record { computed = started 1 1 (65 ∷ []) (1 ∷ 0 ∷ []) (rubbish 2) (works 16 16); stated = refused 11 (seven (rubbish 2)) (clean 16) }
    ∷ record { computed = started 1 1 (65 ∷ []) (7 ∷ 2 ∷ []) (rubbish 2) (works 16 16); stated = ended 0 [] (seven one) (clean 16) }
    -- joining as an editor
    ∷ record { computed = edited 1 0 [] (rubbish 3) (call 3 0 0 (works 16 17)); stated = refused 1 (seven (rubbish 3)) (works 16 17) }
    ∷ record { computed = edited 1 1 (1 ∷ []) (rubbish 2) (call 3 0 0 (works 16 16)); stated = refused 4 (seven (rubbish 2)) (works 16 16) }
    ∷ record {
      computed = edited 1 1 (1 ∷ 3 ∷ []) (rubbish 3) (call 3 0 0 (works 16 16));
      stated = refused 4 (seven (rubbish 3)) (works 16 16);
    }
    ∷ record {
      computed = edited 1 1 (1 ∷ 1 ∷ []) (rubbish 2) (call 3 0 0 (works 16 16));
      stated = refused 11 (seven (rubbish 2)) (clean 16);
    }
    ∷ record {
      computed = edited 1 1 (1 ∷ 0 ∷ []) (rubbish 2) (call 1 0 0 (works 16 16));
      stated = refused 11 (seven (rubbish 2)) (clean 16);
    }
    ∷ record {
      computed = edited 1 1 (7 ∷ 2 ∷ []) (rubbish 2) (call 1 0 0 (works 16 16));
      stated = refused 5 (seven (rubbish 2)) (clean 16);
    }
    ∷ record { computed = edited 2 1 (0 ∷ 2 ∷ 2 ∷ []) two (call 1 0 0 (works 24 24)); stated = refused 6 (seven two) (clean 24) }
    ∷ record { computed = edited 2 1 (0 ∷ 2 ∷ 2 ∷ []) two (call 1 3 3 (works 24 24)); stated = refused 7 (seven two) (clean 24) }
    ∷ record { computed = edited 2 1 (0 ∷ 1 ∷ 1 ∷ []) two (call 1 1 3 (works 24 24)); stated = refused 10 (seven two) (clean 24) }
    ∷ record { computed = edited 2 1 (0 ∷ 1 ∷ 2 ∷ []) two (call 1 1 2 (works 24 24)); stated = refused 10 (seven two) (clean 24) }
    ∷ record { computed = edited 2 1 (0 ∷ 1 ∷ 2 ∷ []) two (call 1 2 1 (works 24 24)); stated = refused 10 (seven two) (clean 24) }
    ∷ record { computed = edited 2 1 (0 ∷ 2 ∷ 2 ∷ []) two (call 1 1 2 (works 24 24)); stated = refused 10 (seven two) (clean 24) }
    ∷ record { computed = edited 2 2 lands four (call 1 1 4 (works 36 36)); stated = refused 10 (seven four) (clean 36) }
    ∷ record { computed = edited 2 2 (0 ∷ 1 ∷ 1 ∷ 1 ∷ 1 ∷ []) four (call 1 1 4 (works 36 36)); stated = refused 9 (seven four) (clean 36) }
    ∷ record { computed = edited 2 1 (7 ∷ 2 ∷ 2 ∷ []) two (call 2 2 1 (works 24 24)); stated = ended 0 [] (seven joined_two) (clean 24) }
    -- depth
    ∷ record { computed = deepened 111 1 (rubbish 3) 9 (works 16 17); stated = refused 1 (seven (rubbish 3)) (works 16 17) }
    ∷ record { computed = deepened 1 1 (rubbish 2) 9 (works 16 17); stated = refused 4 (seven (rubbish 2)) (works 16 17) }
    ∷ record { computed = deepened 1 1 (rubbish 2) 9 (works 16 16); stated = refused 5 (seven (rubbish 2)) (clean 16) }
    ∷ record { computed = deepened 2 1 two 3 (works 24 24); stated = refused 8 (seven two) (clean 24) }
    ∷ record { computed = deepened 2 1 two 0 (works 24 24); stated = ended 0 (0 ∷ []) (seven two) (clean 24) }
    ∷ record { computed = deepened 2 1 two 2 (works 24 24); stated = ended 0 (1 ∷ []) (seven two) (clean 24) }
    -- hole count
    ∷ record { computed = holed 1 73 (rubbish 3) 9 (works 16 17); stated = refused 1 (seven (rubbish 3)) (works 16 17) }
    ∷ record { computed = holed 1 1 (rubbish 2) 9 (works 16 17); stated = refused 4 (seven (rubbish 2)) (works 16 17) }
    ∷ record { computed = holed 1 1 (rubbish 2) 9 (works 16 16); stated = refused 5 (seven (rubbish 2)) (clean 16) }
    ∷ record { computed = holed 2 1 two 3 (works 24 24); stated = refused 8 (seven two) (clean 24) }
    ∷ record { computed = holed 1 1 one 0 (works 16 16); stated = ended 0 (1 ∷ []) (seven one) (clean 16) }
    ∷ record { computed = holed 2 1 two 0 (works 24 24); stated = ended 0 (1 ∷ []) (seven two) (clean 24) }
    ∷ record { computed = holed 2 1 two 2 (works 24 24); stated = ended 0 (0 ∷ []) (seven two) (clean 24) }
    ∷ []

unfoldable pub calls_open : Unit {0}
unfolding opened same_tables same_outcome refused none next_1 side_1 anchored one joined_two rubbish works clean
calls_open = tt

calls_hold : failed same_outcome 0 calls ≡ []
unfolding calls_open stopped other_1 two four lent lands calls
calls_hold = refl

outcome_cases : map (λ (c : Case Outcome). c.computed) calls ≡ map (λ (c : Case Outcome). c.stated) calls
outcome_cases = none_failed same_outcome outcome_equal 0 calls calls_hold

-- Which lengths a list may have: pairs up to 5,183 of them, for wide sheets up to 7,919.
lengths_hold : map (whole 72) (0 ∷ 1 ∷ 2 ∷ 10366 ∷ 10367 ∷ 10368 ∷ []) ≡ true ∷ false ∷ true ∷ true ∷ false ∷ false ∷ []
unfolding whole
lengths_hold = refl

wide_lengths_hold : map (whole 73) (0 ∷ 1 ∷ 2 ∷ 15838 ∷ 15839 ∷ 15840 ∷ []) ≡ true ∷ false ∷ true ∷ true ∷ false ∷ false ∷ []
unfolding whole
wide_lengths_hold = refl

-- Which cells are together: the two of P2 are not, joined they are; of P7 no two are, though two and two have one label.
grouped_hold : grouped 2 1 two 0 1 ∷ grouped 2 1 joined_two 0 1 ∷ grouped 2 2 four 0 3 ∷ grouped 2 2 four 1 1 ∷ []
    ≡ false ∷ true ∷ false ∷ true ∷ []
unfolding calls_open two four grouping grouped
grouped_hold = refl

-- A mixture of calls in P7: each editor joins a column, and is refused the other's regions and what is joined already.
mixture : List Call
mixture =
    call 1 1 3 (works 36 36) ∷ call 2 2 1 (works 36 36) ∷ call 2 4 2 (works 36 36) ∷ call 1 1 2 (works 36 36)
    ∷ call 1 3 1 (works 36 36) ∷ []

replies_hold : replies_to 1 2 2 lands four mixture ∷ replies_to 2 2 2 lands four mixture ∷ replies_to 2 2 2 lands four (own 2 mixture) ∷ []
    ≡ (0 ∷ 10 ∷ 10 ∷ []) ∷ (10 ∷ 0 ∷ []) ∷ (10 ∷ 0 ∷ []) ∷ []
unfolding calls_open four lands mixture
replies_hold = refl

regions_hold : map (region 2 2 (after_all 2 2 lands four mixture)) (0 ∷ 1 ∷ 2 ∷ 3 ∷ [])
    ∷ map (region 2 2 (after_all 2 2 lands four (own 1 mixture))) (0 ∷ 1 ∷ 2 ∷ 3 ∷ []) ∷ []
    ≡ (1 ∷ 2 ∷ 1 ∷ 2 ∷ []) ∷ (1 ∷ 2 ∷ 1 ∷ 4 ∷ []) ∷ []
unfolding calls_open four lands mixture
regions_hold = refl
