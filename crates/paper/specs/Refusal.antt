-- Refusals and outcomes (the paper, "Refusal numbers and their order"). An outcome is all that a call leaves behind.
--   number          == the refusal's number, 0 for done
--   values          == the numbers that are answered
--   tables, work    == what the lent tables and the work tables hold afterwards, in the order in which they are lent
--   ended k vs ts ws == the outcome with the number k, the values vs, and these tables and work tables left
--   work_left k ws   == what an outcome with the number k leaves of the work tables ws
--   .. Tests        == the tests of a call in the paper's order, each with the number of the refusal where it is not passed: n is the
--                      sheet's length, k says that the lengths of the tables are the stated ones
--   .. Refusal      == the number of the first refusal, 0 for none
--   levelled, mapped, merged, deepened, holed == the outcomes of level drawing, whole drawing, joining, depth and hole count
use Rattle.std.specs.Prelude.{Bool, true, cond, not, ◌&&◌, ◌||◌, List, [], ◌∷◌, ◌++◌, map, length, replicate}
use Rattle.std.specs.Prelude.{ℕ, zero, suc, ◌+◌, ◌*◌, eqb, leb, ltb}
use Rattle.laws.specs.Table.{some}
use Rattle.laws.specs.First.{first_failed}
use Rattle.sheet_size.specs.Size.{within}
use Rattle.point_darts.specs.Dart.{slots, reversal}
use Rattle.paper.specs.Name.{names}
use Rattle.paper.specs.Level.{side, level, marked}
use Rattle.paper.specs.Enclosure.{depth, holes}
use Rattle.paper.specs.Drawing.{Tables, drawing, is_drawing}
use Rattle.paper.specs.Joining.{on, shared, joined}

pub record Outcome : Type 0 where
  pub number : ℕ
  pub values : List ℕ
  pub tables : List (List ℕ)
  pub work : List (List ℕ)

abbrev pub ended : ℕ → List ℕ → List (List ℕ) → List (List ℕ) → Outcome
ended k vs ts ws = record { number = k; values = vs; tables = ts; work = ws }

-- every table has n entries
unfoldable pub sized : ℕ → List (List ℕ) → Bool
sized n [] = true
sized n (t ∷ ts) = eqb (length t) n && sized n ts

unfoldable pub cleared : List (List ℕ) → List (List ℕ)
cleared ws = map (λ t. replicate (length t) 0) ws

-- refusals 1 to 4 leave the work tables, every later outcome clears them
unfoldable pub work_left : ℕ → List (List ℕ) → List (List ℕ)
work_left zero ws = cleared ws
work_left (suc r) ws = cond (ltb r 4) ws (cleared ws)

-- a refusal leaves the tables
unfoldable pub outcome : ℕ → List ℕ → List (List ℕ) → List (List ℕ) → List (List ℕ) → Outcome
outcome zero values before after ws = ended 0 values after (work_left 0 ws)
outcome (suc r) values before after ws = ended (suc r) [] before (work_left (suc r) ws)

-- Level drawing.
unfoldable pub level_tests : ℕ → ℕ → ℕ → ℕ → Bool → List (Bool × ℕ)
level_tests w h l n k = (within w h, 1) ∷ (leb l 3, 2) ∷ (eqb n (w * h), 3) ∷ (k, 4) ∷ []

unfoldable pub level_refusal : ℕ → ℕ → ℕ → List ℕ → List (List ℕ) → List (List ℕ) → ℕ
level_refusal w h l s ts ws = first_failed (level_tests w h l (length s) (sized (slots w h) (ts ++ ws)))

-- next, other and side of level l
unfoldable pub level_tables : ℕ → ℕ → ℕ → List ℕ → List (List ℕ)
level_tables w h l s =
    let n = names w h s in
    let m = level w h n l in
    marked w h m.on m.next ∷ marked w h m.on m.other ∷ marked w h m.on (side w h n) ∷ []

unfoldable pub levelled : ℕ → ℕ → ℕ → List ℕ → List (List ℕ) → List (List ℕ) → Outcome
levelled w h l s ts ws =
    let r = level_refusal w h l s ts ws in
    let after = level_tables w h l s in
    outcome r [] ts after ws

-- Whole drawing.
unfoldable pub seven : Tables → List (List ℕ)
seven t = t.next1 ∷ t.side1 ∷ t.next3 ∷ t.other3 ∷ t.parent ∷ t.cells ∷ t.borders ∷ []

-- the seven tables and the work tables have the stated lengths
unfoldable pub stated : ℕ → ℕ → Tables → List (List ℕ) → Bool
stated w h t ws =
    sized (w * h + 1) (t.parent ∷ t.cells ∷ t.borders ∷ [])
    && sized (slots w h) (t.next1 ∷ t.side1 ∷ t.next3 ∷ t.other3 ∷ ws)

unfoldable pub draw_tests : ℕ → ℕ → ℕ → Bool → List (Bool × ℕ)
draw_tests w h n k = (within w h, 1) ∷ (eqb n (w * h), 3) ∷ (k, 4) ∷ []

unfoldable pub draw_refusal : ℕ → ℕ → List ℕ → Tables → List (List ℕ) → ℕ
draw_refusal w h s t ws = first_failed (draw_tests w h (length s) (stated w h t ws))

unfoldable pub mapped : ℕ → ℕ → List ℕ → Tables → List (List ℕ) → Outcome
mapped w h s t ws =
    let r = draw_refusal w h s t ws in
    let after = seven (drawing w h s) in
    outcome r [] (seven t) after ws

-- Calls that are given a drawing.
unfoldable pub size_tests : ℕ → ℕ → Bool → List (Bool × ℕ)
size_tests w h k = (within w h, 1) ∷ (k, 4) ∷ []

unfoldable pub given_tests : ℕ → ℕ → Tables → List (List ℕ) → List (Bool × ℕ)
given_tests w h t ws = size_tests w h (stated w h t ws) ++ (is_drawing w h t, 5) ∷ []

-- some region has the name r, by the parents p
unfoldable pub used : List ℕ → ℕ → Bool
used p r = on p r

-- some dart has a on its right hand and b on its left, by the level 1 sides s
unfoldable pub adjoin : ℕ → ℕ → List ℕ → ℕ → ℕ → Bool
adjoin w h s a b = some (slots w h) (shared s (reversal w) a b)

unfoldable pub name_tests : List ℕ → ℕ → ℕ → List (Bool × ℕ)
name_tests p a b = (not (eqb a 0 || eqb b 0), 6) ∷ (not (eqb a b), 7) ∷ (used p a && used p b, 8) ∷ []

-- two names, by the level 1 sides s and the parents p
abbrev pub pair_tests : ℕ → ℕ → List ℕ → List ℕ → ℕ → ℕ → List (Bool × ℕ)
pair_tests w h s p a b = name_tests p a b ++ (adjoin w h s a b, 9) ∷ []

unfoldable pub join_refusal : ℕ → ℕ → Tables → ℕ → ℕ → List (List ℕ) → ℕ
join_refusal w h t a b ws = first_failed (given_tests w h t ws ++ pair_tests w h t.side1 t.parent a b)

unfoldable pub merged : ℕ → ℕ → Tables → ℕ → ℕ → List (List ℕ) → Outcome
merged w h t a b ws =
    let r = join_refusal w h t a b ws in
    let after = seven (joined w h t a b) in
    outcome r [] (seven t) after ws

unfoldable pub count_refusal : ℕ → ℕ → Tables → ℕ → List (List ℕ) → ℕ
count_refusal w h t r ws = first_failed (given_tests w h t ws ++ (eqb r 0 || used t.parent r, 8) ∷ [])

unfoldable pub deepened : ℕ → ℕ → Tables → ℕ → List (List ℕ) → Outcome
deepened w h t r ws = outcome (count_refusal w h t r ws) (depth t.parent r ∷ []) (seven t) (seven t) ws

unfoldable pub holed : ℕ → ℕ → Tables → ℕ → List (List ℕ) → Outcome
holed w h t r ws = outcome (count_refusal w h t r ws) (holes w h (on t.side1) t.parent r ∷ []) (seven t) (seven t) ws
