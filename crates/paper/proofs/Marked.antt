-- The cases that the paper marks P, proved about its definitions by one statement over one list.
--   Claim           == what the definitions compute, and what the paper states
--   darts w h s     == how many darts the levels 0, 1, 2 and 3 have
--   ones t          == the darts that a table of links has, in order
--   read t ds       == the entries of a table at some places
--   refusal ..      == the number of joining a with b in the drawing of a sheet
--   holes_of w h s rs == how many holes some regions of a sheet have
--   turns_of w h s ds == the right turns of some darts of a sheet at level 3, then their left turns
--   accepted w h t  == 1 where the tables t are a drawing, else 0
--   spoilt w h t    == the same of the tables t with one entry changed, in each of the seven in turn
--   hanging w h l   == the points that have exactly one line of the links l
--   Join            == a sheet of a size, and two of its regions
use mathlib.Core.Path.{◌≡◌, refl}
use mathlib.Core.Bool.{Bool, true, false}
use mathlib.Core.List.{List, [], ◌∷◌, ◌++◌, map}
use Prim.Native.Nat.{ℕ, zero, suc}
use lib.Dec.{eqb, ltb}
use lib.ListN.{set}
use Rattle.laws.specs.Equal.{equal}
use Rattle.laws.specs.Table.{number, count}
use Rattle.laws.proofs.Cases.{Case, failed, none_failed}
use Rattle.laws.proofs.Equal.{equal_true}
use Rattle.sheet_size.specs.Size.{within}
use Rattle.point_darts.specs.Dart.{mark, points, slots}
use Rattle.point_darts.specs.Point.{degree}
use Rattle.point_rules.specs.Turn.{is_right, is_left}
use Rattle.paper.specs.Name.{names}
use Rattle.paper.specs.Level.{border, mask, level, marked}
use Rattle.paper.specs.Turns.{curve_turns}
use Rattle.paper.specs.Enclosure.{depth, holes}
use Rattle.paper.specs.Contour.{inner_contours}
use Rattle.paper.specs.Drawing.{Tables, drawing, fresh, is_drawing}
use Rattle.paper.specs.Joining.{Links, at, on, rest1, rest3, joined}
use Rattle.paper.specs.Refusal.{merged}
use Rattle.paper.proofs.Opened.{opened}

abbrev Claim : Type 0
Claim = Case (List ℕ)

darts : ℕ → ℕ → List ℕ → List ℕ
darts w h s =
    let n = names w h s in
    map (λ l. count (slots w h) (level w h n l).on) (0 ∷ 1 ∷ 2 ∷ 3 ∷ [])

picked : (ℕ → Bool) → ℕ → ℕ → List ℕ
picked f i zero = []
picked f i (suc n) = elim (f i) [ true ↦ i ∷ picked f (suc i) n | false ↦ picked f (suc i) n ]

ones : ℕ → ℕ → List ℕ → List ℕ
ones w h t = picked (on t) 0 (slots w h)

read : List ℕ → List ℕ → List ℕ
read t ds = map (at t) ds

refusal : ℕ → ℕ → List ℕ → ℕ → ℕ → List ℕ
refusal w h s a b = (merged w h (drawing w h s) a b []).number ∷ []

-- the sheets of the cases: A is 65, B is 66, C is 67
p1 : List ℕ
p1 = 65 ∷ []

p2 : List ℕ
p2 = 7 ∷ 9 ∷ []

p3 : List ℕ
p3 = 7 ∷ 7 ∷ []

p5 : List ℕ
p5 = 65 ∷ 65 ∷ 65 ∷ 65 ∷ 66 ∷ 65 ∷ 65 ∷ 65 ∷ 65 ∷ []

p6 : List ℕ
p6 = 65 ∷ 65 ∷ 65 ∷ 65 ∷ 66 ∷ 65 ∷ 65 ∷ 65 ∷ 67 ∷ []

p7 : List ℕ
p7 = 65 ∷ 66 ∷ 66 ∷ 65 ∷ []

p8 : List ℕ
p8 = 65 ∷ 67 ∷ 65 ∷ 65 ∷ 66 ∷ 65 ∷ 65 ∷ 65 ∷ 65 ∷ []

row : List ℕ
row = 65 ∷ 66 ∷ 65 ∷ []

-- two regions that share two lines in a row
halves : List ℕ
halves = 65 ∷ 66 ∷ 65 ∷ 66 ∷ []

-- P5 with corner (0,0) labelled C: two lines in a row at one point lie between the regions 1 and 2
open_ring : List ℕ
open_ring = 67 ∷ 65 ∷ 65 ∷ 65 ∷ 66 ∷ 65 ∷ 65 ∷ 65 ∷ 65 ∷ []

-- a closed curve that is no rectangle: its topmost point is not its leftmost
bent_inside : List ℕ
bent_inside = 65 ∷ 65 ∷ 65 ∷ 65 ∷ 65 ∷ 65 ∷ 66 ∷ 65 ∷ 65 ∷ 66 ∷ 66 ∷ 65 ∷ 65 ∷ 65 ∷ 65 ∷ 65 ∷ []

-- the same with its lower left cell a region of its own
bent_parts : List ℕ
bent_parts = 65 ∷ 65 ∷ 65 ∷ 65 ∷ 65 ∷ 65 ∷ 66 ∷ 65 ∷ 65 ∷ 67 ∷ 66 ∷ 65 ∷ 65 ∷ 65 ∷ 65 ∷ 65 ∷ []

-- B and C side by side in the middle of A
two_parcels : List ℕ
two_parcels = 65 ∷ 65 ∷ 65 ∷ 65 ∷ 65 ∷ 66 ∷ 67 ∷ 65 ∷ 65 ∷ 65 ∷ 65 ∷ 65 ∷ []

-- B twice in A, apart
two_ponds : List ℕ
two_ponds = 65 ∷ 65 ∷ 65 ∷ 65 ∷ 65 ∷ 65 ∷ 66 ∷ 65 ∷ 66 ∷ 65 ∷ 65 ∷ 65 ∷ 65 ∷ 65 ∷ 65 ∷ []

holes_of : ℕ → ℕ → List ℕ → List ℕ → List ℕ
holes_of w h s rs = let t = drawing w h s in map (holes w h (on t.side1) t.parent) rs

turns_of : ℕ → ℕ → List ℕ → List ℕ → List ℕ
turns_of w h s ds =
    let on = border w h (names w h s) in
    read (curve_turns w h on is_right) ds ++ read (curve_turns w h on is_left) ds

accepted : ℕ → ℕ → Tables → List ℕ
accepted w h t = number (is_drawing w h t) ∷ []

spoilt : ℕ → ℕ → Tables → List ℕ
spoilt w h t =
    let n = t.next1 in
    let s = t.side1 in
    let m = t.next3 in
    let o = t.other3 in
    let p = t.parent in
    let c = t.cells in
    let b = t.borders in
    accepted w h (record { next1 = set n 4 5; side1 = s; next3 = m; other3 = o; parent = p; cells = c; borders = b })
    ++ accepted w h (record { next1 = n; side1 = set s 4 5; next3 = m; other3 = o; parent = p; cells = c; borders = b })
    ++ accepted w h (record { next1 = n; side1 = s; next3 = set m 4 5; other3 = o; parent = p; cells = c; borders = b })
    ++ accepted w h (record { next1 = n; side1 = s; next3 = m; other3 = set o 4 5; parent = p; cells = c; borders = b })
    ++ accepted w h (record { next1 = n; side1 = s; next3 = m; other3 = o; parent = set p 2 1; cells = c; borders = b })
    ++ accepted w h (record { next1 = n; side1 = s; next3 = m; other3 = o; parent = p; cells = set c 2 2; borders = b })
    ++ accepted w h (record { next1 = n; side1 = s; next3 = m; other3 = o; parent = p; cells = c; borders = set b 2 2 })

claims : List Claim
claims =
    -- P1: the two cycles of level 1; level 3
    record {
      computed = read (drawing 1 1 p1).next1 (0 ∷ 5 ∷ 14 ∷ 11 ∷ 1 ∷ 8 ∷ 15 ∷ 6 ∷ []);
      stated = 5 ∷ 14 ∷ 11 ∷ 0 ∷ 8 ∷ 15 ∷ 6 ∷ 1 ∷ [];
    }
    ∷ record { computed = ones 1 1 (drawing 1 1 p1).next1; stated = 0 ∷ 1 ∷ 5 ∷ 6 ∷ 8 ∷ 11 ∷ 14 ∷ 15 ∷ [] }
    ∷ record { computed = ones 1 1 (drawing 1 1 p1).next3; stated = 0 ∷ 1 ∷ [] }
    ∷ record { computed = read (drawing 1 1 p1).next3 (0 ∷ 1 ∷ []); stated = 0 ∷ 1 ∷ [] }
    ∷ record { computed = read (drawing 1 1 p1).other3 (0 ∷ 1 ∷ []); stated = 1 ∷ 0 ∷ [] }
    ∷ record { computed = read (drawing 1 1 p1).side1 (0 ∷ 1 ∷ []); stated = 1 ∷ 0 ∷ [] }
    ∷ record { computed = darts 1 1 p1; stated = 8 ∷ 8 ∷ 8 ∷ 2 ∷ [] }
    -- P2: counts, the cycles of level 3, others
    ∷ record { computed = darts 2 1 p2; stated = 14 ∷ 14 ∷ 14 ∷ 6 ∷ [] }
    ∷ record {
      computed = read (drawing 2 1 p2).next3 (4 ∷ 19 ∷ 5 ∷ 18 ∷ 6 ∷ 16 ∷ []);
      stated = 19 ∷ 4 ∷ 18 ∷ 5 ∷ 16 ∷ 6 ∷ [];
    }
    ∷ record {
      computed = read (drawing 2 1 p2).other3 (4 ∷ 16 ∷ 5 ∷ 19 ∷ 6 ∷ 18 ∷ []);
      stated = 16 ∷ 4 ∷ 19 ∷ 5 ∷ 18 ∷ 6 ∷ [];
    }
    -- P3
    ∷ record { computed = darts 2 1 p3; stated = 14 ∷ 12 ∷ 8 ∷ 2 ∷ [] }
    -- P4: level 3 after the join, the darts 0 and 1, each its own next; point 0 has none before it
    ∷ record { computed = (joined 2 1 (drawing 2 1 p2) 1 2).next3; stated = marked 2 1 (λ d. ltb d 2) (λ d. d) }
    ∷ record { computed = ones 2 1 (drawing 2 1 p2).next3; stated = 4 ∷ 5 ∷ 6 ∷ 16 ∷ 18 ∷ 19 ∷ [] }
    -- P5
    ∷ record { computed = darts 3 3 p5; stated = 48 ∷ 32 ∷ 16 ∷ 4 ∷ [] }
    ∷ record { computed = read (drawing 3 3 p5).parent (5 ∷ []); stated = 1 ∷ [] }
    -- P6
    ∷ record { computed = read (drawing 3 3 p6).parent (1 ∷ 5 ∷ 9 ∷ []); stated = 0 ∷ 0 ∷ 0 ∷ [] }
    -- P7: four regions, counts, the refused join
    ∷ record { computed = names 2 2 p7; stated = 1 ∷ 2 ∷ 3 ∷ 4 ∷ [] }
    ∷ record { computed = darts 2 2 p7; stated = 24 ∷ 24 ∷ 24 ∷ 16 ∷ [] }
    ∷ record { computed = refusal 2 2 p7 1 4; stated = 9 ∷ [] }
    -- P8: the parent of 5 before and after the join
    ∷ record { computed = read (drawing 3 3 p8).parent (5 ∷ []); stated = 0 ∷ [] }
    ∷ record { computed = read (joined 3 3 (drawing 3 3 p8) 1 2).parent (5 ∷ []); stated = 1 ∷ [] }
    -- P9
    ∷ record { computed = refusal 2 1 p2 0 0; stated = 6 ∷ [] }
    ∷ record { computed = refusal 2 1 p2 3 3; stated = 7 ∷ [] }
    ∷ record { computed = refusal 2 1 p2 1 3; stated = 8 ∷ [] }
    ∷ []

-- Cases beside the marked ones, against the habits of the old program.
beside_claims : List Claim
beside_claims =
    -- A B A in a row, 1 joined with 2: the third region has the first one's label and is not drawn in
    record { computed = (fresh 3 1 row 1 2).parent; stated = mark ∷ 0 ∷ mark ∷ 0 ∷ [] }
    ∷ record { computed = (joined 3 1 (drawing 3 1 row) 1 2).parent; stated = mark ∷ 0 ∷ mark ∷ 0 ∷ [] }
    -- the outside is a region of its own, also where cells bear its name for a label
    ∷ record { computed = darts 1 1 (0 ∷ []); stated = 8 ∷ 8 ∷ 8 ∷ 2 ∷ [] }
    ∷ record { computed = (drawing 1 1 (0 ∷ [])).side1; stated = (drawing 1 1 p1).side1 }
    -- and a cell's label may be the mark
    ∷ record { computed = (drawing 2 1 (65535 ∷ 65535 ∷ [])).next3; stated = (drawing 2 1 p3).next3 }
    -- the test of refusal 5 is passed by a drawing, also after joins, not by that of another size, nor by one in which a single
    -- entry differs
    ∷ record { computed = accepted 2 2 (drawing 2 2 p7); stated = 1 ∷ [] }
    ∷ record { computed = accepted 3 1 (joined 3 1 (drawing 3 1 row) 1 2); stated = 1 ∷ [] }
    ∷ record { computed = accepted 2 1 (drawing 2 2 p7); stated = 0 ∷ [] }
    ∷ record { computed = spoilt 2 1 (drawing 2 1 p2); stated = 0 ∷ 0 ∷ 0 ∷ 0 ∷ 0 ∷ 0 ∷ 0 ∷ [] }
    -- depth and hole count of the outside, of a ring and of what the ring encloses
    ∷ record { computed = map (depth (drawing 3 3 p5).parent) (0 ∷ 1 ∷ 5 ∷ []); stated = 0 ∷ 1 ∷ 2 ∷ [] }
    ∷ record { computed = holes_of 3 3 p5 (0 ∷ 1 ∷ 5 ∷ []); stated = 1 ∷ 1 ∷ 0 ∷ [] }
    -- a hole is a hole, however many regions fill it; two are two, though they hold like labels; the outside has one
    ∷ record { computed = holes_of 4 3 two_parcels (0 ∷ 1 ∷ 6 ∷ 7 ∷ []); stated = 1 ∷ 1 ∷ 0 ∷ 0 ∷ [] }
    ∷ record { computed = holes_of 5 3 two_ponds (0 ∷ 1 ∷ 7 ∷ 9 ∷ []); stated = 1 ∷ 2 ∷ 0 ∷ 0 ∷ [] }
    ∷ record { computed = holes_of 3 3 p6 (0 ∷ 1 ∷ 5 ∷ 9 ∷ []); stated = 1 ∷ 0 ∷ 0 ∷ 0 ∷ [] }
    -- as many inner contours
    ∷ record { computed = map (inner_contours 3 3 (names 3 3 p5)) (0 ∷ 1 ∷ 5 ∷ []); stated = 1 ∷ 1 ∷ 0 ∷ [] }
    ∷ record { computed = map (inner_contours 4 3 (names 4 3 two_parcels)) (0 ∷ 1 ∷ 6 ∷ []); stated = 1 ∷ 1 ∷ 0 ∷ [] }
    -- turns inside the runs: P5, where the anchor's own is left out; P2, where the ends are; one turn among straight steps; a closed
    -- curve with turns to both hands
    ∷ record { computed = turns_of 3 3 p5 (0 ∷ 1 ∷ 20 ∷ 21 ∷ []); stated = 3 ∷ 0 ∷ 3 ∷ 0 ∷ 0 ∷ 3 ∷ 0 ∷ 3 ∷ [] }
    ∷ record { computed = turns_of 2 1 p2 (4 ∷ 16 ∷ 5 ∷ 6 ∷ []); stated = 2 ∷ 0 ∷ 0 ∷ 0 ∷ 0 ∷ 2 ∷ 0 ∷ 2 ∷ [] }
    ∷ record { computed = turns_of 3 3 p6 (40 ∷ 42 ∷ 45 ∷ 47 ∷ []); stated = 0 ∷ 3 ∷ 1 ∷ 0 ∷ 0 ∷ 0 ∷ 0 ∷ 3 ∷ [] }
    ∷ record { computed = turns_of 4 4 bent_inside (28 ∷ 29 ∷ []); stated = 4 ∷ 1 ∷ 1 ∷ 4 ∷ [] }
    -- the mark at every slot that is no dart of level 3
    ∷ record {
      computed = ones 2 1 (curve_turns 2 1 (border 2 1 (names 2 1 p2)) is_right);
      stated = 4 ∷ 5 ∷ 6 ∷ 16 ∷ 18 ∷ 19 ∷ [];
    }
    -- totals: the outside has no cells and 2 (w + h) border lines, a name that is not in use the mark; cells are added, and borders less
    -- twice the lines that the two share, one or two; a third region keeps its own
    ∷ record { computed = (drawing 3 3 p5).cells; stated = 0 ∷ 8 ∷ mark ∷ mark ∷ mark ∷ 1 ∷ mark ∷ mark ∷ mark ∷ mark ∷ [] }
    ∷ record { computed = (drawing 3 3 p5).borders; stated = 12 ∷ 16 ∷ mark ∷ mark ∷ mark ∷ 4 ∷ mark ∷ mark ∷ mark ∷ mark ∷ [] }
    ∷ record { computed = (joined 3 1 (drawing 3 1 row) 1 2).cells; stated = 0 ∷ 2 ∷ mark ∷ 1 ∷ [] }
    ∷ record { computed = (joined 3 1 (drawing 3 1 row) 1 2).borders; stated = 8 ∷ 6 ∷ mark ∷ 4 ∷ [] }
    ∷ record { computed = (joined 2 2 (drawing 2 2 halves) 2 1).cells; stated = 0 ∷ 4 ∷ mark ∷ mark ∷ mark ∷ [] }
    ∷ record { computed = (joined 2 2 (drawing 2 2 halves) 2 1).borders; stated = 8 ∷ 8 ∷ mark ∷ mark ∷ mark ∷ [] }
    -- the limits of width and height
    ∷ record { computed = map (λ n. number (within n 1)) (0 ∷ 1 ∷ 110 ∷ 111 ∷ []); stated = 0 ∷ 1 ∷ 1 ∷ 0 ∷ [] }
    ∷ record { computed = map (λ n. number (within 1 n)) (0 ∷ 1 ∷ 72 ∷ 73 ∷ []); stated = 0 ∷ 1 ∷ 1 ∷ 0 ∷ [] }
    -- a join at whose point two taken lines are met one after another
    ∷ record { computed = (joined 3 3 (drawing 3 3 open_ring) 1 2).next1; stated = (drawing 3 3 p5).next1 }
    ∷ record { computed = (joined 3 3 (drawing 3 3 open_ring) 1 2).next3; stated = (drawing 3 3 p5).next3 }
    -- the anchor of a closed curve is its topmost point, and not its leftmost, drawn and after a join
    ∷ record { computed = ones 4 4 (drawing 4 4 bent_inside).next3; stated = 0 ∷ 1 ∷ 28 ∷ 29 ∷ [] }
    ∷ record { computed = ones 4 4 (joined 4 4 (drawing 4 4 bent_parts) 7 10).next3; stated = 0 ∷ 1 ∷ 28 ∷ 29 ∷ [] }
    ∷ []

-- After step 1 no point has exactly one line, at level 1 and at level 3: the joins of the cases, and one more.
record Join : Type 0 where
  w : ℕ
  h : ℕ
  sheet : List ℕ
  a : ℕ
  b : ℕ

joins : List Join
joins =
    record { w = 2; h = 1; sheet = p2; a = 1; b = 2 }
    ∷ record { w = 3; h = 3; sheet = p8; a = 1; b = 2 }
    ∷ record { w = 3; h = 1; sheet = row; a = 1; b = 2 }
    ∷ record { w = 2; h = 2; sheet = halves; a = 1; b = 2 }
    ∷ []

hanging : ℕ → ℕ → Links → List ℕ
hanging w h l = picked (λ p. eqb (degree (mask (on l.next) p)) 1) 0 (points w h)

hanging_ends : Join → List ℕ
hanging_ends j =
    let t = drawing j.w j.h j.sheet in
    hanging j.w j.h (rest1 j.w j.h t j.a j.b)
    ++ hanging j.w j.h (rest3 j.w j.h t j.a j.b)

hanging_claims : List Claim
hanging_claims = map (λ j. record { computed = hanging_ends j; stated = [] }) joins

sheets_open : Unit {0}
unfolding p1 p2 p3 p5 p6 p7 p8 row halves open_ring bent_inside bent_parts two_parcels two_ponds
sheets_open = tt

joins_open : Unit {0}
unfolding joins hanging hanging_ends hanging_claims
joins_open = tt

cases_open : Unit {0}
unfolding opened sheets_open joins_open refusal accepted spoilt holes_of turns_of darts picked ones read claims beside_claims
cases_open = tt

claims_hold : failed equal 0 claims ≡ []
unfolding cases_open
claims_hold = refl

beside_hold : failed equal 0 beside_claims ≡ []
unfolding cases_open
beside_hold = refl

hanging_hold : failed equal 0 hanging_claims ≡ []
unfolding cases_open
hanging_hold = refl

marked_cases : map (λ (c : Claim). c.computed) claims ≡ map (λ (c : Claim). c.stated) claims
marked_cases = none_failed equal equal_true 0 claims claims_hold

cases_beside : map (λ (c : Claim). c.computed) beside_claims ≡ map (λ (c : Claim). c.stated) beside_claims
cases_beside = none_failed equal equal_true 0 beside_claims beside_hold

no_hanging_ends : map (λ (c : Claim). c.computed) hanging_claims ≡ map (λ (c : Claim). c.stated) hanging_claims
no_hanging_ends = none_failed equal equal_true 0 hanging_claims hanging_hold
