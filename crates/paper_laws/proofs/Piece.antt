-- Pieces of the lines that are on, and the least point of each, for every sheet of width w and height h.
--   Inside w h on    == a line that is on stays in the sheet
--   Line w h on p q  == a line that is on leads from point q back to point p: west, or north
--   Piece w h on p q == a chain of lines that are on leads from p to q
--   Topped w h on t  == the table t gives the ends of a line one entry, and each point a point of its piece no later
--   toward on k m p  == the point m before p where the line of p in direction k is on, else p
--   tops w h on      == for each point the least point of its piece
use mathlib.Core.Path.{◌≡◌, refl, sym}
use mathlib.Core.Bool.{Bool, true, false, cond}
use mathlib.Core.List.{List}
use mathlib.Core.Logic.{◌⊎◌, inl, inr, ⊎_elim, ◌↔◌}
use Prim.Native.Nat.{ℕ, ◌+◌, ◌-◌, ◌≤◌, ◌<◌}
use native.Mathlib.Omega.{arith}
use lib.ListN.{length, get_or}
use Rattle.laws.specs.Least.{least}
use Rattle.laws.proofs.Least.{
  Linked,
  step,
  back,
  then,
  linked_same,
  linked_map,
  linked_iff,
  linked_eq,
  Near,
  by_b,
  by_c,
  Joined,
  Roots,
  roots_same,
  roots_root,
  length_least,
  least_agree,
  least_roots,
  least_le,
  least_list,
}
use Rattle.point_darts.specs.Dart.{points, dart}
use Rattle.paper.specs.Level.{tops}

pub record Inside (w h : ℕ) (on : ℕ → Bool) : Type 0 where
  pub west_in : (p : ℕ) → p < points w h → on (dart p 2) ≡ true → 0 < p
  pub north_in : (p : ℕ) → p < points w h → on (dart p 3) ≡ true → w + 1 ≤ p

pub data Line (w h : ℕ) (on : ℕ → Bool) (p q : ℕ) : Type 0 where
  west : q < points w h → on (dart q 2) ≡ true → q ≡ p + 1 → Line w h on p q
  north : q < points w h → on (dart q 3) ≡ true → q ≡ p + (w + 1) → Line w h on p q

abbrev pub Piece : ℕ → ℕ → (ℕ → Bool) → ℕ → ℕ → Type 0
Piece w h on = Linked (Line w h on)

line_below : (w h : ℕ) (on : ℕ → Bool) (p q : ℕ) → Line w h on p q → (p < points w h) × (q < points w h)
line_below w h on p q (west b e f) = omega arith
line_below w h on p q (north b e f) = omega arith

toward : (ℕ → Bool) → ℕ → ℕ → ℕ → ℕ
toward on k m p = cond (on (dart p k)) (p - m) p

module _ (on : ℕ → Bool) (k m p : ℕ) where
  toward_test : (t : Bool) → on (dart p k) ≡ t
      → ((on (dart p k) ≡ true) × (toward on k m p ≡ p - m)) ⊎ (toward on k m p ≡ p)
  unfolding toward
  toward_test true e = inl (e, rw e)
  toward_test false e = inr (rw e)

  toward_cases : ((on (dart p k) ≡ true) × (toward on k m p ≡ p - m)) ⊎ (toward on k m p ≡ p)
  toward_cases = toward_test (on (dart p k)) refl

  toward_on : on (dart p k) ≡ true → toward on k m p ≡ p - m
  unfolding toward
  toward_on e = rw e

  toward_le : toward on k m p ≤ p
  toward_le = ⊎_elim (λ p. omega arith) (λ e. omega arith) toward_cases

-- The laws that hold whether or not the lines stay in the sheet.
module _ (w h : ℕ) (on : ℕ → Bool) where
  tops_is : tops w h on ≡ least (points w h) (toward on 2 1) (toward on 3 (w + 1))
  unfolding tops toward
  tops_is = refl

  tops_roots : Roots (toward on 2 1) (toward on 3 (w + 1)) (points w h) (λ p. get_or (tops w h on) p 0)
  tops_roots =
      rw tops_is
      (least_roots (points w h) (toward on 2 1) (toward on 3 (w + 1)) (λ p b. toward_le on 2 1 p)
      (λ p b. toward_le on 3 (w + 1) p))

  pub length_tops : length (tops w h on) ≡ points w h
  length_tops = rw tops_is (length_least (points w h) (toward on 2 1) (toward on 3 (w + 1)))

  pub tops_le : (p : ℕ) → get_or (tops w h on) p 0 ≤ p
  tops_le p =
      rw tops_is
      (least_le (points w h) (toward on 2 1) (toward on 3 (w + 1)) (λ q b. toward_le on 2 1 q)
      (λ q b. toward_le on 3 (w + 1) q) p)

  -- a top is its own top
  pub tops_tops : (p : ℕ) → p < points w h → get_or (tops w h on) (get_or (tops w h on) p 0) 0 ≡ get_or (tops w h on) p 0
  tops_tops p b = roots_root tops_roots p b

  -- the two ends of a line have one top
  pub tops_west : (p : ℕ) → p < points w h → on (dart p 2) ≡ true
      → get_or (tops w h on) (p - 1) 0 ≡ get_or (tops w h on) p 0
  tops_west p b e = rw (toward_on on 2 1 p e) at (tops_roots.same_b p b)

  pub tops_north : (p : ℕ) → p < points w h → on (dart p 3) ≡ true
      → get_or (tops w h on) (p - (w + 1)) 0 ≡ get_or (tops w h on) p 0
  tops_north p b e = rw (toward_on on 3 (w + 1) p e) at (tops_roots.same_c p b)

  line_joined : (p q : ℕ) → Line w h on p q → Joined (toward on 2 1) (toward on 3 (w + 1)) (points w h) p q
  line_joined p q (west b e f) =
      let k : p ≡ toward on 2 1 q = omega (arith, toward_on on 2 1 q e) in
      back (step (by_b b k))
  line_joined p q (north b e f) =
      let k : p ≡ toward on 3 (w + 1) q = omega (arith, toward_on on 3 (w + 1) q e) in
      back (step (by_c b k))

  piece_joined : {p q : ℕ} → Piece w h on p q → Joined (toward on 2 1) (toward on 3 (w + 1)) (points w h) p q
  piece_joined = linked_map line_joined

  -- points of one piece have one top
  pub piece_top : {p q : ℕ} → Piece w h on p q → get_or (tops w h on) p 0 ≡ get_or (tops w h on) q 0
  piece_top l = roots_same tops_roots (piece_joined l)

  -- no point of the piece is less than its top
  pub tops_least : {p q : ℕ} → Piece w h on p q → get_or (tops w h on) p 0 ≤ q
  tops_least {q = q} l = rw (piece_top l) (tops_le q)

pub record Topped (w h : ℕ) (on : ℕ → Bool) (t : List ℕ) : Type 0 where
  pub sized : length t ≡ points w h
  pub along : (p q : ℕ) → Line w h on p q → get_or t p 0 ≡ get_or t q 0
  pub low : (p : ℕ) → p < points w h → get_or t p 0 ≤ p
  pub piece : (p : ℕ) → p < points w h → Piece w h on p (get_or t p 0)

-- The laws of lines that stay in the sheet.
module _ (w h : ℕ) (on : ℕ → Bool) (inside : Inside w h on) where
  west_piece : (p : ℕ) → p < points w h → Piece w h on p (toward on 2 1 p)
  west_piece p b =
      ⊎_elim
      (λ d.
      let i = inside.west_in p b d.0 in
      let e : p ≡ toward on 2 1 p + 1 = omega arith in
      back (step (west b d.0 e)))
      (λ e. linked_eq (sym e)) (toward_cases on 2 1 p)

  north_piece : (p : ℕ) → p < points w h → Piece w h on p (toward on 3 (w + 1) p)
  north_piece p b =
      ⊎_elim
      (λ d.
      let i = inside.north_in p b d.0 in
      let e : p ≡ toward on 3 (w + 1) p + (w + 1) = omega arith in
      back (step (north b d.0 e)))
      (λ e. linked_eq (sym e)) (toward_cases on 3 (w + 1) p)

  near_piece : (p q : ℕ) → Near (toward on 2 1) (toward on 3 (w + 1)) (points w h) p q → Piece w h on p q
  near_piece p q (by_b b e) = rw e (west_piece p b)
  near_piece p q (by_c b e) = rw e (north_piece p b)

  -- a top is a point of the piece
  pub top_piece : (p : ℕ) → p < points w h → Piece w h on p (get_or (tops w h on) p 0)
  top_piece p b = linked_map near_piece ((tops_roots w h on).joined p b)

  -- points have one top exactly where they are of one piece
  pub same_top : (p q : ℕ) → p < points w h → q < points w h
      → (get_or (tops w h on) p 0 ≡ get_or (tops w h on) q 0) ↔ Piece w h on p q
  same_top p q b d = (λ e. then (rw e at (top_piece p b)) (back (top_piece q d)), piece_top w h on)

  pub tops_topped : Topped w h on (tops w h on)
  tops_topped =
      record {
        sized = length_tops w h on;
        along = λ p q l. piece_top w h on (step l);
        low = λ p b. tops_le w h on p;
        piece = top_piece;
      }

  topped_same : (t : List ℕ) → Topped w h on t → {p q : ℕ} → Piece w h on p q → get_or t p 0 ≡ get_or t q 0
  topped_same t r = linked_same (λ p. get_or t p 0) r.along

  -- these laws decide the table
  pub topped_tops : (t : List ℕ) → Topped w h on t → t ≡ tops w h on
  topped_tops t r =
      rw tops_is
      (least_list (points w h) (toward on 2 1) (toward on 3 (w + 1)) (λ p b. toward_le on 2 1 p)
      (λ p b. toward_le on 3 (w + 1) p) t r.sized
      (record {
        same_b = λ p b. topped_same t r (back (west_piece p b));
        same_c = λ p b. topped_same t r (back (north_piece p b));
        low = r.low;
        joined = λ p b. piece_joined w h on (r.piece p b);
      }))
