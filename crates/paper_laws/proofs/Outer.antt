-- The regions beside a piece of lines: each lies round the piece, or the piece is its outer one.
--   top w h on p    == the least point of the piece of p
--   nook w h n t    == the name of the cell north-west of the point t: if t is the least of a piece, the region round it
--   inner w h n t x y == the cell in column x and row y lies inside the piece with the least point t
--   Touch x y u v   == the cell in column u and row v is one of the four round the place in column x and row y
--   Amid w h P x y  == in the row of the cell, and in its column, cells before and after it have P
--   top_side w i     == the dart that runs east along the top side of cell i
--   round_or_outer  == the region on the right hand of a line lies round the piece, or the piece is its outer one
use mathlib.Core.Path.{◌≡◌, refl, sym, ◌∙◌}
use mathlib.Core.Bool.{true}
use mathlib.Core.List.{List}
use mathlib.Core.Logic.{◌⊎◌, inl, inr, ⊎_elim, ◌≢◌}
use Prim.Native.Nat.{ℕ, zero, suc, ◌+◌, ◌*◌, ◌/◌, ◌%◌, ◌<◌}
use native.Mathlib.Decide.{ℕ_discrete, dec_lt}
use native.Mathlib.Omega.{arith}
use lib.ListN.{get_or}
use borrow.Author.Tests.{ne_eqb}
use Rattle.laws.proofs.Test.{clash}
use Rattle.laws.proofs.Parity.{Touch, Amid, inside_amid}
use Rattle.point_darts.specs.Dart.{point}
use Rattle.paper.specs.Name.{names, named}
use Rattle.paper.specs.Level.{border, side}
use Rattle.paper.specs.Enclosure.{top_side}
use Rattle.paper_laws.proofs.First.{side_named, top_side_on, top_side_own}
use Rattle.paper_laws.proofs.Kept.{top}
use Rattle.paper_laws.proofs.Enclosure.{side_used}
use Rattle.paper_laws.proofs.Parity.{sheet_edged, of_region, nook, inner, piece_inner, outer_later}
use Rattle.paper_laws.proofs.Round.{region_named, outer_inner}
use Rattle.paper_laws.proofs.Hole.{on_sheet}

-- a cell with others on all four sides is on the sheet
amid_sheet : (w h : ℕ) (s : List ℕ) (P : ℕ → ℕ → Type 0) (x y : ℕ) → Amid w h P x y → named w h (names w h s) x y ≢ 0
amid_sheet w h s P zero y a = let (k, l, _) = a.row.before in absurd (omega arith)
amid_sheet w h s P (suc x) zero a = let (k, l, _) = a.column.before in absurd (omega arith)
amid_sheet w h s P (suc x) (suc y) a =
    let (i, j, k, _) = a.row.after in
    let (l, m, n, _) = a.column.after in
    on_sheet w h s x y (omega arith) (omega arith)

-- The piece of a line, and a cell beside the line that is not of the region round the piece.
module _ (w h : ℕ) (s : List ℕ) (d : ℕ) (o : border w h (names w h s) d ≡ true) where
  abbrev n : List ℕ
  n = names w h s

  abbrev t : ℕ
  t = top w h (border w h n) (point d)

  module _ (u v : ℕ) (c : Touch (point d % (w + 1)) (point d / (w + 1)) u v) (f : named w h n u v ≢ nook w h n t) where
    hand_inner : inner w h n t u v ≡ true
    hand_inner = piece_inner w h n t d o refl c f

    hand_sheet : named w h n u v ≢ 0
    hand_sheet =
        amid_sheet w h s (λ j k. of_region w h n (nook w h n t) j k ≡ true) u v
        (inside_amid (sheet_edged w h n (nook w h n t) t) u v hand_inner (ne_eqb (named w h n u v) (nook w h n t) f))

    -- the outer piece of its region is neither an earlier piece nor a later one
    module _ (i : ℕ) (b : i < w * h) (own : get_or (names w h s) i 0 ≡ suc i) (e : named w h n u v ≡ suc i) where
      abbrev q : ℕ
      q = top w h (border w h n) (point (top_side w i))

      not_later : t < q → ⊥
      not_later l = clash (outer_inner w h s i b own u v e) (outer_later w h n q d o l c)

      not_earlier : q < t → ⊥
      not_earlier l =
          let (x, y, a, g) = side_named w h n (top_side w i) in
          clash (sym (region_named w h s t i u v x y e (sym g ∙ top_side_own w h s i b own)) ∙ hand_inner)
          (outer_later w h n t (top_side w i) (top_side_on w h s i b own) l a)

      hand_outer : q ≡ t
      hand_outer = go (dec_lt q t) (dec_lt t q)
        where
          go : Dec (q < t) → Dec (t < q) → q ≡ t
          go (yes l) k = absurd (not_earlier l)
          go (no l) (yes k) = absurd (not_later k)
          go (no l) (no k) = omega arith

  pub round_or_outer :
      let n = names w h s in
      let t = top w h (border w h n) (point d) in
      (side w h n d ≡ nook w h n t)
      ⊎ ((c : ℕ) × (side w h n d ≡ suc c) × (c < w * h) × (get_or n c 0 ≡ suc c)
      × (top w h (border w h n) (point (top_side w c)) ≡ t))
  round_or_outer = go (ℕ_discrete (side w h n d) (nook w h n t))
    where
      go : Dec (side w h n d ≡ nook w h n t)
          → (side w h n d ≡ nook w h n t)
          ⊎ ((c : ℕ) × (side w h n d ≡ suc c) × (c < w * h) × (get_or n c 0 ≡ suc c)
          × (top w h (border w h n) (point (top_side w c)) ≡ t))
      go (yes e) = inl e
      go (no f) =
          let (u, v, a, e) = side_named w h n d in
          let g : named w h n u v ≢ nook w h n t = λ q. f (e ∙ q) in
          ⊎_elim (λ q. absurd (hand_sheet u v a g (sym e ∙ q)))
          (λ r. inr (r.cell, r.bears, r.below, r.own, hand_outer u v a g r.cell r.below r.own (sym e ∙ r.bears)))
          (side_used w h s d)
