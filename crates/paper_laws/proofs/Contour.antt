-- Contours: a region has as many inner contours as holes, since it has one along each piece that it lies round.
--   parentage w h n == the table of parents, by name
--   holes ..        == how many different pieces are the outer pieces of the regions with one parent
--   contour w h n r d   == d is the least dart of a contour that has the region r on its right hand
--   outermost w h n r d == the contour of d holds the top side of the first cell of the region r
--   top w h on p    == the least point of the piece of p
--   holds f n a d   == a is among d, f d, f (f d), .., looked for n steps far
--   lowest f n d    == the least of d, f d, f (f d), .., looked for n steps far
--   Inner w h n r d == d is the least dart of an inner contour of r
--   piece_in w h n r p == p is the least point of a piece that the region r lies round
--   Head w h on t   == t is the least point of a piece that has a line
--   start, lead     == the dart that leads back to the point p from the east, and the least dart of its contour
use mathlib.Core.Path.{◌≡◌, refl, sym, ap, ◌∙◌}
use mathlib.Core.Bool.{Bool, true, false, not, ◌&&◌}
use mathlib.Core.List.{List}
use mathlib.Core.Logic.{⊎_elim, ◌≢◌}
use Prim.Native.Nat.{ℕ, zero, suc, ◌+◌, ◌*◌, ◌<◌, ◌≤◌}
use native.Mathlib.Omega.{arith}
use lib.Dec.{eqb, ltb, lit<}
use lib.ListN.{get_or}
use borrow.Author.Tests.{eqb-true, eq-eqb, not-true}
use Rattle.laws.specs.Table.{count}
use Rattle.laws.proofs.Test.{clash, and_true, and_left, and_right}
use Rattle.laws.proofs.Count.{count_matched}
use Rattle.laws.proofs.Chart.{Turns, times}
use Rattle.laws.proofs.Orbit.{times_add, orbit_on}
use Rattle.laws.proofs.Meet.{times_none, orbit_side}
use Rattle.laws.proofs.Ahead.{holds, holds_ahead, ahead_holds, holds_keeps}
use Rattle.laws.proofs.Ahead.{lowest, lowest_ahead, lowest_least, least_ahead, ahead_least}
use Rattle.point_darts.specs.Dart.{mark, points, slots, dart, point, reversal}
use Rattle.point_darts.specs.Point.{corner}
use Rattle.point_darts.proofs.Darts.{point_dart}
use Rattle.paper.specs.Name.{names, cells}
use Rattle.paper.specs.Level.{side, border, next}
use Rattle.paper.specs.Enclosure.{top_side, holes}
use Rattle.paper.specs.Contour.{reached, contour, outermost, inner_contours}
use Rattle.paper_laws.proofs.Next.{lines_turns}
use Rattle.paper_laws.proofs.First.{top_side_name, top_side_on, top_side_own}
use Rattle.paper_laws.proofs.Sheet.{sheet, sheet_chart, border_lines, border_back}
use Rattle.paper_laws.proofs.Kept.{top, mask_point, sheet_tops}
use Rattle.paper_laws.proofs.Curve.{met_top}
use Rattle.paper_laws.proofs.Enclosure.{Head, line_head, head_east, head_side, round, round_below, side_below}
use Rattle.paper_laws.proofs.Enclosure.{parentage}
use Rattle.paper_laws.proofs.Hole.{holes_pieces, piece_in, piece_head, piece_round, head_piece}
use Rattle.paper_laws.proofs.Outer.{round_or_outer}
use Rattle.paper_laws.proofs.Even.{Steady, piece_side}

-- The contours of the sheet with the names n.
module _ (w h : ℕ) (n : List ℕ) where
  abbrev on : ℕ → Bool
  on = border w h n

  abbrev nx : ℕ → ℕ
  nx = next w (border w h n)

  abbrev head : ℕ → ℕ
  head d = top w h (border w h n) (point d)

  turns : Turns (slots w h) (border w h n) (next w (border w h n))
  turns = lines_turns w h on (border_lines w h n)

  contour_side : (k d : ℕ) → on d ≡ true → side w h n (times nx k d) ≡ side w h n d
  unfolding sheet
  contour_side k d o = orbit_side (sheet_chart w h n) k d o

  contour_head : (k d : ℕ) → on d ≡ true → head (times nx k d) ≡ head d
  unfolding sheet
  contour_head k d o = met_top w h n d o (k, refl)

  -- the least dart of an inner contour of r
  record Inner (r d : ℕ) : Type 0 where
    lined : border w h n d ≡ true
    sided : side w h n d ≡ r
    least : (k : ℕ) → d ≤ times (next w (border w h n)) k d
    other : outermost w h n r d ≡ false

  module _ (r d : ℕ) where
    abbrev lower : Bool
    lower = ltb (reached w h n (λ e. ltb e d) d) d

    abbrev counted : Bool
    counted = contour w h n r d && not (outermost w h n r d)

    inner_is : counted ≡ true → Inner r d
    unfolding contour reached
    inner_is e =
        let c = and_left (contour w h n r d) (not (outermost w h n r d)) e in
        let a = and_left (on d && eqb (side w h n d) r) (not lower) c in
        let o = and_left (on d) (eqb (side w h n d) r) a in
        record {
          lined = o;
          sided = eqb-true (side w h n d) r (and_right (on d) (eqb (side w h n d) r) a);
          least = least_ahead turns d o (not-true lower (and_right (on d && eqb (side w h n d) r) (not lower) c));
          other = not-true _ (and_right (contour w h n r d) (not (outermost w h n r d)) e);
        }

    is_inner : Inner r d → counted ≡ true
    unfolding contour reached
    is_inner i =
        and_true
        (and_true (and_true i.lined (eq-eqb (side w h n d) r i.sided))
        (ap not (ahead_least nx (slots w h) d i.least)))
        (ap not i.other)

  -- the dart that leads back to p from the east
  abbrev start : ℕ → ℕ
  start p = reversal w (dart p 0)

  start_head : {p : ℕ} → Head w h (border w h n) p → head (start p) ≡ p
  unfolding sheet
  start_head {p} i =
      sym ((sheet_tops w h n).along (dart p 0) (head_east w h n i))
      ∙ ap (top w h (border w h n)) (point_dart p 0 (lit< tt))
      ∙ i.own

  start_on : {p : ℕ} → Head w h (border w h n) p → on (start p) ≡ true
  start_on {p} i = border_back w h n (dart p 0) (head_east w h n i)

  -- the least dart of its contour
  abbrev lead : ℕ → ℕ
  lead p = lowest nx (slots w h) (start p)

-- The contours of a sheet of labels s.
module _ (w h : ℕ) (s : List ℕ) where
  abbrev l : List ℕ
  l = names w h s

  abbrev step : ℕ → ℕ
  step = next w (border w h (names w h s))

  -- two darts of one piece with one region on their right hand are of one contour
  same_contour : (a d : ℕ) → border w h (names w h s) a ≡ true → border w h (names w h s) d ≡ true
      → top w h (border w h (names w h s)) (point d) ≡ top w h (border w h (names w h s)) (point a)
      → side w h (names w h s) d ≡ side w h (names w h s) a
      → (k : ℕ) × (times (next w (border w h (names w h s))) k d ≡ a)
  same_contour a d o q e f =
      let test : ℕ → Bool = holds step (slots w h) a in
      let steady : Steady w h l test = record { keeps = holds_keeps (turns w h l) a } in
      holds_ahead step (slots w h) a d
      (piece_side w h s test steady d a q o e f ∙ ahead_holds (turns w h l) 0 a a o (times_none step a))

  -- A piece that r lies round has one contour of r along it, and it is an inner one.
  module _ (r p : ℕ) (i : Head w h (border w h l) p) (round_by : side w h l (start w h l p) ≡ r) where
    abbrev b : ℕ
    b = start w h l p

    abbrev e : ℕ
    e = lead w h l p

    from : border w h l b ≡ true
    from = start_on w h l i

    lead_at : (k : ℕ) × (times step k b ≡ e)
    lead_at = lowest_ahead step (slots w h) b

    lead_on : border w h l e ≡ true
    lead_on = let (k, q) = lead_at in rw q at (orbit_on (turns w h l) k b from)

    lead_side : side w h l e ≡ r
    lead_side = let (k, q) = lead_at in ap (side w h l) (sym q) ∙ contour_side w h l k b from ∙ round_by

    lead_head : head w h l e ≡ p
    lead_head =
        let (k, q) = lead_at in
        ap (head w h l) (sym q) ∙ contour_head w h l k b from ∙ start_head w h l i

    lead_least : (k : ℕ) → e ≤ times step k e
    lead_least k =
        let (j, q) = lead_at in
        rw (times_add step j k b ∙ ap (times step k) q) at (lowest_least (turns w h l) (j + k) b from)

    -- the top side of the first cell of r is not in it: round that cell lies a region of a smaller name
    lead_other : (r : ℕ) → side w h l e ≡ r → outermost w h l r e ≡ false
    unfolding outermost reached round
    lead_other zero q = refl
    lead_other (suc c) q = go (outermost w h l (suc c) e) refl
      where
        go : (t : Bool) → outermost w h l (suc c) e ≡ t → t ≡ false
        go true u =
            let (k, f) = holds_ahead step (slots w h) (top_side w c) e u in
            let a : side w h l (top_side w c) ≡ suc c =
            ap (side w h l) (sym f) ∙ contour_side w h l k e lead_on ∙ q in
            let m : head w h l (top_side w c) ≡ p =
            ap (head w h l) (sym f) ∙ contour_head w h l k e lead_on ∙ lead_head in
            let c-below : c < w * h = omega (arith, side_below w h s (top_side w c)) in
            let own : get_or l c 0 ≡ suc c = sym (top_side_name w h l c c-below) ∙ a in
            let z : round w h l c ≡ suc c = rw m (round_by ∙ sym lead_side ∙ q) in
            absurd (omega (arith, round_below w h s c c-below own))
        go false u = refl

    lead_inner : Inner w h l r e
    lead_inner = record { lined = lead_on; sided = lead_side; least = lead_least; other = lead_other r lead_side }

  -- An inner contour of r runs along a piece that r lies round, and is the one of r along it.
  module _ (r d : ℕ) (i : Inner w h l r d) where
    abbrev p : ℕ
    p = head w h l d

    inner_head : Head w h (border w h l) p
    inner_head = line_head w h l d i.lined

    -- it is not the outermost contour of r
    not_outer : (c : ℕ) × (side w h l d ≡ suc c) × (c < w * h) × (get_or l c 0 ≡ suc c) × (head w h l (top_side w c) ≡ p) → ⊥
    unfolding outermost reached
    not_outer (c, a, b, own, e) =
        let (k, q) = same_contour (top_side w c) d (top_side_on w h s c b own) i.lined (sym e)
        (a ∙ sym (top_side_own w h s c b own)) in
        let f : outermost w h l (suc c) d ≡ true = ahead_holds (turns w h l) k (top_side w c) d i.lined q in
        clash f (rw (sym i.sided ∙ a) at i.other)

    round_side : side w h l (start w h l p) ≡ r
    unfolding corner cells
    round_side =
        head_side w h l inner_head
        ∙ ⊎_elim (λ e. sym e ∙ i.sided) (λ u. absurd (not_outer u)) (round_or_outer w h s d i.lined)

    lead_own : lead w h l p ≡ d
    lead_own =
        let b = start w h l p in
        let o = start_on w h l inner_head in
        let f : head w h l b ≡ p = start_head w h l inner_head in
        let g : side w h l b ≡ side w h l d = round_side ∙ sym i.sided in
        let (j, a) = same_contour d b i.lined o f g in
        let (k, c) = same_contour b d o i.lined (sym f) (sym g) in
        let (m, e) = lowest_ahead step (slots w h) b in
        let low : lead w h l p ≤ d = rw a at (lowest_least (turns w h l) j b o) in
        let high : d ≤ lead w h l p = rw (times_add step k m d ∙ ap (times step m) c ∙ e) at (i.least (k + m)) in
        omega arith

  -- Its inner contours are as many as the pieces that it lies round.
  contour_pieces : (r : ℕ)
      → inner_contours w h (names w h s) r ≡ count (points w h) (piece_in w h (names w h s) r)
  unfolding inner_contours
  contour_pieces r =
      count_matched (slots w h) (points w h) (counted w h l r) (piece_in w h l r) (head w h l) (lead w h l)
      (λ d _ e.
      let i = inner_is w h l r d e in
      let p : ℕ = head w h l d in
      let u = inner_head r d i in
      let b = mask_point w h (border w h l) (border_lines w h l) p u.lined in
      (b, head_piece w h l r p u (round_side r d i), lead_own r d i))
      (λ p _ e.
      let u = piece_head w h l r p e in
      let v = piece_round w h l r p e in
      let d : ℕ = lead w h l p in
      ((turns w h l).below d (lead_on r p u v), is_inner w h l r d (lead_inner r p u v), lead_head r p u v))

  -- So the holes of a region, or of the outside, are its inner contours.
  pub contour_holes : slots w h ≤ mark → (r : ℕ) → r ≢ mark
      → holes w h (border w h (names w h s)) (parentage w h (names w h s)) r ≡ inner_contours w h (names w h s) r
  contour_holes small r other = holes_pieces w h s small r other ∙ sym (contour_pieces r)
