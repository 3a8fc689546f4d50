-- The kept points and the tables of levels 2 and 3 are those of the paper.
use mathlib.Core.Path.{◌≡◌, refl, sym, ◌∙◌, ap, ap₂, fun_ext}
use mathlib.Core.Bool.{Bool, true, false, ◌&&◌, ◌||◌}
use mathlib.Core.List.{List, [], ◌∷◌}
use Prim.Native.Nat.{ℕ, zero, suc, ◌<◌, ◌≤◌}
use native.Mathlib.Decide.{dec_lt}
use native.Mathlib.Omega.{arith}
use lib.Dec.{eqb, ltb, lit<}
use lib.ListN.{length, get_or}
use borrow.Author.Tests.{eqb-true}
use Rattle.laws.specs.Table.{table, number}
use Rattle.laws.proofs.Table.{get_or_table, get_or_table_past, table_agree, some_agree}
use Rattle.laws.proofs.Chart.{Chart, last as last'}
use Rattle.laws.proofs.Level.{last_other}
use Rattle.laws.proofs.Test.{and_right}
use Rattle.laws.proofs.Walk.{run_along}
use Rattle.point_darts.specs.Dart.{mark, points, slots, dart, point, direction, far, turned, reversal}
use Rattle.point_darts.specs.Point.{bits, half, has, degree, inline}
use Rattle.point_rules.specs.Turn.{without, impossible, kind, becomes, becomes_of}
use Rattle.point_rules.proofs.Turns.{each, each_at}
use Rattle.paper.specs.Level.{Level, border, mask, next, last, along, big, bent, tops, anchor, kept2, kept3, among, marked}
use Rattle.paper.specs.Joining.{at, on}
use Rattle.paper_laws.proofs.Next.{Lines, mask_below, point_next}
use Rattle.paper_laws.proofs.Piece.{length_tops}
use Rattle.paper_laws.proofs.Marks.{length_marked, at_held, on_marked, marked_agree, next_stays, last_stays}
use Rattle.paper_laws.proofs.Marks.{lines_inside, along_on, next_small, along_next_small}
use Rattle.paper_laws.proofs.Sheet.{sheet, sheet_chart, border_lines}
use Rattle.paper_laws.proofs.Along.{Kept, level_map, last_last, along_chart, other_stays, other_other}
use Rattle.level_lines.proofs.Paper.{drafted, drafted_at}
use Rattle.level_kept.specs.Keep.{kind_at, large, bends, stands, anchored, keeps}
use Rattle.level_curves.specs.Link.{ahead, kept_at, starts, last_of, back, along_next, along_other}
use Rattle.level_curves.specs.Link.{next_along, other_along, TwoWay}
use Rattle.table_entries.specs.Trim.{trimmed}
use Rattle.level_kept.proofs.Flags.{number_once}

-- an entry of a list does not depend on what would stand past its end
entry_same : (t : List ℕ) (i y z : ℕ) → i < length t → get_or t i y ≡ get_or t i z
entry_same [] i y z l = absurd (omega arith)
entry_same (v ∷ t) zero y z l = refl
entry_same (v ∷ t) (suc i) y z l = entry_same t i y z (omega arith)

-- Kept points.
abbrev larges : ℕ → ℕ → ℕ → Bool
larges m j k = eqb (number (eqb (becomes_of m 0) 3)) (number (ltb 2 (degree m)))

abbrev bending : ℕ → ℕ → ℕ → Bool
bending m j k =
    eqb (number (eqb (becomes_of m 0) 3 || eqb (becomes_of m 0) 2))
    (number (ltb 2 (degree m) || eqb (degree m) 2 && eqb (inline m) 0))

all_larges : each 1 1 larges ≡ true
unfolding becomes_of becomes impossible kind without degree inline bits has half turned
all_larges = refl

all_bends : each 1 1 bending ≡ true
unfolding becomes_of becomes impossible kind without degree inline bits has half turned
all_bends = refl

module _ (w h : ℕ) (o : ℕ → Bool) where
  m : List ℕ
  m = drafted w h o

  large_big : (p : ℕ) → p < points w h → large m p ≡ big o p
  unfolding large kind_at big m
  large_big p l =
      rw (drafted_at w h o p l)
      (number_once _ _ (eqb-true _ _ (each_at 1 1 larges all_larges (mask o p) (mask_below o p) 0 0 (lit< tt) (lit< tt))))

  kept_bent : (p : ℕ) → p < points w h → (large m p || eqb (kind_at m p) 2) ≡ (big o p || bent o p)
  unfolding large kind_at big bent m
  kept_bent p l =
      rw (drafted_at w h o p l)
      (number_once _ _ (eqb-true _ _ (each_at 1 1 bending all_bends (mask o p) (mask_below o p) 0 0 (lit< tt) (lit< tt))))

  top_at : (q : ℕ) → q < points w h → at (tops w h o) q ≡ get_or (tops w h o) q 0
  unfolding at
  top_at q b = entry_same (tops w h o) q mark 0 (rw (length_tops w h o) b)

  anchored_anchor : (p : ℕ) → p < points w h → anchored (points w h) m (tops w h o) p ≡ anchor w h o (tops w h o) p
  unfolding anchored anchor stands m
  anchored_anchor p l =
      let t = tops w h o in
      rw (
        drafted_at w h o p l,
        top_at p l,
        some_agree (λ q. eqb (at t q) p && large (drafted w h o) q) (λ q. eqb (get_or t q 0) p && big o q) (points w h)
            (λ q b. ap₂ (λ x y. eqb x p && y) (top_at q b) (large_big q b)),
      )

  bends_kept : bends w h m ≡ table (points w h) (λ p. number (big o p || bent o p))
  unfolding bends
  bends_kept =
      table_agree (points w h) (λ p. number (large m p || eqb (kind_at m p) 2)) (λ p. number (big o p || bent o p))
      (λ p l. ap number (kept_bent p l))

  keeps_kept : keeps w h m (tops w h o) ≡ table (points w h) (λ p. number (big o p || anchor w h o (tops w h o) p))
  unfolding keeps
  keeps_kept =
      table_agree (points w h) (λ p. number (large m p || anchored (points w h) m (tops w h o) p))
      (λ p. number (big o p || anchor w h o (tops w h o) p))
      (λ p l. ap number (ap₂ ◌||◌ (large_big p l) (anchored_anchor p l)))

  -- a table of 1 and 0 keeps the points of the test
  kept_among : (f : ℕ → Bool) (p : ℕ) → kept_at (table (points w h) (λ p. number (f p))) p ≡ among (table (points w h) f) p
  unfolding kept_at among at mark
  kept_among f p = go (dec_lt p (points w h)) (f p) refl
    where
      g : ℕ → ℕ
      g q = number (f q)

      go : Dec (p < points w h) → (b : Bool) → f p ≡ b
          → kept_at (table (points w h) (λ p. number (f p))) p ≡ among (table (points w h) f) p
      go (yes l) true e = rw (get_or_table (points w h) g p mark l, get_or_table (points w h) f p false l, e)
      go (yes l) false e = rw (get_or_table (points w h) g p mark l, get_or_table (points w h) f p false l, e)
      go (no l) b e =
          let past : points w h ≤ p = omega arith in
          rw (get_or_table_past (points w h) g p mark past, get_or_table_past (points w h) f p false past)

  pub bends_paper : kept_at (bends w h (drafted w h o)) ≡ among (kept2 w h o)
  unfolding kept2 m
  bends_paper = rw bends_kept (fun_ext (kept_among (λ p. big o p || bent o p)))

  pub keeps_paper : kept_at (keeps w h (drafted w h o) (tops w h o)) ≡ among (kept3 w h o)
  unfolding kept3 m
  keeps_paper = rw keeps_kept (fun_ext (kept_among (λ p. big o p || anchor w h o (tops w h o) p)))

-- Links along runs, where x has level 1 next, and k keeps the points of a test.
module _ (w h : ℕ) (o : ℕ → Bool) (l : Lines w h o) (room : slots w h ≤ mark) (k : List ℕ) where
  abbrev x : List ℕ
  x = marked w h o (next w o)

  abbrev keep : ℕ → Bool
  keep = kept_at k

  abbrev a : Level
  a = along w h o keep

  x_on : (d : ℕ) → on x d ≡ o d
  x_on = on_marked w h o (next w o) (lines_inside w h o l) (next_small w h o l room)

  x_at : (d : ℕ) → o d ≡ true → at x d ≡ next w o d
  x_at = at_held w h o (next w o) (lines_inside w h o l)

  last_paper : (d : ℕ) → o d ≡ true → last_of (slots w h) x k d ≡ last w h o keep d
  unfolding last_of last ahead
  last_paper =
      run_along (λ d. d) (at x) (next w o) (λ e. kept_at k (point (at x e))) (λ e. keep (far w e)) (λ d. o d ≡ true)
      (λ d e. ap keep (ap point (x_at d e) ∙ point_next w o d (l.back d e))) x_at (next_stays w h o l) (slots w h)

  starts_paper : (d : ℕ) → starts x k d ≡ a.on d
  unfolding starts along
  starts_paper d = ap (λ b. b && keep (point d)) (x_on d)

  module _ (d : ℕ) (e : starts x k d ≡ true) where
    from_line : o d ≡ true
    from_line = along_on w h o l keep d (sym (starts_paper d) ∙ e)

    last_line : o (last w h o keep d) ≡ true
    last_line = last_stays w h o l keep d from_line

    next_paper : at x (last_of (slots w h) x k d) ≡ a.next d
    unfolding along
    next_paper = ap (at x) (last_paper d from_line) ∙ x_at (last w h o keep d) last_line

    other_paper : back x (last_of (slots w h) x k d) ≡ a.other d
    unfolding along back ahead reversal
    other_paper =
        let f = last w h o keep d in
        ap (back x) (last_paper d from_line)
        ∙ ap (λ p. dart p (turned (direction f) 2)) (ap point (x_at f last_line) ∙ point_next w o f (l.back f last_line))

  pub along_next_paper : along_next w h x k ≡ marked w h a.on a.next
  unfolding along_next
  along_next_paper =
      marked_agree w h (starts x k) a.on (λ d. at x (last_of (slots w h) x k d)) a.next starts_paper next_paper

  pub along_other_paper : along_other w h x k ≡ marked w h a.on a.other
  unfolding along_other
  along_other_paper =
      marked_agree w h (starts x k) a.on (λ d. back x (last_of (slots w h) x k d)) a.other starts_paper other_paper

  side_marked : (y s : List ℕ) → length s ≡ slots w h → trimmed y s ≡ marked w h (on y) (at s)
  unfolding trimmed marked
  side_marked y s e = rw e

  pub trimmed_paper : (s : ℕ → ℕ) → trimmed (along_next w h x k) (marked w h o s) ≡ marked w h a.on s
  trimmed_paper s =
      rw (side_marked (along_next w h x k) (marked w h o s) (length_marked w h o s), along_next_paper)
      (marked_agree w h (on (marked w h a.on a.next)) a.on (at (marked w h o s)) s
      held
      (λ d e. at_held w h o s (lines_inside w h o l) d (along_on w h o l keep d (sym (held d) ∙ e))))
    where
      held : (d : ℕ) → on (marked w h a.on a.next) d ≡ a.on d
      held =
          on_marked w h a.on a.next (λ d e. lines_inside w h o l d (along_on w h o l keep d e))
          (along_next_small w h o l room keep)

-- A run between kept points is the same run back from its other end.
module _ (w h : ℕ) (n : List ℕ) (room : slots w h ≤ mark) (k : List ℕ) (g : Kept w h n (kept_at k)) where
  b : ℕ → Bool
  b = border w h n

  lines : Lines w h b
  unfolding b
  lines = border_lines w h n

  level1 : List ℕ
  unfolding b
  level1 = marked w h b (next w b)

  curves : Level
  unfolding b
  curves = along w h b (kept_at k)

  curves_chart : Chart (level_map w h n curves)
  unfolding curves
  curves_chart = along_chart w h n (kept_at k) g

  starts_curve : (d : ℕ) → starts level1 k d ≡ curves.on d
  unfolding level1 curves
  starts_curve = starts_paper w h b lines room k

  module _ (d : ℕ) (e : starts level1 k d ≡ true) where
    next_curve : next_along (slots w h) level1 k d ≡ curves.next d
    unfolding next_along level1 curves
    next_curve = rw e (next_paper w h b lines room k d e)

    other_curve : other_along (slots w h) level1 k d ≡ curves.other d
    unfolding other_along level1 curves
    other_curve = rw e (other_paper w h b lines room k d e)

    on_curve : curves.on d ≡ true
    on_curve = sym (starts_curve d) ∙ e

    other_starts : starts level1 k (curves.other d) ≡ true
    other_starts = starts_curve (curves.other d) ∙ other_stays w h n curves curves_chart d on_curve

    line_curve : b d ≡ true
    unfolding level1
    line_curve = from_line w h b lines room k d e

    last_back : last w h b (kept_at k) (curves.other d) ≡ reversal w d
    unfolding curves along sheet b starts
    last_back =
        last_last w h n (kept_at k) (curves.other d)
        ∙ ap (λ f. last' (sheet w h n) (kept_at k) (reversal w f)) (last_last w h n (kept_at k) d)
        ∙ last_other (sheet_chart w h n) g.covers g.passes d line_curve (and_right (on level1 d) _ e)

    next_back : curves.next (curves.other d) ≡ at level1 (reversal w d)
    unfolding curves along level1
    next_back =
        ap (next w b) last_back
        ∙ sym (x_at w h b lines room k (reversal w d) (lines.back d line_curve))

  pub two_way : TwoWay w (slots w h) (marked w h (border w h n) (next w (border w h n))) k
  unfolding level1 b
  two_way =
      record {
        stays = λ d e.
            let f = sym (x_on w h b lines room k d) ∙ e in
            ap (on level1) (x_at w h b lines room k d f)
            ∙ x_on w h b lines room k (next w b d)
            ∙ next_stays w h b lines d f;
        other_back = λ d e.
            ap (other_along (slots w h) level1 k) (other_curve d e)
            ∙ other_curve (curves.other d) (other_starts d e)
            ∙ other_other w h n curves curves_chart d (on_curve d e);
        next_back = λ d e.
            ap (next_along (slots w h) level1 k) (other_curve d e)
            ∙ next_curve (curves.other d) (other_starts d e)
            ∙ next_back d e;
      }
