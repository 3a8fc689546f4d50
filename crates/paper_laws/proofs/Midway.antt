-- What step 1 of the removal rule leaves at a point: never one line alone, so no join reads entry 4 of the point table.
--   rest1, rest3    == the links of level 1, and of level 3, after step 1
--   becomes m t     == the entry of the point table for the lines m, of which the lines t are taken: 4 cannot be
--   becoming m l    == the entry that is read of a point that had the lines m and has the lines l left
--   without m t     == the lines of the mask m that are not among the lines t
use mathlib.Core.Path.{◌≡◌, refl, sym, ap, ◌∙◌, fun_ext}
use mathlib.Core.Bool.{Bool, true, false, not, ◌&&◌}
use mathlib.Core.Logic.{◌≢◌}
use mathlib.Core.List.{List, map}
use Prim.Native.Nat.{ℕ, ◌≤◌}
use native.Mathlib.Omega.{arith}
use Rattle.laws.specs.Table.{table}
use Rattle.laws.specs.Least.{lower}
use Rattle.laws.proofs.Chart.{Covers, taken, less}
use Rattle.laws.proofs.Chart as Chart
use Rattle.point_darts.specs.Dart.{mark, slots, dart, reversal}
use Rattle.point_darts.specs.Point.{has, degree}
use Rattle.point_rules.specs.Turn.{without, becomes, becoming}
use Rattle.point_darts.proofs.Points.{bits_same}
use Rattle.point_rules.proofs.Turns.{without_none}
use Rattle.point_rules.proofs.Becoming.{becoming_four, becoming_taken}
use Rattle.paper.specs.Name.{names}
use Rattle.paper.specs.Level.{side, border, mask, plain, level}
use Rattle.paper.specs.Drawing.{Tables, drawn, drawing}
use Rattle.paper.specs.Joining.{Links, at, on, shared, rest1, rest3}
use Rattle.paper.specs.Sitting.{Joinable, Midway, step3, step4}
use Rattle.paper_laws.proofs.Sheet.{lines_map, sheet, sheet_chart, sheet_colours, border_alone, border_below, border_lines}
use Rattle.paper_laws.proofs.Fewer.{fewer_border, fewer_lines}
use Rattle.paper_laws.proofs.Next.{mask_below, has_mask}
use Rattle.paper_laws.proofs.Marks.{next_small, on_marked, names_side_small}
use Rattle.paper_laws.proofs.Removed.{on_links, gone_taken}
use Rattle.paper_laws.proofs.Held.{Held, mask_agree, level_was, level_alone, mask_kept, mask_free, on_held}
use Rattle.paper_laws.proofs.Drawn.{sheet_plane, drawn_next1, drawn_reads}
use Rattle.paper_laws.proofs.Joined.{outside, r1_on, r1_alone, r3_alone, smooth_held, close_held}

without_mask : (o q : ℕ → Bool) (p : ℕ) → without (mask o p) (mask q p) ≡ mask (λ d. o d && not (q d)) p
unfolding without mask
without_mask o q p =
    bits_same (λ j. has (mask o p) j && not (has (mask q p) j)) (λ j. o (dart p j) && not (q (dart p j)))
    (λ j l. rw (has_mask o p j l, has_mask q p j l))

-- The lines o at a point p, of which the lines q are left.
module _ (o q : ℕ → Bool) (p : ℕ) (f : (d : ℕ) → q d ≡ true → o d ≡ true) where
  none_new : without (mask q p) (mask o p) ≡ 0
  none_new =
      without_none (mask o p) (mask q p)
      (λ j l e. has_mask o p j l ∙ f (dart p j) (sym (has_mask q p j l) ∙ e))

  left_no_four : degree (mask o p) ≢ 1 → degree (mask q p) ≢ 1 → becoming (mask o p) (mask q p) ≢ 4
  left_no_four = becoming_four (mask o p) (mask q p) (mask_below o p) (mask_below q p) none_new

  left_taken : becoming (mask o p) (mask q p) ≡ becomes (mask o p) (mask (λ d. o d && not (q d)) p)
  left_taken =
      becoming_taken (mask o p) (mask q p) (mask_below o p) (mask_below q p) none_new
      ∙ ap (becomes (mask o p)) (without_mask o q p)

and_not_and : (x y : Bool) → (x && not (x && not y)) ≡ (x && y)
and_not_and true true = refl
and_not_and true false = refl
and_not_and false y = refl

-- A join.
module _ (w h : ℕ) (s : List ℕ) (room : slots w h ≤ mark) (a b : ℕ) (j : Joinable w h (drawing w h s) a b) where
  abbrev t : Tables
  t = drawing w h s

  abbrev n : List ℕ
  n = names w h s

  abbrev n' : List ℕ
  n' = map (lower a b) n

  abbrev back : ℕ → ℕ
  back = at (table (slots w h) (reversal w))

  -- After step 1 no point has exactly one line, at level 1 and at level 3: there is no hanging end.
  pub no_hanging_line : (p : ℕ) → degree (mask (on (rest1 w h (drawing w h s) a b).next) p) ≢ 1
  unfolding drawing rest1
  no_hanging_line = r1_alone w h a b n room j.apart j.inner.0 j.inner.1

  pub no_hanging_curve : (p : ℕ) → degree (mask (on (rest3 w h (drawing w h s) a b).next) p) ≢ 1
  unfolding drawing rest3
  no_hanging_curve = r3_alone w h a b n room j.apart j.inner.0 j.inner.1

  -- the lines that the tables tell, and those of them that step 1 takes
  before : on t.side1 ≡ border w h n
  unfolding drawing drawn level plain
  before = fun_ext (on_marked w h (border w h n) (side w h n) (border_below w h n) (λ d _. names_side_small w h s room d))

  on_is : on t.next1 ≡ border w h n
  unfolding drawing
  on_is =
      fun_ext (on_links (drawn w h n).next1 (drawn_next1 w h n) λ d e q.
      let l = next_small w h (border w h n) (border_lines w h n) room d e in omega arith)

  left : on (rest1 w h t a b).next ≡ border w h n'
  unfolding drawing rest1
  left = r1_on w h a b n room j.apart j.inner.0 j.inner.1

  fewer : (d : ℕ) → border w h n' d ≡ true → border w h n d ≡ true
  fewer = fewer_lines w h n (lower a b) (outside w h a b n room j.apart j.inner.0 j.inner.1)

  gone_is : (d : ℕ) → (border w h n d && not (border w h n' d)) ≡ (border w h n d && shared t.side1 back a b d)
  unfolding drawing less sheet lines_map
  gone_is d =
      rw (fewer_border w h n (lower a b) (outside w h a b n room j.apart j.inner.0 j.inner.1) d)
      (and_not_and (border w h n d) (taken (sheet w h n) (lower a b) d) ∙ go (border w h n d) refl)
    where
      go : (x : Bool) → border w h n d ≡ x
          → (x && taken (sheet w h n) (lower a b) d) ≡ (x && shared t.side1 back a b d)
      go true e = sym (gone_taken (sheet_chart w h n) (sheet_colours w h n) (drawn_reads w h n) room j.apart d e)
      go false e = refl

  -- The entry that is read of a point is the one for the lines present before and the lines taken.
  pub read_taken : (p : ℕ)
      → becoming (mask (on (drawing w h s).side1) p) (mask (on (rest1 w h (drawing w h s) a b).next) p)
      ≡ becomes (mask (on (drawing w h s).next1) p)
      (mask (λ d. on (drawing w h s).next1 d
      && shared (drawing w h s).side1 (at (table (slots w h) (reversal w))) a b d) p)
  read_taken p =
      rw (before, left, on_is)
      (left_taken (border w h n) (border w h n') p fewer
      ∙ ap (becomes (mask (border w h n) p))
      (mask_agree (λ d. border w h n d && not (border w h n' d)) (λ d. border w h n d && shared t.side1 back a b d) p
      (λ k _. gone_is (dart p k))))

  -- It is not 4, at level 1.
  line_no_four : (p : ℕ) → becoming (mask (on t.side1) p) (mask (on (rest1 w h t a b).next) p) ≢ 4
  line_no_four p =
      rw (before, left)
      (left_no_four (border w h n) (border w h n') p fewer (border_alone w h n p) (border_alone w h n' p))

  pub join_no_four : (p : ℕ) → becomes (mask (on (drawing w h s).next1) p)
      (mask (λ d. on (drawing w h s).next1 d
      && shared (drawing w h s).side1 (at (table (slots w h) (reversal w))) a b d) p) ≢ 4
  join_no_four p e = line_no_four p (read_taken p ∙ e)

  -- Nor at level 3, at any time; the level 3 darts of a point that has some are its lines, so that the same entry is read.
  module _ (k : ℕ → Bool) (l : Links) (c : Covers (sheet w h n') k) (g : Held w h (sheet w h n') k l) (p : ℕ) where
    held : on l.next ≡ (Chart.level (sheet w h n') k).on
    held = on_held (sheet_plane w h n') k room c g

    held_no_four : becoming (mask (on t.side1) p) (mask (on l.next) p) ≢ 4
    unfolding sheet lines_map
    held_no_four =
        rw (before, held)
        (left_no_four (border w h n) (Chart.level (sheet w h n') k).on p
        (λ d e. fewer d (level_was (sheet_plane w h n') k d e)) (border_alone w h n p)
        (level_alone (sheet_plane w h n') k p))

    held_none_taken : becoming (mask (on l.next) p) (mask (on l.next) p) ≢ 4
    held_none_taken =
        rw held
        (left_no_four (Chart.level (sheet w h n') k).on (Chart.level (sheet w h n') k).on p (λ d e. e)
        (level_alone (sheet_plane w h n') k p) (level_alone (sheet_plane w h n') k p))

    held_lines : mask (on l.next) p ≢ 0 → mask (on l.next) p ≡ mask (on (rest1 w h t a b).next) p
    unfolding sheet lines_map
    held_lines z = rw (held, left) (go (k p) refl)
      where
        go : (x : Bool) → k p ≡ x → mask (Chart.level (sheet w h n') k).on p ≡ mask (border w h n') p
        go true e = mask_kept (sheet_plane w h n') k p e
        go false e = absurd (z (rw held (mask_free (sheet_plane w h n') k p e)))

  midway_held : {l : Links} → Midway w h t a b l
      → (k : ℕ → Bool) × Covers (sheet w h n') k × Held w h (sheet w h n') k l
  unfolding drawing rest3
  midway_held (step3 i) = smooth_held w h a b n room j.apart j.inner.0 j.inner.1 i
  midway_held (step4 i) = rw left (close_held w h a b n room j.apart j.inner.0 j.inner.1 i)

  pub midway_no_four : {l : Links} → Midway w h (drawing w h s) a b l → (p : ℕ)
      → becoming (mask (on (drawing w h s).side1) p) (mask (on l.next) p) ≢ 4
  midway_no_four {l} e = let (k, c, g) = midway_held e in held_no_four k l c g

  -- also where what is left is read by itself, none of it taken
  pub midway_none_taken : {l : Links} → Midway w h (drawing w h s) a b l → (p : ℕ)
      → becoming (mask (on l.next) p) (mask (on l.next) p) ≢ 4
  midway_none_taken {l} e = let (k, c, g) = midway_held e in held_none_taken k l c g

  pub midway_lines : {l : Links} → Midway w h (drawing w h s) a b l → (p : ℕ)
      → mask (on l.next) p ≢ 0 → mask (on l.next) p ≡ mask (on (rest1 w h (drawing w h s) a b).next) p
  midway_lines {l} e = let (k, c, g) = midway_held e in held_lines k l c g
