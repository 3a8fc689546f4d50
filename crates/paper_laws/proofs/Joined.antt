-- The removal rule, step by step, from the drawing of the names n to the drawing of the names with a and b lowered to
-- the smaller.
--   low             == lowering a and b to the smaller
--   m, m'           == the names before and after
use mathlib.Core.Path.{◌≡◌, refl, sym, ◌∙◌, ap, fun_ext}
use mathlib.Core.Bool.{Bool, true, false}
use mathlib.Core.Logic.{◌≢◌}
use mathlib.Core.List.{List, map}
use Prim.Native.Nat.{ℕ, zero, suc, ◌+◌, ◌*◌, ◌<◌, ◌≤◌}
use native.Mathlib.Nat.{zero-add}
use native.Mathlib.Omega.{arith}
use borrow.Author.Tests.{ltb-true, lt-ltb}
use Rattle.laws.specs.Least.{lower}
use Rattle.laws.specs.Table.{table, number}
use Rattle.laws.proofs.Least.{lower_other}
use Rattle.laws.proofs.Table.{table_agree}
use Rattle.laws.proofs.Chart.{Map, Covers, Passes, less}
use Rattle.laws.proofs.Chart as Chart
use Rattle.laws.proofs.Level.{level_chart}
use Rattle.laws.proofs.Less.{Alike, less_chart, less_covers, less_level, level_colours}
use Rattle.laws.proofs.Over.{links, Over}
use Rattle.laws.proofs.Alike.{links_agree, alike_over, alike_covers}
use Rattle.laws.proofs.Loop.{Above, Loops, loops_passes, looped_start, looped_all}
use Rattle.laws.proofs.Anchor.{settled_start, settled_over}
use Rattle.point_darts.specs.Dart.{mark, slots, points, dart, point, reversal}
use Rattle.point_darts.specs.Point.{degree}
use Rattle.point_darts.proofs.Points.{degree_bits}
use Rattle.paper.specs.Level.{side, border, mask, next, plain, level, big, tops, marked}
use Rattle.paper.specs.Enclosure.{top_side, parent, parents}
use Rattle.paper.specs.Drawing.{Tables, drawn}
use Rattle.paper.specs.Total.{cells_of}
use Rattle.paper.specs.Joining.{Links, at, on, shared, removed, rest1, rest3, smooths, smoothed, closes, closed, joined}
use Rattle.paper_laws.proofs.Sheet.{lines_map, sheet, sheet_chart, sheet_few, sheet_colours}
use Rattle.paper_laws.proofs.Sheet.{border_alone, border_back, border_below, border_lines}
use Rattle.paper_laws.proofs.Fewer.{fewer_border, fewer_next, fewer_lines, fewer_side}
use Rattle.paper_laws.proofs.Marks.{same_at, marked_agree, on_marked, next_small}
use Rattle.paper_laws.proofs.Removed.{on_links, removed_lengths, removed_next, removed_other}
use Rattle.paper_laws.proofs.Held.{Held, held_same, on_held, level_alone}
use Rattle.paper_laws.proofs.Smoothed.{Smooth, smooth_all}
use Rattle.paper_laws.proofs.Closed.{Close, close_all}
use Rattle.paper_laws.proofs.Kept.{top, mask_some, dart_point, sheet_tops, sheet_anchored, sheet_loops}
use Rattle.paper_laws.proofs.Enclosure.{head_top, head_east}
use Rattle.paper_laws.proofs.Drawn.{anchors, sheet_plane, drawn_next1, drawn_side1, drawn_links}
use Rattle.paper_laws.proofs.Drawn.{drawn_held, drawn_reads, level_reads, length_next1}
use Rattle.paper_laws.proofs.Added.{added_cells, added_borders}

-- a point that is big among fewer lines is big among more
number_less : (a b : Bool) → (a ≡ true → b ≡ true) → number a ≤ number b
number_less true b f = rw (f refl) (omega arith)
number_less false b f = omega arith

pub big_more : (o q : ℕ → Bool) → ((d : ℕ) → o d ≡ true → q d ≡ true) → (p : ℕ) → big o p ≡ true
    → big q p ≡ true
unfolding big mask
big_more o q f p e =
    let c : (k : ℕ) → number (o (dart p k)) ≤ number (q (dart p k)) =
    λ k. number_less (o (dart p k)) (q (dart p k)) (f (dart p k)) in
    let g = ltb-true 2 (degree (mask o p)) e in
    lt-ltb 2 (degree (mask q p))
    (omega (
      arith,
      g,
      degree_bits (λ k. o (dart p k)),
      degree_bits (λ k. q (dart p k)),
      c 0,
      c 1,
      c 2,
      c 3,
    ))

-- the tables of level 3 are those whose links are held
held_is : (w h : ℕ) (n : List ℕ) (l : Links) → Held w h (sheet w h n) (anchors w h n) l
    → (l.next ≡ (drawn w h n).next3) × (l.other ≡ (drawn w h n).other3)
held_is w h n l c =
    let e = held_same c (drawn_held w h n) in
    (ap (λ j. j.next) e, ap (λ j. j.other) e)

module _ (w h : ℕ) (n : List ℕ) where
  -- a region's parent is found from the lines and their sides alone
  parent_agree : (s t : ℕ → ℕ) → ((d : ℕ) → border w h n d ≡ true → s d ≡ t d) → (r : ℕ)
      → parent w (border w h n) s (tops w h (border w h n)) r ≡ parent w (border w h n) t (tops w h (border w h n)) r
  unfolding parent
  parent_agree s t e zero = refl
  parent_agree s t e (suc i) = go (border w h n (top_side w i)) refl
    where
      o : ℕ → Bool
      o = border w h n

      go : (b : Bool) → o (top_side w i) ≡ b
          → parent w (border w h n) s (tops w h (border w h n)) (suc i)
          ≡ parent w (border w h n) t (tops w h (border w h n)) (suc i)
      go true q =
          let p = point (top_side w i) in
          let g = head_top w h o (border_lines w h n) p (mask_some o (top_side w i) p q refl) in
          rw (q, e (top_side w i) q, e (reversal w (dart (top w h o p) 0)) (border_back w h n (dart (top w h o p) 0) (head_east w h n g)))
      go false q = rw q

  parents_agree : (s t : ℕ → ℕ) → ((d : ℕ) → border w h n d ≡ true → s d ≡ t d)
      → parents w h (border w h n) s ≡ parents w h (border w h n) t
  unfolding parents
  parents_agree s t e =
      table_agree (w * h + 1) (parent w (border w h n) s (tops w h (border w h n)))
      (parent w (border w h n) t (tops w h (border w h n))) (λ r _. parent_agree s t e r)

  -- so the parents of a drawing are those read from its own table of sides
  pub parents_drawn : ((d : ℕ) → side w h n d < mark)
      → parents w h (on (drawn w h n).side1) (at (drawn w h n).side1) ≡ (drawn w h n).parent
  unfolding drawn level plain
  parents_drawn small =
      rw (fun_ext (on_marked w h (border w h n) (side w h n) (border_below w h n) (λ d _. small d)))
      (parents_agree (at (marked w h (border w h n) (side w h n))) (side w h n) (drawn_side1 w h n))

tables_path : (t u : Tables) → t.next1 ≡ u.next1 → t.side1 ≡ u.side1 → t.next3 ≡ u.next3 → t.other3 ≡ u.other3
    → t.parent ≡ u.parent → t.cells ≡ u.cells → t.borders ≡ u.borders → t ≡ u
tables_path t u p q r s v x y =
    λ i. record { next1 = p i; side1 = q i; next3 = r i; other3 = s i; parent = v i; cells = x i; borders = y i }

module _ (w h a b : ℕ) (n : List ℕ) (room : slots w h ≤ mark) (apart : a ≢ b) (za : a ≢ 0) (zb : b ≢ 0) where
  abbrev m : Map
  m = sheet w h n

  abbrev n' : List ℕ
  n' = map (lower a b) n

  abbrev m' : Map
  m' = sheet w h n'

  abbrev o' : ℕ → Bool
  o' = border w h n'

  pub outside : lower a b 0 ≡ 0
  outside = lower_other a b 0 (λ e. za (sym e)) (λ e. zb (sym e))

  -- fewer regions are fewer lines
  pub fewer_alike : Alike (less m (lower a b)) m'
  unfolding less sheet lines_map
  fewer_alike =
      record {
        same_on = λ d. sym (fewer_border w h n (lower a b) outside d);
        same_nx = λ d e. sym (fewer_next w h n (lower a b) outside d (fewer_border w h n (lower a b) outside d ∙ e));
        same_rev = λ d e. refl;
      }

  -- Step 1 at level 1.
  abbrev l1 : Links
  l1 = record { next = (drawn w h n).next1; other = table (slots w h) (reversal w) }

  abbrev r1 : Links
  r1 = removed w h l1 (shared (drawn w h n).side1 (at l1.other) a b)

  r1_next : (d : ℕ) → at r1.next d ≡ links mark o' (next w o') d
  unfolding sheet lines_map
  r1_next d =
      removed_next (sheet_chart w h n) (sheet_colours w h n) (drawn_reads w h n) room apart d
      ∙ links_agree mark fewer_alike.same_on fewer_alike.same_nx d

  pub r1_on : on r1.next ≡ o'
  r1_on = fun_ext (on_links r1.next r1_next (λ d e q. let s = next_small w h o' (border_lines w h n') room d e in omega arith))

  -- no line is left alone at a point
  pub r1_alone : (p : ℕ) → degree (mask (on r1.next) p) ≡ 1 → ⊥
  r1_alone p e = border_alone w h n' p (rw r1_on at e)

  r1_is : r1.next ≡ (drawn w h n').next1
  r1_is =
      same_at (slots w h) r1.next (drawn w h n').next1
      (removed_lengths w h l1 (shared (drawn w h n).side1 (at l1.other) a b)).0 (length_next1 w h n')
      (λ d _. r1_next d ∙ sym (drawn_next1 w h n' d))

  -- Step 1 at level 3.
  loops : Loops m (big (border w h n)) (anchors w h n)
  loops = sheet_loops w h n

  passes : Passes m (anchors w h n)
  passes = loops_passes (sheet_chart w h n) (sheet_few w h n) loops

  abbrev r3 : Links
  r3 = removed w h (drawn_links w h n) (shared (drawn w h n).side1 (at (drawn_links w h n).other) a b)

  r3_over_less : Over mark (less m (lower a b)) (anchors w h n) (at r3.next) (at r3.other)
  r3_over_less =
      let c = sheet_chart w h n in
      let lc = level_chart c loops.covers passes in
      let lo = level_colours (anchors w h n) (sheet_colours w h n) in
      let e = less_level c loops.covers passes (lower a b) in
      record {
        nexts = λ d. removed_next lc lo (level_reads w h n) room apart d ∙ links_agree mark e.same_on e.same_nx d;
        others = λ d. removed_other lc lo (level_reads w h n) room apart d ∙ links_agree mark e.same_on e.same_rev d;
      }

  pub covers_less : Covers (less m (lower a b)) (anchors w h n)
  covers_less = less_covers (sheet_chart w h n) passes (lower a b) loops.covers

  r3_held : Held w h m' (anchors w h n) r3
  unfolding less sheet lines_map
  r3_held =
      let e = removed_lengths w h (drawn_links w h n) (shared (drawn w h n).side1 (at (drawn_links w h n).other) a b) in
      record {
        over = alike_over (less_chart (sheet_chart w h n) (lower a b)) refl (λ d. refl) fewer_alike covers_less r3_over_less;
        nexts = e.0;
        others = e.1;
      }

  pub r3_covers : Covers m' (anchors w h n)
  unfolding less sheet lines_map
  r3_covers = alike_covers (less_chart (sheet_chart w h n) (lower a b)) refl (λ d. refl) fewer_alike covers_less

  pub r3_alone : (p : ℕ) → degree (mask (on r3.next) p) ≡ 1 → ⊥
  r3_alone p e =
      level_alone (sheet_plane w h n') (anchors w h n) p
      (rw (on_held (sheet_plane w h n') (anchors w h n) room r3_covers r3_held) at e)

  -- Step 3.
  pub anchors_above : Above (big o') (anchors w h n)
  anchors_above =
      record {
        above = λ p e.
            (sheet_anchored w h n).high.above p
            (big_more o' (border w h n) (fewer_lines w h n (lower a b) outside) p e);
      }

  pub start : Smooth w h m' (anchors w h n) r3 0
  unfolding sheet lines_map
  start = record { held = r3_held; high = anchors_above; covers = r3_covers; looped = looped_start }

  -- after any number of points, the tables hold the links over some points
  pub smooth_held : (i : ℕ) → (k : ℕ → Bool) × Covers m' k × Held w h m' k (smooths i 0 r3)
  smooth_held i =
      let (k, f, _) = smooth_all (sheet_plane w h n') room i 0 (anchors w h n) r3 start in
      (k, f.covers, f.held)

  near : (d : ℕ) → o' d ≡ true → point d < points w h
  near = dart_point w h o' (border_lines w h n')

  -- Step 4.
  abbrev pub s3 : Links
  s3 = smoothed w h r3

  pub closing : (k : ℕ → Bool) × Close w h m' (tops w h o') k s3 0 × ((q : ℕ) → anchors w h n q ≡ false → k q ≡ false)
  unfolding smoothed sheet lines_map
  closing =
      let (k, f, fewer) = smooth_all (sheet_plane w h n') room (points w h) 0 (anchors w h n) r3 start in
      let all : (d : ℕ) → o' d ≡ true → point d < 0 + points w h = λ d e. rw (zero-add (points w h)) (near d e) in (
        k,
        record {
          held = f.held;
          loops = record { high = f.high; covers = f.covers; loopy = looped_all f.looped all };
          settled = settled_start;
        },
        fewer,
      )

  pub close_held : (i : ℕ) → (k : ℕ → Bool) × Covers m' k × Held w h m' k (closes o' (tops w h o') i 0 (smoothed w h r3))
  unfolding sheet lines_map
  close_held i =
      let (k, c, _) = closing in
      let (k₁, g, _) = close_all (sheet_plane w h n') room (tops w h o') (sheet_tops w h n') i 0 k s3 c in
      (k₁, g.loops.covers, g.held)

  c3 : Links
  c3 = closed w h o' s3

  c3_held : Held w h m' (anchors w h n') c3
  unfolding c3 closed sheet lines_map
  c3_held =
      let (k, c, _) = closing in
      let s = sheet_plane w h n' in
      let y = sheet_tops w h n' in
      let (_, g, _) = close_all s room (tops w h o') y (points w h) 0 k s3 c in
      let all : (d : ℕ) → o' d ≡ true → point d < 0 + points w h = λ d e. rw (zero-add (points w h)) (near d e) in
      record {
        over = settled_over s.chart s.few y g.loops (sheet_anchored w h n') g.settled all g.held.over;
        nexts = g.held.nexts;
        others = g.held.others;
      }

  -- Step 5.
  s1 : List ℕ
  s1 = marked w h o' (λ d. lower a b (at (drawn w h n).side1 d))

  s1_is : s1 ≡ (drawn w h n').side1
  unfolding s1 drawn level plain
  s1_is =
      marked_agree w h o' o' (λ d. lower a b (at (drawn w h n).side1 d)) (side w h n') (λ d. refl)
      (λ d e.
      ap (lower a b) (drawn_side1 w h n d (fewer_lines w h n (lower a b) outside d e))
      ∙ sym (fewer_side w h n (lower a b) outside d))

  -- All steps.
  pub joined_drawn : ((d : ℕ) → side w h n' d < mark) → a ≤ w * h → b ≤ w * h → cells_of w h n a ≢ 0 → cells_of w h n b ≢ 0
      → joined w h (drawn w h n) a b ≡ drawn w h n'
  unfolding joined rest1 rest3 c3 s1
  joined_drawn small ia ib ua ub =
      let (nexts, others) = held_is w h n' c3 c3_held in
      tables_path (joined w h (drawn w h n) a b) (drawn w h n')
      r1_is
      (rw r1_on s1_is)
      (rw r1_on nexts)
      (rw r1_on others)
      (rw (r1_on, s1_is) (parents_drawn w h n' small))
      (added_cells a b apart za zb w h n room ia ib ua ub)
      (added_borders a b apart za zb w h n room ia ib ua ub)
