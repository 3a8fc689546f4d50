-- A curve neither of whose ends touches a removed curve keeps its links.
--   o, o'           == the lines before and after a and b are joined; m, m' == their maps
--   k, k'           == the points that level 3 keeps before and after
--   Free p          == no line at the point p is removed
use mathlib.Core.Path.{◌≡◌, refl, sym, ◌∙◌, ap}
use mathlib.Core.Bool.{Bool, true, false, not, ◌&&◌}
use mathlib.Core.Logic.{◌≢◌}
use mathlib.Core.List.{List, map}
use Prim.Native.Nat.{ℕ, ◌<◌, ◌≤◌}
use native.Mathlib.Omega.{arith}
use lib.Dec.{ltb}
use Rattle.laws.specs.Least.{lower}
use Rattle.laws.proofs.Test.{and_true, and_left, and_right}
use Rattle.laws.proofs.Least.{step, linked_map}
use Rattle.laws.proofs.Chart.{Map, Chart, Covers, Passes, Colours, taken, less}
use Rattle.laws.proofs.Chart as Chart
use Rattle.laws.proofs.Level.{last_on, last_kept, level_chart}
use Rattle.laws.proofs.Less.{less_chart, last_less, taken_level, level_colours}
use Rattle.laws.proofs.Over.{other, over_next, over_other}
use Rattle.laws.proofs.Alike.{alike_last}
use Rattle.laws.proofs.Link.{last_same, other_on, other_other}
use Rattle.laws.proofs.Loop.{not_above, loops_passes, big_there, big_last}
use Rattle.point_darts.specs.Dart.{mark, slots, points, dart, point, direction, far, reversal}
use Rattle.point_darts.specs.Point.{degree}
use Rattle.point_rules.specs.Turn.{turn}
use Rattle.point_darts.proofs.Darts.{point_dart, point_reversal}
use Rattle.paper.specs.Name.{names}
use Rattle.paper.specs.Level.{border, mask, next, big}
use Rattle.paper.specs.Drawing.{Tables, drawn, drawing, fresh}
use Rattle.paper.specs.Joining.{at, on, joined}
use Rattle.paper.specs.Sitting.{Joinable, Away, Untouched, Keeps}
use Rattle.paper_laws.proofs.Sheet.{lines_map, sheet, sheet_chart, sheet_few, sheet_colours, border_lines}
use Rattle.paper_laws.proofs.Fewer.{fewer_lines, fewer_taken, fewer_border}
use Rattle.paper_laws.proofs.Piece.{Inside, Line, west, north, piece_top, top_piece, tops_le}
use Rattle.paper_laws.proofs.Removed.{gone_taken}
use Rattle.paper_laws.proofs.Held.{mask_agree, on_held}
use Rattle.paper_laws.proofs.Kept.{top, dart_point, sheet_inside, sheet_anchored, sheet_loops}
use Rattle.paper_laws.proofs.Drawn.{anchors, sheet_plane, drawn_held, level_reads}
use Rattle.paper_laws.proofs.Joined.{big_more, outside, fewer_alike, covers_less, r3_covers, anchors_above}
use Rattle.paper_laws.proofs.Neighbour.{joined_names, fresh_joined}

-- A chain of fewer lines is a chain of more: a point that stands for itself among more stands for itself among fewer.
module _ (w h : ℕ) {o q : ℕ → Bool} (more : (d : ℕ) → o d ≡ true → q d ≡ true) (i : Inside w h o) where
  line_more : (p r : ℕ) → Line w h o p r → Line w h q p r
  line_more p r (west b e f) = west b (more (dart r 2) e) f
  line_more p r (north b e f) = north b (more (dart r 3) e) f

  top_more : (p : ℕ) → p < points w h → top w h q p ≡ top w h q (top w h o p)
  top_more p b = piece_top w h q (linked_map (λ p r l. step (line_more p r l)) (top_piece w h o i p b))

  pub top_own : (p : ℕ) → p < points w h → top w h q p ≡ p → top w h o p ≡ p
  top_own p b e =
      let l : top w h q (top w h o p) ≤ top w h o p = tops_le w h q (top w h o p) in
      omega (arith, tops_le w h o p, top_more p b)

-- The names n, before and after a and b are lowered to the smaller.
module _ (w h a b : ℕ) (n : List ℕ) (room : slots w h ≤ mark) (apart : a ≢ b) (za : a ≢ 0) (zb : b ≢ 0) where
  abbrev f : ℕ → ℕ
  f = lower a b

  abbrev n' : List ℕ
  n' = map f n

  abbrev o : ℕ → Bool
  o = border w h n

  abbrev o' : ℕ → Bool
  o' = border w h n'

  abbrev m : Map
  m = sheet w h n

  abbrev m' : Map
  m' = sheet w h n'

  abbrev k : ℕ → Bool
  k = anchors w h n

  abbrev k' : ℕ → Bool
  k' = anchors w h n'

  none : f 0 ≡ 0
  none = outside w h a b n room apart za zb

  pub more : (d : ℕ) → o' d ≡ true → o d ≡ true
  more = fewer_lines w h n f none

  -- a point that is not big stays so
  small_stays : (p : ℕ) → big o p ≡ false → big o' p ≡ false
  small_stays = not_above (record { above = big_more o' o more })

  -- an anchor that still has a line is an anchor
  anchor_stays : (d : ℕ) → o' d ≡ true → k (point d) ≡ true → big o (point d) ≡ false → k' (point d) ≡ true
  unfolding sheet lines_map
  anchor_stays d e kd s =
      let x = sheet_anchored w h n in
      let i = sheet_inside w h n' in
      let in-sheet : (g : ℕ) → o' g ≡ true → point g < points w h = dart_point w h o' (border_lines w h n') in
      let self : top w h o (point d) ≡ point d = x.own d (more d e) kd s in
      (sheet_anchored w h n').kept d e (top_own w h more i (point d) (in-sheet d e) self)
      λ g y z. small_stays (point g)
      (x.free d g (more d e) (more g y) kd s (top_more w h more i (point g) (in-sheet g y) ∙ ap (top w h o) z ∙ self))

  -- Points none of whose lines is removed.
  abbrev pub Free : ℕ → Type 0
  Free p = (g : ℕ) → o g ≡ true → point g ≡ p → taken m f g ≡ false

  free_border : {p : ℕ} → Free p → (g : ℕ) → point g ≡ p → o' g ≡ o g
  unfolding less sheet lines_map
  free_border x g q = go (o g) refl
    where
      go : (t : Bool) → o g ≡ t → o' g ≡ o g
      go true e = sym (fewer_taken w h n f none g e) ∙ ap not (x g e q) ∙ sym e
      go false e = fewer_border w h n f none g ∙ rw e

  free_mask : (p : ℕ) → Free p → mask o' p ≡ mask o p
  free_mask p x = mask_agree o' o p (λ j l. free_border x (dart p j) (point_dart p j l))

  pub free_big : (p : ℕ) → Free p → big o' p ≡ big o p
  unfolding big
  free_big p x = ap (λ s. ltb 2 (degree s)) (free_mask p x)

  pub free_next : (d : ℕ) → Free (point (reversal w d)) → next w o' d ≡ next w o d
  unfolding next
  free_next d x = ap (λ s. dart (far w d) (turn s (direction d))) (free_mask (far w d) (rw point_reversal at x))

  -- such a point is still kept
  free_kept : (d : ℕ) → o d ≡ true → k (point d) ≡ true → Free (point d) → k' (point d) ≡ true
  free_kept d e kd x = go (big o (point d)) refl
    where
      go : (t : Bool) → big o (point d) ≡ t → k' (point d) ≡ true
      go true s = (sheet_anchored w h n').high.above (point d) (free_big (point d) x ∙ s)
      go false s = anchor_stays d (free_border x d refl ∙ e) kd s

  -- The run of a dart between two such points.
  passes : Passes m k
  passes = loops_passes (sheet_chart w h n) (sheet_few w h n) (sheet_loops w h n)

  covers' : Covers m' k
  covers' = r3_covers w h a b n room apart za zb

  -- it is the same among fewer lines
  pub last_fewer : (d : ℕ) → o d ≡ true → taken m f d ≡ false → Chart.last m' k d ≡ Chart.last m k d
  unfolding less sheet lines_map
  last_fewer d e t =
      let c = sheet_chart w h n in
      alike_last (less_chart c f) refl (λ d. refl) (fewer_alike w h a b n room apart za zb)
      (covers_less w h a b n room apart za zb) d (and_true e (ap not t))
      ∙ last_less c (sheet_loops w h n).covers passes f d e t

  -- and ends at the same dart with the points that are kept afterwards
  module _ (d : ℕ) (e : o d ≡ true) (kd : k (point d) ≡ true)
      (x : Free (point d)) (y : Free (point (other m k d))) where
    e' : o' d ≡ true
    e' = free_border x d refl ∙ e

    run_fewer : Chart.last m' k d ≡ Chart.last m k d
    run_fewer = last_fewer d e (x d e refl)

    last_big : big o (point d) ≡ true → Chart.last m' k' d ≡ Chart.last m' k d
    unfolding sheet lines_map
    last_big s =
        let c' = sheet_chart w h n' in
        let far-big : big o' (point (other m k d)) ≡ true =
        free_big (point (other m k d)) y ∙ big_there (sheet_chart w h n) (sheet_few w h n) (sheet_loops w h n) d e s in
        sym (big_last c' (sheet_few w h n') (sheet_loops w h n') d e' (free_big (point d) x ∙ s))
        ∙ last_same c' covers' (not_above (anchors_above w h a b n room apart za zb)) d e' (rw run_fewer far-big)

    last_small : big o (point d) ≡ false → Chart.last m' k' d ≡ Chart.last m k d
    unfolding sheet lines_map
    last_small s =
        let c' = sheet_chart w h n' in
        let g' = sheet_loops w h n' in
        c'.turns.once (Chart.last m' k' d) (Chart.last m k d) (last_on c' g'.covers d e')
        (rw run_fewer at (last_on c' covers' d e'))
        (g'.loopy.loop d e' (free_kept d e kd x) (small_stays (point d) s)
        ∙ sym ((sheet_loops w h n).loopy.loop d e kd s) ∙ sym (free_next (Chart.last m k d) y))

    last_keeps : Chart.last m' k' d ≡ Chart.last m k d
    last_keeps = go (big o (point d)) refl
      where
        go : (t : Bool) → big o (point d) ≡ t → Chart.last m' k' d ≡ Chart.last m k d
        go true s = last_big s ∙ run_fewer
        go false s = last_small s

    -- so its entries stay
    next_keeps : at (drawn w h n').next3 d ≡ at (drawn w h n).next3 d
    unfolding sheet lines_map
    next_keeps =
        over_next (drawn_held w h n').over d e' (free_kept d e kd x)
        ∙ ap (next w o') last_keeps ∙ free_next (Chart.last m k d) y
        ∙ sym (over_next (drawn_held w h n).over d e kd)

    other_keeps : at (drawn w h n').other3 d ≡ at (drawn w h n).other3 d
    unfolding sheet lines_map
    other_keeps =
        over_other (drawn_held w h n').over d e' (free_kept d e kd x)
        ∙ ap (reversal w) last_keeps
        ∙ sym (over_other (drawn_held w h n).over d e kd)

  -- The darts of the tables.
  abbrev t : Tables
  t = drawn w h n

  on_level : (d : ℕ) → on t.next3 d ≡ (o d && k (point d))
  unfolding Chart.level sheet lines_map
  on_level d = ap (λ s. s d) (on_held (sheet_plane w h n) k room (sheet_loops w h n).covers (drawn_held w h n))

  -- where no removed curve ends at a kept point, no line there is removed
  pub away_free : (p : ℕ) → k p ≡ true → Away t a b p → Free p
  unfolding Chart.level sheet lines_map
  away_free p kp z g e q = go (taken m f g) refl
    where
      c : Chart m
      c = sheet_chart w h n

      v : Covers m k
      v = (sheet_loops w h n).covers

      u : Colours (Chart.level m k) direction
      u = level_colours k (sheet_colours w h n)

      go : (s : Bool) → taken m f g ≡ s → taken m f g ≡ false
      go true s =
          let i : (o g && k (point g)) ≡ true = and_true e (ap k q ∙ kp) in
          absurd (z g (on_level g ∙ i)
          (gone_taken (level_chart c v passes) u (level_reads w h n) room apart g i
          ∙ taken_level c v passes f g e ∙ s) q)
      go false s = s

  module _ (d : ℕ) (i : on t.next3 d ≡ true) where
    lined : o d ≡ true
    lined = and_left (o d) (k (point d)) (sym (on_level d) ∙ i)

    kept : k (point d) ≡ true
    kept = and_right (o d) (k (point d)) (sym (on_level d) ∙ i)

    other_is : at t.other3 d ≡ other m k d
    unfolding sheet lines_map
    other_is = over_other (drawn_held w h n).over d lined kept

    other_kept : k (point (other m k d)) ≡ true
    unfolding sheet lines_map
    other_kept = last_kept (sheet_chart w h n) (sheet_loops w h n).covers d lined

    -- other is a dart of the tables
    other_there : on t.next3 (at t.other3 d) ≡ true
    unfolding sheet lines_map
    other_there =
        rw other_is
        (on_level (other m k d)
        ∙ and_true (other_on (sheet_chart w h n) (sheet_loops w h n).covers d lined) other_kept)

    entries_keep : Away t a b (point d) → Away t a b (point (at t.other3 d))
        → (at (drawn w h n').next3 d ≡ at t.next3 d) × (at (drawn w h n').other3 d ≡ at t.other3 d)
    entries_keep x y =
        let u : Free (point d) = away_free (point d) kept x in
        let v : Free (point (other m k d)) = away_free (point (other m k d)) other_kept (rw other_is at y) in
        (next_keeps d lined kept u v, other_keeps d lined kept u v)

  -- other leads back
  other_back : (d : ℕ) → on t.next3 d ≡ true → at t.other3 (at t.other3 d) ≡ d
  unfolding sheet lines_map
  other_back d i =
      other_is (at t.other3 d) (other_there d i) ∙ ap (other m k) (other_is d i)
      ∙ other_other (sheet_chart w h n) (sheet_loops w h n).covers passes d (lined d i) (kept d i)

  keeps_drawn : (d : ℕ) → on t.next3 d ≡ true → Untouched t a b d → Keeps t (drawn w h n') d
  keeps_drawn d i z =
      let g : ℕ = at t.other3 d in
      let (p, q) = entries_keep d i z.near z.far in
      let (r, s) = entries_keep g (other_there d i) z.far (rw (other_back d i) z.near) in
      record { next = p; other = q; far_next = r; far_other = s ∙ other_back d i }

pub keeps_joined : (w h : ℕ) (s : List ℕ) → slots w h ≤ mark → (a b : ℕ) → Joinable w h (drawing w h s) a b → (d : ℕ)
    → on (drawing w h s).next3 d ≡ true → Untouched (drawing w h s) a b d
    → Keeps (drawing w h s) (joined w h (drawing w h s) a b) d
unfolding drawing fresh
keeps_joined w h s room a b j d i z =
    rw (fresh_joined w h s room a b j, joined_names w h s room a b j)
    (keeps_drawn w h a b (names w h s) room j.apart j.inner.0 j.inner.1 d i z)
