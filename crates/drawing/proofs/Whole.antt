-- The parts of a drawing make the whole, for cells with the names n.
use mathlib.Core.Path.{◌≡◌, sym, ap, ◌∙◌, subst, fun_ext}
use mathlib.Core.Bool.{Bool, true}
use mathlib.Core.List.{List}
use Prim.Native.Nat.{ℕ, ◌+◌, ◌*◌, ◌≤◌, ◌<◌}
use lib.ListN.{take}
use Rattle.laws.specs.Table.{table}
use Rattle.sheet_size.specs.Size.{within}
use Rattle.point_darts.specs.Dart.{mark, points, slots}
use Rattle.paper.specs.Name.{names}
use Rattle.paper.specs.Level.{side, border, along, plain, tops, kept3, among, level, marked}
use Rattle.paper.specs.Enclosure.{parent, parents}
use Rattle.paper.specs.Drawing.{Tables, drawn, drawing}
use Rattle.paper.specs.Joining.{at, on}
use Rattle.paper_laws.proofs.Sheet.{border_lines, border_below}
use Rattle.paper_laws.proofs.Marks.{within_fits, on_marked, names_side_small}
use Rattle.paper_laws.proofs.Along.{kept3_kept, Kept as Kept'}
use Rattle.paper_laws.proofs.Joined.{parents_drawn}
use Rattle.region_names.specs.Frame.{framed}
use Rattle.level_masks.specs.Mask.{masked}
use Rattle.level_lines.specs.Line.{nexts}
use Rattle.level_lines.specs.Side.{sides}
use Rattle.level_lines.proofs.Paper.{masked_paper, nexts_paper, sides_paper}
use Rattle.level_kept.specs.Keep.{keeps}
use Rattle.level_curves.specs.Link.{kept_at, along_next, along_other, TwoWay}
use Rattle.level_curves.proofs.Paper.{keeps_paper, along_next_paper, along_other_paper, two_way}
use Rattle.region_parents.specs.Tops.{Rising}
use Rattle.region_parents.proofs.Rise.{tops_rising as rising}
use Rattle.table_lengths.specs.Given.{tables}
use Rattle.region_totals.specs.Total.{Totalled}
use Rattle.drawing.specs.Parts.{Lined, Kept, Curved}
use Rattle.region_names.specs.Frame.{surround}

pub tables_path : (x s y o p c b : List ℕ) (t : Tables) → x ≡ t.next1 → s ≡ t.side1 → y ≡ t.next3 → o ≡ t.other3
    → p ≡ t.parent → c ≡ t.cells → b ≡ t.borders → tables x s y o p c b ≡ t
tables_path x s y o p c b t i j k l m q r = λ z. tables (i z) (j z) (k z) (l z) (m z) (q z) (r z)

module _ (w h : ℕ) (n : List ℕ) where
  -- level 1
  pub line_next : nexts w h (masked w h (framed w h n)) ≡ (drawn w h n).next1
  unfolding drawn level plain
  line_next = rw (masked_paper w h n) (nexts_paper w h (border w h n) (border_lines w h n))

  pub line_side : sides w h (framed w h n) (masked w h (framed w h n)) ≡ (drawn w h n).side1
  unfolding drawn level plain
  line_side = rw (masked_paper w h n) (sides_paper w h n (border w h n))

  module _ (room : slots w h ≤ mark) (small : (d : ℕ) → side w h n d < mark) where
    side_on : on (drawn w h n).side1 ≡ border w h n
    unfolding drawn level plain
    side_on = fun_ext (on_marked w h (border w h n) (side w h n) (border_below w h n) (λ d e. small d))

    -- level 3
    kept_same : kept_at (keeps w h (masked w h (framed w h n)) (tops w h (on (drawn w h n).side1)))
        ≡ among (kept3 w h (border w h n))
    kept_same = rw (side_on, masked_paper w h n) (keeps_paper w h (border w h n))

    module _ (k : List ℕ) (e : k ≡ keeps w h (masked w h (framed w h n)) (tops w h (on (drawn w h n).side1))) where
      kept_is : kept_at k ≡ among (kept3 w h (border w h n))
      kept_is = ap kept_at e ∙ kept_same

      pub curve_runs : TwoWay w (slots w h) (drawn w h n).next1 k
      unfolding drawn level plain
      curve_runs = two_way w h n room k (subst (Kept' w h n) (sym kept_is) (kept3_kept w h n))

      pub curve_next : along_next w h (drawn w h n).next1 k ≡ (drawn w h n).next3
      unfolding drawn level plain
      curve_next =
          along_next_paper w h (border w h n) (border_lines w h n) room k
          ∙ ap (λ (q : ℕ → Bool). marked w h (along w h (border w h n) q).on (along w h (border w h n) q).next) kept_is

      pub curve_other : along_other w h (drawn w h n).next1 k ≡ (drawn w h n).other3
      unfolding drawn level plain
      curve_other =
          along_other_paper w h (border w h n) (border_lines w h n) room k
          ∙ ap (λ (q : ℕ → Bool). marked w h (along w h (border w h n) q).on (along w h (border w h n) q).other) kept_is

    -- parents
    pub parents_whole : table (w * h + 1)
        (parent w (on (drawn w h n).side1) (at (drawn w h n).side1) (tops w h (on (drawn w h n).side1)))
        ≡ (drawn w h n).parent
    unfolding parents
    parents_whole = parents_drawn w h n small

    -- all parts
    module _ (r m x s t k : List ℕ) (e : take (surround w h) r ≡ framed w h n)
        (f : Lined w h (take (surround w h) r) m x s) (g : Kept w h s (take (points w h) m) t k) where
      next_whole : x ≡ (drawn w h n).next1
      next_whole = f.next ∙ ap (λ u. nexts w h (masked w h u)) e ∙ line_next

      side_whole : s ≡ (drawn w h n).side1
      side_whole = f.side ∙ ap (λ u. sides w h u (masked w h u)) e ∙ line_side

      tops_whole : take (points w h) t ≡ tops w h (on (drawn w h n).side1)
      tops_whole = g.tops ∙ ap (λ u. tops w h (on u)) side_whole

      kept_whole : take (points w h) k ≡ keeps w h (masked w h (framed w h n)) (tops w h (on (drawn w h n).side1))
      kept_whole = rw (← e, ← f.masks, ← tops_whole) g.points

      pub runs_whole : TwoWay w (slots w h) x (take (points w h) k)
      runs_whole = rw next_whole (curve_runs (take (points w h) k) kept_whole)

      pub whole : (y o p u b : List ℕ) → Curved w h x (take (points w h) k) y o
          → p ≡ table (w * h + 1) (parent w (on s) (at s) (take (points w h) t))
          → u ≡ (drawn w h n).cells → b ≡ (drawn w h n).borders → tables x s y o p u b ≡ drawn w h n
      whole y o p u b c q i j =
          tables_path x s y o p u b (drawn w h n) next_whole side_whole
          (c.next ∙ ap (λ u. along_next w h u (take (points w h) k)) next_whole ∙ curve_next (take (points w h) k) kept_whole)
          (c.other ∙ ap (λ u. along_other w h u (take (points w h) k)) next_whole ∙ curve_other (take (points w h) k) kept_whole)
          (q ∙ rw (tops_whole, side_whole) parents_whole)
          i
          j

-- A sheet whose cells have these labels.
module _ (w h : ℕ) (l : List ℕ) (e : within w h ≡ true) (r m x s t k : List ℕ)
    (q : take (surround w h) r ≡ framed w h (names w h l)) (f : Lined w h (take (surround w h) r) m x s)
    (g : Kept w h s (take (points w h) m) t k) where
  room : slots w h ≤ mark
  room = within_fits w h e

  pub drawing_runs : TwoWay w (slots w h) x (take (points w h) k)
  drawing_runs = runs_whole w h (names w h l) room (names_side_small w h l room) r m x s t k q f g

  pub drawing_whole : (y o p u b : List ℕ) → Curved w h x (take (points w h) k) y o
      → p ≡ table (w * h + 1) (parent w (on s) (at s) (take (points w h) t)) → Totalled w h (take (surround w h) r) u b
      → tables x s y o p u b ≡ drawing w h l
  unfolding drawing
  drawing_whole y o p u b c i z =
      whole w h (names w h l) room (names_side_small w h l room) r m x s t k q f g y o p u b c i (z.cells l q) (z.borders l q)

-- no point's top is after the point
pub tops_rising : (w h : ℕ) (s m t k : List ℕ) → Kept w h s m t k → Rising (take (points w h) t)
tops_rising w h s m t k g = rising w h (on s) (take (points w h) t) g.tops
