-- The tables of levels 0 and 1 are those of the paper.
--   drafted w h on  == the masks of the lines that are on, at each point
use mathlib.Core.Path.{◌≡◌, refl, sym, ◌∙◌, ap}
use mathlib.Core.Bool.{Bool, true}
use mathlib.Core.List.{List}
use Prim.Native.Nat.{ℕ, ◌<◌}
use borrow.Author.Tests.{lt-ltb}
use Rattle.laws.specs.Table.{table}
use Rattle.laws.proofs.Table.{get_or_table, table_agree}
use Rattle.point_darts.specs.Dart.{mark, points, slots, point, direction, far, reversal}
use Rattle.point_darts.specs.Point.{right, present}
use Rattle.point_rules.specs.Turn.{turn, turning_of, turn_of}
use Rattle.point_darts.proofs.Darts.{dart_own, direction_below}
use Rattle.point_darts.proofs.Reach.{slot_point, line_far}
use Rattle.paper.specs.Name.{cells}
use Rattle.paper.specs.Level.{side, border, mask, next, marked}
use Rattle.paper.specs.Joining.{at}
use Rattle.paper_laws.proofs.Next.{Lines, mask_below, has_mask}
use Rattle.paper_laws.proofs.Sheet.{mask_present}
use Rattle.paper_laws.proofs.Marks.{marked_same}
use Rattle.region_names.specs.Frame.{framed}
use Rattle.region_names.proofs.Surround.{cells_framed}
use Rattle.level_masks.specs.Mask.{around, masked}
use Rattle.level_lines.specs.Line.{lined, onward, nexts, others}
use Rattle.level_lines.specs.Side.{beheld, sides}

abbrev pub drafted : ℕ → ℕ → (ℕ → Bool) → List ℕ
drafted w h o = table (points w h) (mask o)

-- Lines at points.
module _ (w h : ℕ) (o : ℕ → Bool) where
  pub drafted_at : (p : ℕ) → p < points w h → at (drafted w h o) p ≡ mask o p
  unfolding at
  drafted_at p l = get_or_table (points w h) (mask o) p mark l

  lined_on : (d : ℕ) → d < slots w h → lined (drafted w h o) d ≡ o d
  unfolding lined
  lined_on d l =
      rw (drafted_at (point d) (slot_point w h d l))
      (has_mask o (point d) (direction d) (direction_below d) ∙ ap o (dart_own d))

  module _ (l : Lines w h o) where
    onward_next : (d : ℕ) → o d ≡ true → onward w (drafted w h o) d ≡ next w o d
    unfolding onward next turn turn_of turning_of
    onward_next d e =
        rw (
          drafted_at (far w d) (line_far w h d (l.lined d e)),
          lt-ltb (mask o (far w d)) 16 (mask_below o (far w d)),
          lt-ltb (direction d) 4 (direction_below d),
        )

    pub nexts_paper : nexts w h (drafted w h o) ≡ marked w h o (next w o)
    unfolding nexts
    nexts_paper =
        marked_same w h (lined (drafted w h o)) o (onward w (drafted w h o)) (next w o) lined_on
        (λ d b e. onward_next d (sym (lined_on d b) ∙ e))

    pub others_paper : others w h (drafted w h o) ≡ marked w h o (reversal w)
    unfolding others
    others_paper =
        marked_same w h (lined (drafted w h o)) o (reversal w) (reversal w) lined_on (λ d b e. refl)

-- The names with the outside round them.
module _ (w h : ℕ) (n : List ℕ) where
  around_cells : (p : ℕ) → p < points w h → around w (framed w h n) p ≡ cells w h n p
  unfolding around
  around_cells p l = sym (cells_framed w h n p l)

  pub masked_paper : masked w h (framed w h n) ≡ drafted w h (border w h n)
  unfolding masked
  masked_paper =
      table_agree (points w h) (λ p. present (around w (framed w h n) p)) (mask (border w h n))
      (λ p l. ap present (around_cells p l) ∙ sym (mask_present w h n p))

  pub sides_paper : (o : ℕ → Bool) → sides w h (framed w h n) (drafted w h o) ≡ marked w h o (side w h n)
  unfolding sides beheld side
  sides_paper o =
      marked_same w h (lined (drafted w h o)) o (beheld w (framed w h n)) (side w h n) (lined_on w h o)
      (λ d b e. ap (λ c. right c (direction d)) (around_cells (point d) (slot_point w h d b)))
