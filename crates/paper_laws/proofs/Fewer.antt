-- Fewer regions are fewer lines: the sheet with its cells renamed by f, where the outside keeps its name 0, is the
-- sheet without the lines whose two sides f makes one.
--   fewer_side      == the sides are renamed
--   fewer_border    == the lines are those that are left
--   fewer_next      == turning among the lines that are left is passing over the lines that are taken
use mathlib.Core.Path.{◌≡◌, refl, sym, ap, ap₂, ◌∙◌}
use mathlib.Core.Bool.{Bool, true, false, not, ◌&&◌, true≢false}
use mathlib.Core.List.{List, map}
use Prim.Native.Nat.{ℕ, ◌+◌, ◌-◌, zero-le}
use native.Mathlib.Omega.{arith}
use lib.Dec.{eqb}
use Rattle.laws.proofs.Chart.{taken, chase, less}
use Rattle.point_darts.specs.Dart.{slots, point, direction}
use Rattle.point_darts.proofs.Darts.{direction_below, place_below}
use Rattle.paper_laws.proofs.Cells.{right_map, left_map}
use Rattle.paper.specs.Level.{side, border, next}
use Rattle.paper_laws.proofs.Next.{next_skip}
use Rattle.paper_laws.proofs.Sheet.{across, side_reversal, border_sides, border_differs, border_agrees, border_line}
use Rattle.paper_laws.proofs.Sheet.{border_back, border_lines, sheet}

slots_four : (w h : ℕ) → 4 + (slots w h - 4) ≡ slots w h
unfolding slots
slots_four w h = omega (arith, place_below w h 0 0 zero-le zero-le)

module _ (w h : ℕ) (n : List ℕ) (f : ℕ → ℕ) (z : f 0 ≡ 0) where
  pub fewer_side : (d : ℕ) → side w h (map f n) d ≡ f (side w h n d)
  unfolding side
  fewer_side d = right_map w h n f z (point d) (direction d) (direction_below d)

  pub fewer_across : (d : ℕ) → across w h (map f n) d ≡ f (across w h n d)
  unfolding across
  fewer_across d = left_map w h n f z (point d) (direction d) (direction_below d)

  -- a line that is left was there
  pub fewer_lines : (d : ℕ) → border w h (map f n) d ≡ true → border w h n d ≡ true
  fewer_lines d e = go (border w h n d) refl
    where
      go : (b : Bool) → border w h n d ≡ b → b ≡ true
      go true b = refl
      go false b =
          absurd (border_differs w h (map f n) d e (fewer_side d ∙ ap f (border_agrees w h n d b) ∙ sym (fewer_across d)))

  -- of the lines that were there, those not taken are left
  pub fewer_taken : (d : ℕ) → border w h n d ≡ true → not (taken (sheet w h n) f d) ≡ border w h (map f n) d
  unfolding taken sheet
  fewer_taken d e =
      ap (λ s. not (eqb (f (side w h n d)) (f s))) (side_reversal w h n d (border_line w h n d e))
      ∙ ap₂ (λ a b. not (eqb a b)) (sym (fewer_side d)) (sym (fewer_across d))
      ∙ sym (border_sides w h (map f n) d)

  pub fewer_border : (d : ℕ) → border w h (map f n) d ≡ (less (sheet w h n) f).on d
  unfolding less sheet
  fewer_border d = go (border w h n d) (border w h (map f n) d) refl refl
    where
      go : (b c : Bool) → border w h n d ≡ b → border w h (map f n) d ≡ c → c ≡ (b && not (taken (sheet w h n) f d))
      go true c p q = sym q ∙ sym (fewer_taken d p)
      go false true p q = absurd (true≢false (sym (fewer_lines d q) ∙ p))
      go false false p q = refl

  pub fewer_chase : (a d : ℕ) → border w h (map f n) d ≡ true
      → chase (sheet w h n) f (4 + a) (next w (border w h n) d) ≡ next w (border w h (map f n)) d
  unfolding chase sheet
  fewer_chase a d e =
      next_skip w h (border w h n) (border w h (map f n)) (border_lines w h n) (λ d. not (taken (sheet w h n) f d))
      fewer_lines fewer_taken d (border_back w h (map f n) d e) a

  pub fewer_next : (d : ℕ) → border w h (map f n) d ≡ true → next w (border w h (map f n)) d ≡ (less (sheet w h n) f).nx d
  unfolding less sheet
  fewer_next d e =
      sym (fewer_chase (slots w h - 4) d e)
      ∙ ap (λ c. chase (sheet w h n) f c (next w (border w h n) d)) (slots_four w h)
