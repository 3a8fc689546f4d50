-- The lines at each point, as a table of masks (the paper, "The four levels").
--   around w f p    == the four cells round point p, from the names f with the outside round them, in rows of w + 1
--   masked w h f    == level 1: the lines with two sides that differ
--   ruled w h       == level 0: every line of the sheet
--   plain_masks w h l f == those of level 0, else of level 1
use Rattle.std.specs.Prelude.{cond, List, [], ◌∷◌, ℕ, ◌+◌, eqb, get_or}
use Rattle.laws.specs.Table.{table}
use Rattle.point_darts.specs.Dart.{points, line}
use Rattle.point_darts.specs.Point.{present}
use Rattle.paper.specs.Level.{mask}

unfoldable pub around : ℕ → List ℕ → ℕ → List (List ℕ)
around w f p =
    (get_or f p 0 ∷ get_or f (p + 1) 0 ∷ []) ∷ (get_or f (p + (w + 1)) 0 ∷ get_or f (p + (w + 2)) 0 ∷ []) ∷ []

unfoldable pub masked : ℕ → ℕ → List ℕ → List ℕ
masked w h f = table (points w h) (λ p. present (around w f p))

unfoldable pub ruled : ℕ → ℕ → List ℕ
ruled w h = table (points w h) (mask (line w h))

unfoldable pub plain_masks : ℕ → ℕ → ℕ → List ℕ → List ℕ
plain_masks w h l f = cond (eqb l 0) (ruled w h) (masked w h f)
