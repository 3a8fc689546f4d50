-- The tables of a level (the paper, "The four levels").
--   plain_tables ..  == next, other and side of a level with the lines m whose points are all kept
--   along_tables ..  == next, other and side of the level with level 1 next x and sides s that keeps the points k
--   kept_points ..   == the points that level 2 keeps, else level 3, from the lines m of level 1 and their sides s
--   tables_of w h l f == next, other and side of level l, from the names f with the outside round them
--   Surrounded w h f == f is the names of a sheet with the outside round them
use Rattle.std.specs.Prelude.{◌≡◌, cond, List, [], ◌∷◌, ℕ, zero, suc, eqb}
use Rattle.paper.specs.Name.{names}
use Rattle.paper.specs.Level.{tops}
use Rattle.paper.specs.Joining.{on}
use Rattle.region_names.specs.Frame.{framed}
use Rattle.level_masks.specs.Mask.{masked, ruled}
use Rattle.level_lines.specs.Line.{nexts, others}
use Rattle.level_lines.specs.Side.{sides}
use Rattle.level_kept.specs.Keep.{bends, keeps}
use Rattle.level_curves.specs.Link.{along_next, along_other}
use Rattle.table_entries.specs.Trim.{trimmed}

unfoldable pub plain_tables : ℕ → ℕ → List ℕ → List ℕ → List (List ℕ)
plain_tables w h f m = nexts w h m ∷ others w h m ∷ sides w h f m ∷ []

unfoldable pub along_tables : ℕ → ℕ → List ℕ → List ℕ → List ℕ → List (List ℕ)
along_tables w h x k s =
    let y = along_next w h x k in
    y ∷ along_other w h x k ∷ trimmed y s ∷ []

unfoldable pub kept_points : ℕ → ℕ → ℕ → List ℕ → List ℕ → List ℕ
kept_points w h l m s = cond (eqb l 2) (bends w h m) (keeps w h m (tops w h (on s)))

unfoldable pub tables_of : ℕ → ℕ → ℕ → List ℕ → List (List ℕ)
tables_of w h zero f = plain_tables w h f (ruled w h)
tables_of w h (suc zero) f = plain_tables w h f (masked w h f)
tables_of w h (suc (suc zero)) f =
    let m = masked w h f in
    along_tables w h (nexts w h m) (bends w h m) (sides w h f m)
tables_of w h (suc (suc (suc l))) f =
    let m = masked w h f in
    let s = sides w h f m in
    along_tables w h (nexts w h m) (keeps w h m (tops w h (on s))) s

pub record Surrounded (w h : ℕ) (f : List ℕ) : Type 0 where
  pub sheet : List ℕ
  pub names : f ≡ framed w h (names w h sheet)
