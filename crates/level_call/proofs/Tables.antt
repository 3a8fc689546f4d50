-- The three tables of a level, put together from the steps that fill them.
--   plain_tables, along_tables, tables_of == next, other and side of a level
use mathlib.Core.Path.{◌≡◌, ap, ◌∙◌}
use mathlib.Core.Bool.{true}
use mathlib.Core.List.{List, [], ◌∷◌}
use mathlib.Core.Logic.{◌≢◌}
use Prim.Native.Nat.{ℕ, zero, suc, ◌≤◌, ◌<◌}
use native.Mathlib.Omega.{arith}
use borrow.Author.Tests.{eq-eqb, ne_eqb}
use Rattle.sheet_size.specs.Size.{within}
use Rattle.paper.specs.Name.{names}
use Rattle.paper.specs.Level.{tops}
use Rattle.paper.specs.Joining.{on}
use Rattle.paper.specs.Refusal.{level_tables}
use Rattle.paper_laws.proofs.Marks.{within_fits}
use Rattle.region_names.specs.Frame.{framed}
use Rattle.level_masks.specs.Mask.{masked, plain_masks}
use Rattle.level_lines.specs.Line.{nexts, others}
use Rattle.level_lines.specs.Side.{sides}
use Rattle.level_kept.specs.Keep.{bends, keeps}
use Rattle.level_curves.specs.Link.{along_next, along_other}
use Rattle.table_entries.specs.Trim.{trimmed}
use Rattle.level_call.specs.Tables.{plain_tables, along_tables, kept_points, tables_of}
use Rattle.level_call.proofs.Paper.{level_tables_paper}

-- the points that are kept, f being the sides of level 1
module _ (w h l : ℕ) (f m : List ℕ) where
  pub bends_points : (k : List ℕ) → l ≡ 2 → k ≡ bends w h m → k ≡ kept_points w h l m f
  unfolding kept_points
  bends_points k e q = rw (eq-eqb l 2 e) q

  pub keeps_points : (k : List ℕ) → l ≢ 2 → k ≡ keeps w h m (tops w h (on f)) → k ≡ kept_points w h l m f
  unfolding kept_points
  keeps_points k e q = rw (ne_eqb l 2 e) q

module _ (w h : ℕ) (f m x s : List ℕ) (p : x ≡ nexts w h m) (q : s ≡ sides w h f m) where
  pub plain_tables_lem : (l : ℕ) (o : List ℕ) → l < 2 → m ≡ plain_masks w h l f → o ≡ others w h m
      → ◌≡◌ {A = List (List ℕ)} (x ∷ o ∷ s ∷ []) (tables_of w h l f)
  unfolding tables_of plain_tables plain_masks
  plain_tables_lem zero o b e r = rw (p, q, r, e)
  plain_tables_lem (suc zero) o b e r = rw (p, q, r, e)
  plain_tables_lem (suc (suc l)) o b e r = absurd (omega arith)

  pub along_tables_lem : (l : ℕ) (k y o t : List ℕ) → 2 ≤ l → l ≤ 3 → m ≡ masked w h f → k ≡ kept_points w h l m s
      → y ≡ along_next w h x k → o ≡ along_other w h x k → t ≡ trimmed y s
      → ◌≡◌ {A = List (List ℕ)} (y ∷ o ∷ t ∷ []) (tables_of w h l f)
  unfolding tables_of along_tables kept_points
  along_tables_lem zero k y o t b c e g i j n = absurd (omega arith)
  along_tables_lem (suc zero) k y o t b c e g i j n = absurd (omega arith)
  along_tables_lem (suc (suc zero)) k y o t b c e g i j n = rw (n, j, i, g, p, q, e)
  along_tables_lem (suc (suc (suc zero))) k y o t b c e g i j n = rw (n, j, i, g, p, q, e)
  along_tables_lem (suc (suc (suc (suc l)))) k y o t b c e g i j n = absurd (omega arith)

-- The tables of a sheet, from the frame of its names.
pub filled_tables : (w h l : ℕ) (s f : List ℕ) (ts : List (List ℕ)) → within w h ≡ true → f ≡ framed w h (names w h s)
    → ts ≡ tables_of w h l f → ts ≡ level_tables w h l s
filled_tables w h l s f ts e p q = q ∙ ap (tables_of w h l) p ∙ level_tables_paper w h l s (within_fits w h e)
