-- What three tables have tallied, added up in place, name by name.
--   cell_total c o r, line_total m c b o r == the totals of the name r, from the tables c, b and o
--   AddedUp c b o r c₁ b₁ == of the tables c and b the entries below r have become these totals, in c₁ and b₁
use mathlib.Core.Path.{◌≡◌, ◌∙◌}
use mathlib.Core.Bool.{cond}
use mathlib.Core.List.{List}
use Prim.Native.Nat.{ℕ, ◌+◌, ◌<◌}
use native.Mathlib.Nat.{le_refl}
use lib.Dec.{eqb}
use lib.ListN.{length, get_or, set}
use Rattle.point_darts.specs.Dart.{mark}
use Rattle.table_entries.proofs.Half.{Half, half_none, half_more}
use Rattle.region_totals.specs.Tally.{cell_total, line_total}

pub record AddedUp (c b o : List ℕ) (r : ℕ) (c₁ b₁ : List ℕ) : Type 0 where
  pub cells : Half (cell_total c o) r c c₁
  pub borders : Half (line_total (length c) c b o) r b b₁

pub added_none : (c b o : List ℕ) → AddedUp c b o 0 c b
added_none c b o = record { cells = half_none (cell_total c o) c; borders = half_none (line_total (length c) c b o) b }

module _ (c b o : List ℕ) (r : ℕ) (c₁ b₁ : List ℕ) (a : AddedUp c b o r c₁ b₁) where
  -- an entry that is not yet treated
  cells_here : get_or c₁ r 0 ≡ get_or c r 0
  cells_here = a.cells.rest r (le_refl r)

  borders_here : get_or b₁ r 0 ≡ get_or b r 0
  borders_here = a.borders.rest r (le_refl r)

  pub added_more : (n : ℕ) → n ≡ length c → length b ≡ length c → r < length c → (v u : ℕ)
      → v ≡ cond (eqb (get_or c₁ r 0 + get_or o r 0) 0) mark (get_or c₁ r 0 + get_or o r 0)
      → u ≡ cond (eqb (get_or c₁ r 0 + get_or o r 0) 0) mark (get_or b₁ r 0 + get_or o (n + r) 0)
      → AddedUp c b o (r + 1) (set c₁ r v) (set b₁ r u)
  added_more n k z l v u e f =
      record {
        cells = half_more (cell_total c o) r v c c₁ a.cells l (e ∙ rw cells_here);
        borders = half_more (line_total (length c) c b o) r u b b₁ a.borders (rw z l) (f ∙ rw (cells_here, borders_here, k));
      }
