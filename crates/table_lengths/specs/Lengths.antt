-- The stated lengths of the tables (the paper, "Refusal numbers and their order", refusal 4).
--   all_are n ls     == the lengths ls are all n
--   lengths w h ns ds == the lengths ns of tables by name and ds of tables by dart are the stated ones
use Rattle.std.specs.Prelude.{Bool, ◌&&◌, List, ℕ, ◌+◌, ◌*◌, eqb}
use Rattle.laws.specs.Every.{every}
use Rattle.point_darts.specs.Dart.{slots}

unfoldable pub all_are : ℕ → List ℕ → Bool
all_are n ls = every (λ l. eqb l n) ls

unfoldable pub lengths : ℕ → ℕ → List ℕ → List ℕ → Bool
lengths w h ns ds = all_are (w * h + 1) ns && all_are (slots w h) ds
