-- Joining, as it is done in the tables.
--   pair x y        == two work tables
--   found w h x s y o c e == the seven tables of which these are six: the parents are found from the sides s
--   Topped w h s t  == at the front of the table t are the tops of the pieces, by the sides s
--   Visits w h o l f t == the list t, which starts at f, leads to every point that step 3 is to treat, from the links l on, and to
--                      every point that step 4 is to treat after it, where the lines o remain
--   Ready w h t ws a b == the size is one, the tables t and the work tables ws have the stated lengths, a and b may be
--                      names, every dart that has a next has a side, the links of both levels are those of maps, at level 3
--                      a dart that has no next has no other, steps 3 and 4 change nothing away from removed curves, and the
--                      sums of the totals fit
use Rattle.std.specs.Prelude.{◌≡◌, Bool, true, List, [], ◌∷◌, ℕ, ◌<◌, take}
use Rattle.sheet_size.specs.Size.{within}
use Rattle.laws.specs.Table.{table}
use Rattle.point_darts.specs.Dart.{mark, points, slots, reversal}
use Rattle.paper.specs.Level.{tops}
use Rattle.paper.specs.Enclosure.{parents}
use Rattle.paper.specs.Drawing.{Tables}
use Rattle.paper.specs.Joining.{Links, at, on, smooth, smooths, smoothed, close, closes}
use Rattle.paper.specs.Refusal.{stated}
use Rattle.paper.specs.Sitting.{Still}
use Rattle.table_lengths.specs.Given.{tables}
use Rattle.join_darts.specs.Visited.{Visited}
use Rattle.join_shared.specs.Mapped.{Mapped, Bare}
use Rattle.join_rule.specs.Sums.{Sums}

abbrev pub pair : List ℕ → List ℕ → List (List ℕ)
pair x y = x ∷ y ∷ []

abbrev pub found : ℕ → ℕ → List ℕ → List ℕ → List ℕ → List ℕ → List ℕ → List ℕ → Tables
found w h x s y o c e = tables x s y o (parents w h (on s) (at s)) c e

abbrev pub Topped : ℕ → ℕ → List ℕ → List ℕ → Type 0
Topped w h s t = take (points w h) t ≡ tops w h (on s)

pub record Visits (w h : ℕ) (o : ℕ → Bool) (l : Links) (f : ℕ) (t : List ℕ) : Type 0 where
  pub smoothing : Visited smooths smooth l (slots w h) f t
  pub closing : Visited (closes o (tops w h o)) (close o (tops w h o)) (smoothed w h l) (slots w h) f t

pub record Ready (w h : ℕ) (t : Tables) (ws : List (List ℕ)) (a b : ℕ) : Type 0 where
  pub size : within w h ≡ true
  pub sizes : stated w h t ws ≡ true
  pub first : a < mark
  pub second : b < mark
  pub sided : (d : ℕ) → on t.next1 d ≡ true → on t.side1 d ≡ true
  pub plain : Mapped t.side1 t.next1 (table (slots w h) (reversal w))
  pub curves : Mapped t.side1 t.next3 t.other3
  pub bare : Bare t.next3 t.other3
  pub still : Still w h t a b
  pub sums : Sums w h t.side1 t.cells t.borders a b
