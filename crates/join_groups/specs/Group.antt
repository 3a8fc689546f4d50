-- Regions joined as groups of cells, while the sides of the drawing stay as they were.
--   group_of l v     == the name of the group that the region named v is of, where l has for each cell the first cell of its group; the
--                      outside stays
--   faced w s l d   == the group on the left hand of dart d, by the sides s
--   Met .., Unmet .. == a dart of the list that starts at f, in the table t, has the group y on its left hand; none of its first m has
--   Walkable ..     == each dart of that list has a side on both hands, of one of n cells or the outside
--   Grouped w h s l u == the drawing u is that of the groups l, made of the regions of a drawing with the sides s
--   Standing ..     == groups stand for the drawing u: by the sides s and the cells c, the forest n of first cells, and the lists t, f, e
--                      of the darts of each group
--   Stopped ..      == so they do where the list l stops, joined in the tables t₀: with the number k after i joins
--   Regrouped ..    == the drawing where it stops is that of some labels, and the table r has at its front their names with the outside
--                      round them
use Rattle.std.specs.Prelude.{◌≡◌, true, List, map, ◌≢◌, ℕ, zero, suc, ◌+◌, ◌*◌, ◌≤◌, ◌<◌, length, get_or, take}
use Rattle.sheet_size.specs.Size.{within}
use Rattle.point_darts.specs.Dart.{mark, slots, reversal}
use Rattle.paper.specs.Name.{names}
use Rattle.paper.specs.Drawing.{Tables, drawing}
use Rattle.paper.specs.Joining.{at, on}
use Rattle.paper.specs.Order.{pairs, stop, joins}
use Rattle.table_forest.specs.Forest.{Forest}
use Rattle.region_names.specs.Frame.{surround, framed}
use Rattle.region_darts.specs.Lists.{along, Lists}

unfoldable pub group_of : List ℕ → ℕ → ℕ
group_of l zero = 0
group_of l (suc i) = suc (get_or l i 0)

unfoldable pub faced : ℕ → List ℕ → List ℕ → ℕ → ℕ
faced w s l d = group_of l (at s (reversal w d))

pub record Met (w : ℕ) (s l t : List ℕ) (f y : ℕ) : Type 0 where
  pub steps : ℕ
  pub held : along t steps f ≢ mark
  pub facing : faced w s l (along t steps f) ≡ y

abbrev pub Unmet : ℕ → List ℕ → List ℕ → List ℕ → ℕ → ℕ → ℕ → Type 0
Unmet w s l t f y m = (k : ℕ) → k < m → along t k f ≢ mark → faced w s l (along t k f) ≢ y

abbrev pub Walkable : ℕ → List ℕ → List ℕ → ℕ → ℕ → Type 0
Walkable w s t f n =
    (k : ℕ) → let d = along t k f in d ≢ mark → (on s d ≡ true) × (at s (reversal w d) ≤ n)

pub record Grouped (w h : ℕ) (s l : List ℕ) (u : Tables) : Type 0 where
  pub before : List ℕ
  pub after : List ℕ
  pub long : length after ≡ w * h
  pub sides : (drawing w h before).side1 ≡ s
  pub same : drawing w h after ≡ u
  pub named : names w h after ≡ map suc l
  pub led : names w h after ≡ map (group_of l) (names w h before)

pub record Standing (w h : ℕ) (s c n t f e : List ℕ) (u : Tables) : Type 0 where
  pub size : within w h ≡ true
  pub sided : length s ≡ slots w h
  pub noded : length n ≡ w * h
  pub listed : (length t ≡ slots w h) × (length f ≡ slots w h) × (length e ≡ slots w h)
  pub counted : length c ≡ w * h + 1
  pub cells : u.cells ≡ c
  pub groups : List ℕ
  pub forest : Forest (w * h) groups n
  pub grouped : Grouped w h s groups u
  pub lists : Lists s (group_of groups) t f e

pub record Stopped (w h : ℕ) (l : List ℕ) (k i : ℕ) (t₀ : Tables) (s c n t f e : List ℕ) : Type 0 where
  pub tables : Tables
  pub stops : stop k i tables ≡ joins w h 0 (pairs l) t₀
  pub standing : Standing w h s c n t f e tables

pub record Regrouped (w h : ℕ) (l : List ℕ) (k i : ℕ) (t₀ : Tables) (r : List ℕ) : Type 0 where
  pub labels : List ℕ
  pub stops : stop k i (drawing w h labels) ≡ joins w h 0 (pairs l) t₀
  pub round : take (surround w h) r ≡ framed w h (names w h labels)
