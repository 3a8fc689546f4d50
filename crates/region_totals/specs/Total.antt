-- The totals of each name.
--   Totalled w h f c b == the tables c and b are the totals of a drawing, of whichever labels the names f with the outside round them are
use Rattle.std.specs.Prelude.{◌≡◌, List, ℕ}
use Rattle.paper.specs.Name.{names}
use Rattle.paper.specs.Drawing.{drawn}
use Rattle.region_names.specs.Frame.{framed}

pub record Totalled (w h : ℕ) (f c b : List ℕ) : Type 0 where
  pub cells : (l : List ℕ) → f ≡ framed w h (names w h l) → c ≡ (drawn w h (names w h l)).cells
  pub borders : (l : List ℕ) → f ≡ framed w h (names w h l) → b ≡ (drawn w h (names w h l)).borders
