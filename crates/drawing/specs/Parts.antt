-- What is drawn, part by part. A work table is used at its front.
--   Framed w h r    == the table r has at its front the names of some labels, with the outside round them
--   Lined ..        == level 1 is drawn from the names f with the outside round them: masks, next and side
--   Kept ..         == the points that level 3 keeps are found, from the sides of level 1 and its masks: tops and kept points
--   Curved ..       == level 3 is drawn from level 1 next and the kept points
use Rattle.std.specs.Prelude.{◌≡◌, Bool, ◌&&◌, List, ℕ, ◌+◌, ◌*◌, take}
use Rattle.laws.specs.Equal.{equal}
use Rattle.laws.specs.Table.{table}
use Rattle.point_darts.specs.Dart.{points}
use Rattle.paper.specs.Name.{names}
use Rattle.paper.specs.Level.{tops}
use Rattle.paper.specs.Enclosure.{parent}
use Rattle.paper.specs.Drawing.{drawn, recovered}
use Rattle.paper.specs.Joining.{at, on}
use Rattle.region_names.specs.Frame.{surround, framed}
use Rattle.level_masks.specs.Mask.{masked}
use Rattle.level_lines.specs.Line.{nexts}
use Rattle.level_lines.specs.Side.{sides}
use Rattle.level_kept.specs.Keep.{keeps}
use Rattle.level_curves.specs.Link.{along_next, along_other}

pub record Framed (w h : ℕ) (r : List ℕ) : Type 0 where
  pub labels : List ℕ
  pub round : take (surround w h) r ≡ framed w h (names w h labels)

pub record Lined (w h : ℕ) (f m x s : List ℕ) : Type 0 where
  pub masks : take (points w h) m ≡ masked w h f
  pub next : x ≡ nexts w h (masked w h f)
  pub side : s ≡ sides w h f (masked w h f)

pub record Kept (w h : ℕ) (s m t k : List ℕ) : Type 0 where
  pub tops : take (points w h) t ≡ tops w h (on s)
  pub points : take (points w h) k ≡ keeps w h m (take (points w h) t)

pub record Curved (w h : ℕ) (x k y o : List ℕ) : Type 0 where
  pub next : y ≡ along_next w h x k
  pub other : o ≡ along_other w h x k

-- The test of refusal 5, part by part: labels are recovered from the sides of level 1, and all is drawn again from them.
--   round_of w h s   == the names of these labels, with the outside round them
--   masks_of w h s   == the masks of the lines of level 1 between them
--   lines_agree ..   == next and side of level 1 are those drawn again
--   totals_agree ..  == the totals are those counted again
--   curves_agree ..  == level 3 and the parents are those that next and side of level 1 tell, with the masks m
unfoldable pub round_of : ℕ → ℕ → List ℕ → List ℕ
round_of w h s = framed w h (names w h (recovered w h s))

unfoldable pub masks_of : ℕ → ℕ → List ℕ → List ℕ
masks_of w h s = masked w h (round_of w h s)

unfoldable pub lines_agree : ℕ → ℕ → List ℕ → List ℕ → Bool
lines_agree w h x s = equal x (nexts w h (masks_of w h s)) && equal s (sides w h (round_of w h s) (masks_of w h s))

unfoldable pub totals_agree : ℕ → ℕ → List ℕ → List ℕ → List ℕ → Bool
totals_agree w h s c b =
    let n = names w h (recovered w h s) in
    equal c (drawn w h n).cells && equal b (drawn w h n).borders

unfoldable pub curves_agree : ℕ → ℕ → List ℕ → List ℕ → List ℕ → List ℕ → List ℕ → List ℕ → Bool
curves_agree w h x s y o p m =
    let t = tops w h (on s) in
    let k = keeps w h m t in
    equal y (along_next w h x k) && equal o (along_other w h x k)
    && equal p (table (w * h + 1) (parent w (on s) (at s) t))
