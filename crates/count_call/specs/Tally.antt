-- The outcomes of calls that fill tables from a drawing, which the paper leaves to the library.
--   fill_refusal w h t k ws == the first refusal, 1, 4 or 5, where k says that the tables to be filled have the stated lengths; 0 for none
--   judged w h t k ws == the outcome of judging this
--   filled w h t k ms fs ws == the outcome of filling the tables ms with fs
--   tallied w h t ds hs ws == of counting depth and holes of all names, into two tables by name
--   traced w h t rs ls ws == of counting the right turns and the left turns of the curves, into two tables by dart
use Rattle.std.specs.Prelude.{Bool, ◌&&◌, List, [], ◌∷◌, ◌++◌, ℕ, ◌+◌, ◌*◌}
use Rattle.laws.specs.First.{first_failed}
use Rattle.point_darts.specs.Dart.{slots}
use Rattle.point_rules.specs.Turn.{is_right, is_left}
use Rattle.paper.specs.Turns.{curve_turns}
use Rattle.paper.specs.Enclosure.{depth, holes}
use Rattle.paper.specs.Drawing.{Tables, is_drawing}
use Rattle.paper.specs.Joining.{on}
use Rattle.paper.specs.Refusal.{Outcome, outcome, sized, stated, seven, size_tests}
use Rattle.region_depths.specs.Census.{counts}

unfoldable pub fill_refusal : ℕ → ℕ → Tables → Bool → List (List ℕ) → ℕ
fill_refusal w h t k ws = first_failed (size_tests w h (stated w h t ws && k) ++ (is_drawing w h t, 5) ∷ [])

unfoldable pub judged : ℕ → ℕ → Tables → Bool → List (List ℕ) → Outcome
judged w h t k ws = outcome (fill_refusal w h t k ws) [] (seven t) (seven t) ws

unfoldable pub filled : ℕ → ℕ → Tables → Bool → List (List ℕ) → List (List ℕ) → List (List ℕ) → Outcome
filled w h t k ms fs ws = outcome (fill_refusal w h t k ws) [] (seven t ++ ms) (seven t ++ fs) ws

unfoldable pub tallied : ℕ → ℕ → Tables → List ℕ → List ℕ → List (List ℕ) → Outcome
tallied w h t ds hs ws =
    let ms = ds ∷ hs ∷ [] in
    filled w h t (sized (w * h + 1) ms) ms
    (counts depth t.parent ∷ counts (holes w h (on t.side1)) t.parent ∷ [])
    ws

unfoldable pub traced : ℕ → ℕ → Tables → List ℕ → List ℕ → List (List ℕ) → Outcome
traced w h t rs ls ws =
    let ms = rs ∷ ls ∷ [] in
    filled w h t (sized (slots w h) ms) ms
    (curve_turns w h (on t.side1) is_right ∷ curve_turns w h (on t.side1) is_left ∷ [])
    ws
