-- The outcome of checking seven tables, a call that the paper leaves to the library.
--   checked w h t ws == of checking whether the tables t are a drawing, with the work tables ws: refusals 1, 4 and 5
use Rattle.std.specs.Prelude.{List, [], ℕ}
use Rattle.laws.specs.First.{first_failed}
use Rattle.paper.specs.Drawing.{Tables}
use Rattle.paper.specs.Refusal.{Outcome, outcome, seven, given_tests}

unfoldable pub checked : ℕ → ℕ → Tables → List (List ℕ) → Outcome
checked w h t ws = outcome (first_failed (given_tests w h t ws)) [] (seven t) (seven t) ws
