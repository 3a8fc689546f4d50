-- The tables that a call is lent.
--   tables x s y o p c b == the seven tables of a drawing
--   works a b c d   == the four work tables
use Rattle.std.specs.Prelude.{List, [], ◌∷◌, ℕ}
use Rattle.paper.specs.Drawing.{Tables}

abbrev pub tables : List ℕ → List ℕ → List ℕ → List ℕ → List ℕ → List ℕ → List ℕ → Tables
tables x s y o p c b = record { next1 = x; side1 = s; next3 = y; other3 = o; parent = p; cells = c; borders = b }

abbrev pub works : List ℕ → List ℕ → List ℕ → List ℕ → List (List ℕ)
works a b c d = a ∷ b ∷ c ∷ d ∷ []
