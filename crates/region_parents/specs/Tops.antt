-- Tables of tops.
--   Rising t        == no point's top is after the point
use Rattle.std.specs.Prelude.{List, ℕ, ◌≤◌, get_or}

pub record Rising (t : List ℕ) : Type 0 where
  pub up : (p : ℕ) → get_or t p 0 ≤ p
