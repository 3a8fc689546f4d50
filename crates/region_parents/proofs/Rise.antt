-- The tops of pieces.
--   Rising t        == no point's top is after the point
use mathlib.Core.Path.{◌≡◌}
use mathlib.Core.Bool.{Bool}
use mathlib.Core.List.{List}
use Prim.Native.Nat.{ℕ}
use Rattle.paper.specs.Level.{tops}
use Rattle.paper_laws.proofs.Piece.{tops_le}
use Rattle.region_parents.specs.Tops.{Rising}

pub tops_rising : (w h : ℕ) (o : ℕ → Bool) (t : List ℕ) → t ≡ tops w h o → Rising t
tops_rising w h o t e = record { up = λ p. rw e (tops_le w h o p) }
