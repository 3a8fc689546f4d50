-- The back neighbours of a point, as the code finds them.
use mathlib.Core.Path.{◌≡◌, refl, ◌∙◌}
use mathlib.Core.Bool.{Bool, true, false, cond}
use mathlib.Core.List.{List, [], ◌∷◌}
use mathlib.Core.Logic.{◌≢◌}
use Prim.Native.Nat.{ℕ, zero, suc, ◌-◌, ◌≤◌, ◌<◌}
use native.Mathlib.Nat.{not-suc-le-zero}
use native.Mathlib.Omega.{arith}
use lib.ListN.{length, get_or}
use borrow.Author.Tests.{eq-eqb, ne_eqb}
use Rattle.point_darts.specs.Dart.{mark}
use Rattle.paper.specs.Joining.{at, on}
use Rattle.level_pieces.specs.Piece.{toward}

-- An entry of a table, whatever is read past its end.
entry_any : (t : List ℕ) (d y z : ℕ) → d < length t → get_or t d y ≡ get_or t d z
entry_any [] d y z h = absurd (not-suc-le-zero h)
entry_any (x ∷ t) zero y z h = refl
entry_any (x ∷ t) (suc d) y z h = entry_any t d y z (omega arith)

module _ (s : List ℕ) (d m p r : ℕ) where
  pub toward_back : r ≡ toward s d p m → r ≤ p
  toward_back e = back_le (on s d) e
    where
      back_le : (b : Bool) → r ≡ cond b (p - m) p → r ≤ p
      back_le true q = omega arith
      back_le false q = omega arith

  -- a dart is on where its entry is not the mark
  pub toward_off : d < length s → get_or s d 0 ≡ mark → p ≡ toward s d p m
  unfolding on at
  toward_off h e = rw (eq-eqb (get_or s d mark) mark (entry_any s d mark 0 h ∙ e))

  pub toward_on : d < length s → get_or s d 0 ≢ mark → r ≡ p - m → r ≡ toward s d p m
  unfolding on at
  toward_on h e q = rw (ne_eqb (get_or s d mark) mark (λ k. e (entry_any s d 0 mark h ∙ k))) q
