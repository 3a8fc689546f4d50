-- Work tables that are cleared are as long as they were, and clearing them again changes nothing.
use mathlib.Core.Path.{◌≡◌, refl, ap, ap₂}
use mathlib.Core.Bool.{◌&&◌}
use mathlib.Core.List.{List, [], ◌∷◌}
use Prim.Native.Nat.{ℕ}
use lib.Dec.{eqb}
use lib.ListN.{length, replicate, length-replicate}
use Rattle.paper.specs.Drawing.{Tables}
use Rattle.paper.specs.Refusal.{sized, stated, cleared}

pub cleared_twice : (ws : List (List ℕ)) → cleared (cleared ws) ≡ cleared ws
unfolding cleared
cleared_twice [] = refl
cleared_twice (t ∷ ts) = ap₂ ◌∷◌ (ap (λ n. replicate n 0) (length-replicate (length t) 0)) (cleared_twice ts)

cleared_sized : (n : ℕ) (ws : List (List ℕ)) → sized n (cleared ws) ≡ sized n ws
unfolding cleared sized
cleared_sized n [] = refl
cleared_sized n (t ∷ ts) = ap₂ ◌&&◌ (ap (λ k. eqb k n) (length-replicate (length t) 0)) (cleared_sized n ts)

cleared_behind : (n : ℕ) (a b c d : List ℕ) (ws : List (List ℕ)) → sized n (a ∷ b ∷ c ∷ d ∷ cleared ws) ≡ sized n (a ∷ b ∷ c ∷ d ∷ ws)
unfolding sized
cleared_behind n a b c d ws = rw (cleared_sized n ws)

pub cleared_stated : (w h : ℕ) (t : Tables) (ws : List (List ℕ)) → stated w h t (cleared ws) ≡ stated w h t ws
unfolding stated
cleared_stated w h t ws = rw cleared_behind
