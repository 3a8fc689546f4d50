-- The list of the darts of a and b at level 3 leads to every point that steps 3 and 4 are to treat.
--   bounds s a b d  == dart d has side a or side b
--   Away t a b p    == no removed curve has an end at the point p
use mathlib.Core.Path.{◌≡◌, refl}
use mathlib.Core.Bool.{Bool, true, false, ◌&&◌}
use mathlib.Core.List.{List}
use mathlib.Core.Logic.{◌⊎◌, inl, inr, ⊎_elim}
use Prim.Native.Nat.{ℕ, ◌<◌}
use Rattle.laws.proofs.Test.{clash, and_true}
use Rattle.point_darts.specs.Dart.{slots, point}
use Rattle.paper.specs.Drawing.{Tables}
use Rattle.paper.specs.Joining.{Links, on, rest1, rest3}
use Rattle.paper.specs.Sitting.{Away, Still}
use Rattle.join_darts.specs.Listed.{bounds, Listed}
use Rattle.join_shared.proofs.Sharing.{away_apart}
use Rattle.join_rule.specs.Apply.{Visits}

module _ (w h : ℕ) (t : Tables) (a b : ℕ) where
  abbrev test : ℕ → Bool
  test d = bounds t.side1 a b d && on t.next3 d

  -- a removed curve ends only where a dart of the list leaves
  unlisted_away : (p : ℕ) → ((d : ℕ) → point d ≡ p → test d ≡ false) → Away t a b p
  unlisted_away p f g e s q = go (bounds t.side1 a b g) refl
    where
      go : (x : Bool) → bounds t.side1 a b g ≡ x → ⊥
      go true i = clash (and_true i e) (f g q)
      go false i = clash s (away_apart t.side1 _ a b g i)

  pub list_visits : (f : ℕ) (list : List ℕ) → Still w h t a b → Listed test (slots w h) f list
      → (n : List ℕ) (l : Links) → n ≡ (rest1 w h t a b).next → l ≡ rest3 w h t a b → Visits w h (on n) l f list
  list_visits f list s r n l p q =
      let away : (i p : ℕ) → ((d : ℕ) → point d ≡ p → test d ≡ false) ⊎ (p < i) → Away t a b p ⊎ (p < i) =
      λ i p. ⊎_elim (λ u. inl (unlisted_away p u)) inr in
      rw (p, q)
      record {
        smoothing = record { test = test; list = r; still = λ i p u. s.smoothing i p (away i p u) };
        closing = record { test = test; list = r; still = λ i p u. s.closing i p (away i p u) };
      }
