-- Step 1 for one dart: where a chase goes on and ends, and the next of the dart.
--   leaping l f d   == where a chase goes on from dart d
--   led s l a b d   == the next of dart d, past the darts with the sides a and b, which keep theirs
use mathlib.Core.Path.{◌≡◌, refl, sym, ◌∙◌, ap}
use mathlib.Core.Bool.{Bool, true, false, not}
use mathlib.Core.List.{List}
use Prim.Native.Nat.{ℕ, zero, suc}
use Rattle.laws.specs.Run.{run}
use Rattle.paper.specs.Joining.{Links, at, shared, chase}
use Rattle.join_shared.specs.Led.{leaping, led}

-- where a chase goes on
module _ (l : Links) (f : ℕ → Bool) where
  pub leaps_on : (d : ℕ) → f d ≡ true → at l.next (at l.other d) ≡ leaping l f d
  unfolding leaping
  leaps_on d e = rw e

  pub leaps_not : (d : ℕ) → f d ≡ false → d ≡ leaping l f d
  unfolding leaping
  leaps_not d e = rw e

  pub goes_on : (d x r : ℕ) → x ≡ at l.other d → r ≡ at l.next x → f d ≡ true → r ≡ leaping l f d
  goes_on d x r p q e = q ∙ ap (at l.next) p ∙ leaps_on d e

  -- chasing is four leaps
  abbrev chases : ℕ → ℕ → ℕ
  chases n d = run (λ e. at l.next (at l.other e)) (λ e. not (f e)) n d

  chases_still : (n d : ℕ) → f d ≡ false → chases n d ≡ d
  unfolding run
  chases_still zero d e = refl
  chases_still (suc n) d e = rw (e, run)

  chases_leap : (n d : ℕ) → chases (suc n) d ≡ chases n (leaping l f d)
  unfolding run
  chases_leap n d = go (f d) refl
    where
      go : (b : Bool) → f d ≡ b → chases (suc n) d ≡ chases n (leaping l f d)
      go true e = rw (← (leaps_on d e), e, run)
      go false e = chases_still (suc n) d e ∙ sym (chases_still n d e) ∙ ap (chases n) (leaps_not d e)

  pub chase_still : (d : ℕ) → f d ≡ false → chase l f d ≡ d
  unfolding chase
  chase_still d e = chases_still 4 d e

  pub chase_leaps : (d : ℕ) → chase l f d ≡ leaping l f (leaping l f (leaping l f (leaping l f d)))
  unfolding chase run
  chase_leaps d = chases_leap 3 d ∙ chases_leap 2 _ ∙ chases_leap 1 _ ∙ chases_leap 0 _

-- from each dart to the one after it
pub chase_four : (l : Links) (f : ℕ → Bool) (d x y z r : ℕ) → x ≡ leaping l f d → y ≡ leaping l f x → z ≡ leaping l f y
    → r ≡ leaping l f z → r ≡ chase l f d
chase_four l f d x y z r p q u v =
    v ∙ ap (leaping l f) (u ∙ ap (leaping l f) (q ∙ ap (leaping l f) p)) ∙ sym (chase_leaps l f d)

-- a dart that a chase does not go on from
pub chase_rests : (l : Links) (f : ℕ → Bool) (d x : ℕ) → x ≡ leaping l f d → x ≡ d → d ≡ chase l f d
chase_rests l f d x p e = let q = sym e ∙ p in chase_four l f d d d d d q q q q

-- the next of a dart, by whether it has the sides a and b
module _ (s : List ℕ) (l : Links) (a b d x : ℕ) (e : x ≡ at l.next d) where
  pub led_keeps : shared s (at l.other) a b d ≡ true → x ≡ led s l a b d
  unfolding led
  led_keeps h = rw h e

  pub led_past : shared s (at l.other) a b d ≡ false → (r : ℕ) → r ≡ chase l (shared s (at l.other) a b) x
      → r ≡ led s l a b d
  unfolding led
  led_past h r f = f ∙ rw (h, e)
