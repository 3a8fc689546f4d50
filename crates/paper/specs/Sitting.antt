-- What is promised of joins (the paper, "A drawing, and joining in it", and the third demand).
--   Joinable w h t a b == a and b are two different regions of the drawing t, neither the outside, that share a line
--   Sitting w h t u    == joins, one after another, lead from the tables t to the tables u
--   Recounted w h t    == the totals are those counted again from the drawing's own sides: the cells that they tell, and the darts with
--                      each side
--   Midway w h t a b l == the links l are those of level 3 when step 3, or step 4 after it, has treated some points
--   Away t a b p       == no level 3 curve of t that the join of a and b removes has an end at the point p
--   Still w h t a b    == steps 3 and 4 of the join change nothing at a point where no removed curve ends, nor at one that
--                      they have treated
--   Untouched t a b d  == neither end of the level 3 curve of dart d touches a removed curve
--   Keeps t u d        == dart d and its other have the same next and other in t and in u
use Rattle.std.specs.Prelude.{◌≡◌, true, ◌⊎◌, ◌≢◌, ℕ, ◌<◌, eqb}
use Rattle.laws.specs.Table.{count}
use Rattle.point_darts.specs.Dart.{slots, point}
use Rattle.paper.specs.Level.{tops}
use Rattle.paper.specs.Total.{cells_of, totals}
use Rattle.paper.specs.Drawing.{Tables, recovered}
use Rattle.paper.specs.Joining.{Links, at, on, shared, rest1, rest3, smooth, smooths, smoothed, close, closes, joined}
use Rattle.paper.specs.Refusal.{used, adjoin}

pub record Joinable (w h : ℕ) (t : Tables) (a b : ℕ) : Type 0 where
  pub inner : (a ≢ 0) × (b ≢ 0)
  pub apart : a ≢ b
  pub regions : (used t.parent a ≡ true) × (used t.parent b ≡ true)
  pub neighbours : adjoin w h t.side1 a b ≡ true

pub data Sitting (w h : ℕ) : Tables → Tables → Type 0 where
  done : {t : Tables} → Sitting w h t t
  then : {t u : Tables} (a b : ℕ) → Joinable w h t a b → Sitting w h (joined w h t a b) u → Sitting w h t u

pub record Recounted (w h : ℕ) (t : Tables) : Type 0 where
  pub cells : let c = cells_of w h (recovered w h t.side1) in t.cells ≡ totals w h c c
  pub borders :
      let c = cells_of w h (recovered w h t.side1) in
      t.borders ≡ totals w h c (λ r. count (slots w h) (λ d. eqb (at t.side1 d) r))

pub data Midway (w h : ℕ) (t : Tables) (a b : ℕ) : Links → Type 0 where
  step3 : (i : ℕ) → Midway w h t a b (smooths i 0 (rest3 w h t a b))
  step4 : (i : ℕ)
      → Midway w h t a b
      (closes (on (rest1 w h t a b).next) (tops w h (on (rest1 w h t a b).next)) i 0
      (smoothed w h (rest3 w h t a b)))

abbrev pub Away : Tables → ℕ → ℕ → ℕ → Type 0
Away t a b p = (g : ℕ) → on t.next3 g ≡ true → shared t.side1 (at t.other3) a b g ≡ true → point g ≢ p

-- after i points a step at such a point changes nothing
abbrev pub Idle : Tables → ℕ → ℕ → (Links → ℕ → Links) → (ℕ → Links) → Type 0
Idle t a b step after = (i p : ℕ) → Away t a b p ⊎ (p < i) → step (after i) p ≡ after i

pub record Still (w h : ℕ) (t : Tables) (a b : ℕ) : Type 0 where
  pub smoothing : Idle t a b smooth (λ i. smooths i 0 (rest3 w h t a b))
  pub closing :
      let o = on (rest1 w h t a b).next in
      Idle t a b (close o (tops w h o)) (λ i. closes o (tops w h o) i 0 (smoothed w h (rest3 w h t a b)))

pub record Untouched (t : Tables) (a b d : ℕ) : Type 0 where
  pub near : Away t a b (point d)
  pub far : Away t a b (point (at t.other3 d))

pub record Keeps (t u : Tables) (d : ℕ) : Type 0 where
  pub next : at u.next3 d ≡ at t.next3 d
  pub other : at u.other3 d ≡ at t.other3 d
  pub far_next : at u.next3 (at t.other3 d) ≡ at t.next3 (at t.other3 d)
  pub far_other : at u.other3 (at t.other3 d) ≡ d
