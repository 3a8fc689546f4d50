-- Next among any lines of the sheet that come with both their darts.
--   Lines w h on    == every dart that is on has its line on the sheet, and its reversal is on
use mathlib.Core.Path.{◌≡◌, refl, sym, ap, ap₂, ◌∙◌}
use mathlib.Core.Bool.{Bool, true, false}
use mathlib.Core.Logic.{◌⊎◌, inl, inr, ⊎_elim}
use Prim.Native.Nat.{ℕ, ◌+◌, ◌<◌}
use borrow.Author.Tests.{ltb-false}
use Rattle.laws.specs.Run.{run}
use Rattle.laws.proofs.Walk.{run_more, run_along}
use Rattle.laws.proofs.Chart.{Turns}
use Rattle.point_darts.specs.Dart.{slots, dart, point, direction, far, turned, reversal, line}
use Rattle.point_darts.specs.Point.{has, degree}
use Rattle.point_rules.specs.Turn.{turn}
use Rattle.point_darts.proofs.Darts.{point_dart, direction_dart, dart_own, direction_below, turned_below, point_reversal}
use Rattle.point_darts.proofs.Darts.{direction_reversal, reversal_twice, line_below}
use Rattle.point_darts.proofs.Points.{bits_below, has_bits}
use Rattle.point_rules.proofs.Turns.{around, turn_below, turn_has, turn_once, turn_pair, turn_skip, has_some, without_none}
use Rattle.paper.specs.Level.{mask, next, big}

module _ (on : ℕ → Bool) (p : ℕ) where
  pub mask_below : mask on p < 16
  unfolding mask
  mask_below = bits_below (λ k. on (dart p k))

  pub has_mask : (k : ℕ) → k < 4 → has (mask on p) k ≡ on (dart p k)
  unfolding mask
  has_mask = has_bits (λ k. on (dart p k))

-- next, where the reversal is on
module _ (w : ℕ) (on : ℕ → Bool) (d : ℕ) (back : on (reversal w d) ≡ true) where
  pub way_in : has (mask on (far w d)) (turned (direction d) 2) ≡ true
  unfolding reversal
  way_in = has_mask on (far w d) (turned (direction d) 2) (turned_below (direction d) 2) ∙ back

  way_some : mask on (far w d) ≡ 0 → ⊥
  way_some = has_some (mask on (far w d)) (turned (direction d) 2) (turned_below (direction d) 2) way_in

  pub way_below : turn (mask on (far w d)) (direction d) < 4
  way_below = turn_below (mask on (far w d)) (mask_below on (far w d)) (direction d) (direction_below d) way_some

  pub point_next : point (next w on d) ≡ far w d
  unfolding next
  point_next = point_dart (far w d) (turn (mask on (far w d)) (direction d)) way_below

  pub direction_next : direction (next w on d) ≡ turn (mask on (far w d)) (direction d)
  unfolding next
  direction_next = direction_dart (far w d) (turn (mask on (far w d)) (direction d)) way_below

  pub next_on : on (next w on d) ≡ true
  unfolding next
  next_on =
      sym (has_mask on (far w d) (turn (mask on (far w d)) (direction d)) way_below)
      ∙ turn_has (mask on (far w d)) (mask_below on (far w d)) (direction d) (direction_below d) way_some

pub record Lines (w h : ℕ) (on : ℕ → Bool) : Type 0 where
  pub lined : (d : ℕ) → on d ≡ true → line w h d ≡ true
  pub back : (d : ℕ) → on d ≡ true → on (reversal w d) ≡ true

module _ (w h : ℕ) (on : ℕ → Bool) (l : Lines w h on) where
  twice : (d : ℕ) → on d ≡ true → reversal w (reversal w d) ≡ d
  twice d e = reversal_twice w h d (l.lined d e)

  -- two darts with one reversal are one
  reversal_once : (d e : ℕ) → on d ≡ true → on e ≡ true → reversal w d ≡ reversal w e → d ≡ e
  reversal_once d e p q r = sym (twice d p) ∙ ap (reversal w) r ∙ twice e q

  far_once : (d e : ℕ) → on d ≡ true → on e ≡ true → next w on d ≡ next w on e → far w d ≡ far w e
  far_once d e p q r = sym (point_next w on d (l.back d p)) ∙ ap point r ∙ point_next w on e (l.back e q)

  direction_once : (d e : ℕ) → on d ≡ true → on e ≡ true → next w on d ≡ next w on e → direction d ≡ direction e
  direction_once d e p q r =
      let f = far_once d e p q r in
      let u = l.back d p in
      let v = l.back e q in
      turn_once (mask on (far w d)) (mask_below on (far w d)) (direction d) (direction e)
      (direction_below d) (direction_below e) (way_in w on d u) (rw f (way_in w on e v))
      (sym (direction_next w on d u) ∙ ap direction r ∙ rw f (direction_next w on e v))

  -- two darts with one next are one
  pub next_once : (d e : ℕ) → on d ≡ true → on e ≡ true → next w on d ≡ next w on e → d ≡ e
  unfolding reversal
  next_once d e p q r =
      reversal_once d e p q (ap₂ dart (far_once d e p q r) (ap (λ k. turned k 2) (direction_once d e p q r)))

  pub lines_turns : Turns (slots w h) on (next w on)
  lines_turns = record {
    below = λ d e. line_below w h d (l.lined d e);
    stays = λ d e. next_on w on d (l.back d e);
    once = next_once;
  }

  -- the reversal leads to the point that the dart leaves
  pub far_reversal : (d : ℕ) → on d ≡ true → far w (reversal w d) ≡ point d
  far_reversal d e = sym (point_reversal w (reversal w d)) ∙ ap point (twice d e)

  -- next of the reversal is the line met first when turning back
  pub next_around : (d : ℕ) → on d ≡ true
      → next w on (reversal w d) ≡ dart (point d) (around (mask on (point d)) (direction d))
  unfolding next around
  next_around d e = rw (far_reversal d e, direction_reversal w d)

  has_own : (d p : ℕ) → on d ≡ true → p ≡ point d → has (mask on p) (direction d) ≡ true
  has_own d p e q = has_mask on p (direction d) (direction_below d) ∙ rw (q, dart_own d) e

  same_point : (d e k : ℕ) → point d ≡ point e → direction e ≡ k → e ≡ dart (point d) k
  same_point d e k q r = sym (dart_own e) ∙ ap₂ dart (sym q) r

  -- a point with at most two lines: one is next of the other's reversal
  pub lines_few : (d e : ℕ) → on d ≡ true → on e ≡ true → point d ≡ point e → big on (point d) ≡ false
      → (e ≡ d) ⊎ (e ≡ next w on (reversal w d))
  unfolding big
  lines_few d e p q r b =
      let m = mask on (point d) in
      ⊎_elim (λ k. inl (same_point d e (direction d) r k ∙ dart_own d))
      (λ k. inr (same_point d e (around m (direction d)) r k ∙ sym (next_around d p)))
      (turn_pair m (mask_below on (point d)) (direction d) (direction e) (direction_below d) (direction_below e)
      (ltb-false 2 (degree m) b) (has_own d (point d) p refl) (has_own e (point d) q r))

-- Of the lines that are on, fewer are left; s tells them apart. Then next among those left is found by passing over the
-- others, from line to line round the far point.
module _ (w h : ℕ) (on left : ℕ → Bool) (l : Lines w h on) (s : ℕ → Bool)
    (fewer : (d : ℕ) → left d ≡ true → on d ≡ true) (same : (d : ℕ) → on d ≡ true → s d ≡ left d) where
  record Found (q j : ℕ) : Type 0 where
    below : j < 4
    present : has (mask on q) j ≡ true

  found_on : (q j : ℕ) → Found q j → on (dart q j) ≡ true
  found_on q j f = sym (has_mask on q j f.below) ∙ f.present

  found_turn : (q j k : ℕ) → k < 4 → Found q j → Found q (turn (mask on q) k)
  found_turn q j k b f =
      let z = has_some (mask on q) j f.below f.present in
      record {
        below = turn_below (mask on q) (mask_below on q) k b z;
        present = turn_has (mask on q) (mask_below on q) k b z;
      }

  around_stops : (q j : ℕ) → Found q j → s (dart q j) ≡ has (mask left q) j
  around_stops q j f = same (dart q j) (found_on q j f) ∙ sym (has_mask left q j f.below)

  around_steps : (q j : ℕ) → Found q j → next w on (reversal w (dart q j)) ≡ dart q (around (mask on q) j)
  around_steps q j f =
      next_around w h on l (dart q j) (found_on q j f)
      ∙ ap₂ (λ p k. dart p (around (mask on p) k)) (point_dart q j f.below) (direction_dart q j f.below)

  around_stays : (q j : ℕ) → Found q j → Found q (around (mask on q) j)
  unfolding around
  around_stays q j f = found_turn q j (turned j 2) (turned_below j 2) f

  skip_around : (q c j : ℕ) → Found q j
      → run (λ e. next w on (reversal w e)) s c (dart q j) ≡ dart q (run (around (mask on q)) (has (mask left q)) c j)
  skip_around q =
      run_along (dart q) (λ e. next w on (reversal w e)) (around (mask on q)) s (has (mask left q)) (Found q)
      (around_stops q) (around_steps q) (around_stays q)

  -- four steps are enough round a point, and more do no harm
  module _ (d : ℕ) (e : left (reversal w d) ≡ true) where
    four_steps : let q = far w d in
        run (around (mask on q)) (has (mask left q)) 4 (turn (mask on q) (direction d)) ≡ turn (mask left q) (direction d)
    four_steps =
        let q = far w d in
        turn_skip (mask on q) (mask_below on q) (mask left q) (direction d) (mask_below left q) (direction_below d)
        (without_none (mask on q) (mask left q)
        (λ j b z. has_mask on q j b ∙ fewer (dart q j) (sym (has_mask left q j b) ∙ z)))
        (way_some w left d e)

    more_steps : (a : ℕ) → let q = far w d in
        run (around (mask on q)) (has (mask left q)) (4 + a) (turn (mask on q) (direction d))
        ≡ turn (mask left q) (direction d)
    more_steps a =
        let q = far w d in
        run_more (around (mask on q)) (has (mask left q)) 4 a (turn (mask on q) (direction d))
        (ap (has (mask left q)) four_steps
        ∙ turn_has (mask left q) (mask_below left q) (direction d) (direction_below d) (way_some w left d e))
        ∙ four_steps

    first_found : Found (far w d) (turn (mask on (far w d)) (direction d))
    first_found =
        found_turn (far w d) (turned (direction d) 2) (direction d) (direction_below d)
        (record { below = turned_below (direction d) 2; present = way_in w on d (fewer (reversal w d) e) })

    pub next_skip : (a : ℕ) → run (λ e. next w on (reversal w e)) s (4 + a) (next w on d) ≡ next w left d
    unfolding next
    next_skip a =
        skip_around (far w d) (4 + a) (turn (mask on (far w d)) (direction d)) first_found
        ∙ ap (dart (far w d)) (more_steps a)
