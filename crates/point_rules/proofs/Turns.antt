-- Turning at a point, proved at all masks and headings by tests that antt computes.
--   all n f         == every number below n passes the test f
--   around m j      == the first line of m met when turning back from line j, at the latest j itself
--   each a b f      == every mask m, j below a and k below b pass the test f m j k
--   odd a b         == exactly one of a and b
--   even f          == an even number of the four directions pass the test f
--   same a b        == the tests a and b agree
--   turning_none    == the turn is none exactly where no line is present
--   turn_back       == a point with at most two lines: who comes back takes a left turn where there was a right turn
--   turn_skip       == passing over the lines that are taken, from line to line, is turning among those that are left
use mathlib.Core.Path.{◌≡◌, refl, sym, ap, ap₂, ◌∙◌}
use mathlib.Core.Bool.{Bool, true, false, not, cond, ◌&&◌, ◌||◌, false≢true, and-eq-true_iff}
use mathlib.Core.List.{List}
use mathlib.Core.Logic.{◌⊎◌, inl, inr, ◌↔◌}
use Prim.Native.Nat.{ℕ, zero, suc, ◌<◌, ◌≤◌}
use native.Mathlib.Omega.{arith}
use native.Mathlib.Decide.{ℕ_discrete}
use lib.Dec.{eqb, ltb, leb, lit<}
use borrow.Author.Tests.{eqb-true, ltb-true, eq-eqb, ne_eqb, le-leb}
use Rattle.laws.specs.Run.{run}
use Rattle.laws.proofs.Test.{and_under}
use Rattle.laws.proofs.Even.{odd}
use Rattle.point_darts.specs.Dart.{turned}
use Rattle.point_darts.specs.Point.{bits, half, has, right, parts, present, degree, inline}
use Rattle.point_rules.specs.declared.turn.Turn.{Turn}
use Rattle.point_rules.specs.Turn.{turning, led, turn, is_right, is_left, without}
use Rattle.point_darts.proofs.Darts.{four, turned_below, turned_round}
use Rattle.point_darts.proofs.Points.{bits_same, bits_below, has_bits, has_present, right_back}

abbrev pub all : ℕ → (ℕ → Bool) → Bool
all zero f = true
all (suc n) f = f n && all n f

all_step : (n : ℕ) (f : ℕ → Bool) (k : ℕ) → k < suc n → f n ≡ true → (k < n → f k ≡ true) → f k ≡ true
all_step n f k h e r = go (ℕ_discrete k n)
  where
    go : Dec (k ≡ n) → f k ≡ true
    go (yes q) = rw q e
    go (no q) = r (omega arith)

pub all_at : (n : ℕ) (f : ℕ → Bool) → all n f ≡ true → (k : ℕ) → k < n → f k ≡ true
all_at zero f e k h = absurd (omega arith)
all_at (suc n) f e k h =
    let both = (and-eq-true_iff (f n) (all n f)).0 e in
    all_step n f k h both.0 (all_at n f both.1 k)

abbrev pub each : ℕ → ℕ → (ℕ → ℕ → ℕ → Bool) → Bool
each a b f = all 16 (λ m. all a (λ j. all b (f m j)))

pub each_at : (a b : ℕ) (f : ℕ → ℕ → ℕ → Bool) → each a b f ≡ true
    → (m : ℕ) → m < 16 → (j k : ℕ) → j < a → k < b → f m j k ≡ true
each_at a b f e m l j k p q =
    all_at b (f m j) (all_at a (λ i. all b (f m i)) (all_at 16 (λ i. all a (λ j. all b (f i j))) e m l) j p) k q

unfoldable pub around : ℕ → ℕ → ℕ
around m j = turn m (turned j 2)

-- the line found is one of the four, and present
abbrev finds : ℕ → ℕ → ℕ → Bool
finds m i k = eqb m 0 || ltb (turn m k) 4 && has m (turn m k)

-- two ways in do not turn into one way out
abbrev differs : ℕ → ℕ → ℕ → Bool
differs m j k = not (has m (turned j 2) && has m (turned k 2) && eqb (turn m j) (turn m k)) || eqb j k

-- of at most two lines each is turned into the other
abbrev pairs : ℕ → ℕ → ℕ → Bool
pairs m j k = not (leb (degree m) 2 && has m j && has m k) || (eqb k j || eqb k (around m j))

abbrev pub same : Bool → Bool → Bool
same a b = cond a b (not b)

pub same_at : (a b : Bool) → same a b ≡ true → a ≡ b
same_at true b e = sym e
same_at false true e = absurd (false≢true e)
same_at false false e = refl

-- of at most two lines, a right turn is a left turn on the way back, and a left turn a right turn
abbrev turns_back : ℕ → ℕ → ℕ → Bool
turns_back m i k =
    let v = turning m k in
    let u = turning m (turned (turn m k) 2) in
    not (leb (degree m) 2 && has m (turned k 2)) || same (is_left u) (is_right v) && same (is_right u) (is_left v)

-- where the lines t are left of the lines m: from line to line until one is left
abbrev skips : ℕ → ℕ → ℕ → Bool
skips m t k = not (eqb (without t m) 0 && not (eqb t 0)) || eqb (run (around m) (has t) 4 (turn m k)) (turn t k)

-- of two lines in line with each other, the way in goes straight on
abbrev straightens : ℕ → ℕ → ℕ → Bool
straightens m i k = not (has m (turned k 2) && eqb (degree m) 2 && not (eqb (inline m) 0)) || eqb (turn m k) k

-- turning back leads from each line to each other
abbrev leads : ℕ → ℕ → ℕ → Bool
leads m j k = not (has m j && has m k) || eqb (run (around m) (λ i. eqb i k) 4 j) k

abbrev pub even : (ℕ → Bool) → Bool
even f = not (odd (odd (f 3) (f 1)) (odd (f 2) (f 0)))

-- an even number of the lines m differ, as to being in t, from the line met first when turning back
abbrev evens : ℕ → ℕ → ℕ → Bool
evens m t i = even (λ k. has m k && odd (has t k) (has t (around m k)))

all_find : each 1 4 finds ≡ true
unfolding turn turning led has half turned
all_find = refl

all_differ : each 4 4 differs ≡ true
unfolding turn turning led has half turned
all_differ = refl

all_pair : each 4 4 pairs ≡ true
unfolding around turn turning led degree has half turned
all_pair = refl

all_turn_back : each 1 4 turns_back ≡ true
unfolding turn turning led is_right is_left degree has half turned
all_turn_back = refl

all_skip : each 16 4 skips ≡ true
unfolding around turn turning led without run bits has half turned
all_skip = refl

all_straighten : each 1 4 straightens ≡ true
unfolding turn turning led degree inline bits has half turned
all_straighten = refl

all_lead : each 4 4 leads ≡ true
unfolding around turn turning led run has half turned
all_lead = refl

all_even : each 16 1 evens ≡ true
unfolding around turn turning led has half turned
all_even = refl

module _ (m : ℕ) (b : m < 16) where
  found : (k : ℕ) → k < 4 → (m ≡ 0 → ⊥) → (turn m k < 4) × (has m (turn m k) ≡ true)
  found k l z =
      let t = rw (ne_eqb m 0 z) at (each_at 1 4 finds all_find m b 0 k (lit< tt) l) in
      let both = (and-eq-true_iff (ltb (turn m k) 4) (has m (turn m k))).0 t in
      (ltb-true (turn m k) 4 both.0, both.1)

  pub turn_below : (k : ℕ) → k < 4 → (m ≡ 0 → ⊥) → turn m k < 4
  turn_below k l z = (found k l z).0

  pub turn_has : (k : ℕ) → k < 4 → (m ≡ 0 → ⊥) → has m (turn m k) ≡ true
  turn_has k l z = (found k l z).1

  pub turn_once : (j k : ℕ) → j < 4 → k < 4
      → has m (turned j 2) ≡ true → has m (turned k 2) ≡ true → turn m j ≡ turn m k → j ≡ k
  turn_once j k p q u v e =
      eqb-true j k (rw (u, v, eq-eqb (turn m j) (turn m k) e) at (each_at 4 4 differs all_differ m b j k p q))

  pub turn_pair : (j k : ℕ) → j < 4 → k < 4
      → degree m ≤ 2 → has m j ≡ true → has m k ≡ true → (k ≡ j) ⊎ (k ≡ around m j)
  turn_pair j k p q l u v =
      go (eqb k j) refl (rw (u, v, le-leb (degree m) 2 l) at (each_at 4 4 pairs all_pair m b j k p q))
    where
      go : (e : Bool) → eqb k j ≡ e → (e || eqb k (around m j)) ≡ true → (k ≡ j) ⊎ (k ≡ around m j)
      go true e t = inl (eqb-true k j e)
      go false e t = inr (eqb-true k (around m j) t)

  pub turn_back : (k : ℕ) → k < 4 → degree m ≤ 2 → has m (turned k 2) ≡ true
      → let v = turning m k in
      let u = turning m (turned (turn m k) 2) in
      (is_left u ≡ is_right v) × (is_right u ≡ is_left v)
  turn_back k l d h =
      let v = turning m k in
      let u = turning m (turned (turn m k) 2) in
      let t = rw (le-leb (degree m) 2 d, h) at (each_at 1 4 turns_back all_turn_back m b 0 k (lit< tt) l) in
      let both = (and-eq-true_iff (same (is_left u) (is_right v)) (same (is_right u) (is_left v))).0 t in
      (same_at (is_left u) (is_right v) both.0, same_at (is_right u) (is_left v) both.1)

  pub turn_straight : (k : ℕ) → k < 4 → has m (turned k 2) ≡ true → degree m ≡ 2 → (inline m ≡ 0 → ⊥) → turn m k ≡ k
  turn_straight k l u v z =
      eqb-true (turn m k) k
      (rw (u, eq-eqb (degree m) 2 v, ne_eqb (inline m) 0 z)
      at (each_at 1 4 straightens all_straighten m b 0 k (lit< tt) l))

  -- a mask that is not 0 has a line
  pub some_has : (m ≡ 0 → ⊥) → (k : ℕ) × (k < 4) × (has m k ≡ true)
  some_has z = (turn m 0, turn_below 0 (lit< tt) z, turn_has 0 (lit< tt) z)

  pub turn_skip : (t k : ℕ) → t < 16 → k < 4 → without t m ≡ 0 → (t ≡ 0 → ⊥)
      → run (around m) (has t) 4 (turn m k) ≡ turn t k
  turn_skip t k p q e z =
      eqb-true _ _ (rw (e, ne_eqb t 0 z) at (each_at 16 4 skips all_skip m b t k p q))

has_none : (j : ℕ) → j < 4 → has 0 j ≡ false
unfolding has half
has_none = four (λ j. has 0 j ≡ false) refl refl refl refl

-- no turn is taken where no line is present, and none leads to direction 4
turning_no_line : (k : ℕ) → turning 0 k ≡ Turn.None
unfolding turning
turning_no_line k =
    rw (
      has_none (turned k 1) (turned_below k 1),
      has_none (turned k 0) (turned_below k 0),
      has_none (turned k 3) (turned_below k 3),
      has_none (turned k 2) (turned_below k 2),
    )

pub turn_none : (k : ℕ) → turn 0 k ≡ 4
unfolding turn led
turn_none k = rw (turning_no_line k)

pub turning_none : (m k : ℕ) → m < 16 → k < 4 → (turning m k ≡ Turn.None) ↔ (m ≡ 0)
unfolding turn led
turning_none m k b l = (
  λ e. go e (ℕ_discrete m 0),
  λ e. rw e (turning_no_line k),
)
  where
    go : turning m k ≡ Turn.None → Dec (m ≡ 0) → m ≡ 0
    go e (yes z) = z
    go e (no z) = let t : led k Turn.None < 4 = rw e at (turn_below m b k l z) in absurd (omega arith)

-- a mask with lines is not 0
pub degree_some : (m : ℕ) → 0 < degree m → m ≡ 0 → ⊥
unfolding degree has half
degree_some m l e = let z : 0 < 0 = rw e at l in omega arith

-- a mask that has a line has a degree
pub has_degree : (m j : ℕ) → j < 4 → has m j ≡ true → 0 < degree m
unfolding degree
has_degree m =
    four (λ j. has m j ≡ true → 0 < degree m)
    (λ e. rw e (omega arith)) (λ e. rw e (omega arith)) (λ e. rw e (omega arith)) (λ e. rw e (omega arith))

-- a mask that has a line is not 0
pub has_some : (m j : ℕ) → j < 4 → has m j ≡ true → m ≡ 0 → ⊥
has_some m j l h e = false≢true (sym (has_none j l) ∙ rw e at h)

within : (a b : Bool) → (a ≡ true → b ≡ true) → (a && not b) ≡ false
within true b h = ap not (h refl)
within false b h = refl

-- no line of t is outside m
pub without_none : (m t : ℕ) → ((k : ℕ) → k < 4 → has t k ≡ true → has m k ≡ true) → without t m ≡ 0
unfolding without bits
without_none m t h =
    bits_same (λ k. has t k && not (has m k)) (λ k. false) (λ k l. within (has t k) (has m k) (h k l))

-- Turning back round a point.
module _ (m : ℕ) (b : m < 16) where
  pub around_below : (k : ℕ) → k < 4 → has m k ≡ true → around m k < 4
  unfolding around
  around_below k l e = turn_below m b (turned k 2) (turned_below k 2) (has_some m k l e)

  pub around_has : (k : ℕ) → k < 4 → has m k ≡ true → has m (around m k) ≡ true
  unfolding around
  around_has k l e = turn_has m b (turned k 2) (turned_below k 2) (has_some m k l e)

  pub around_leads : (j k : ℕ) → j < 4 → k < 4 → has m j ≡ true → has m k ≡ true
      → run (around m) (λ i. eqb i k) 4 j ≡ k
  around_leads j k p q u v = eqb-true _ k (rw (u, v) at (each_at 4 4 leads all_lead m b j k p q))

  pub around_even : (f : ℕ → Bool) → even (λ k. has m k && odd (f k) (f (around m k))) ≡ true
  around_even f =
      let t = bits f in
      let at : (k : ℕ) → k < 4
      → (has m k && odd (has t k) (has t (around m k))) ≡ (has m k && odd (f k) (f (around m k))) =
      λ k l. and_under (has m k) _ _
      (λ e. ap₂ odd (has_bits f k l) (has_bits f (around m k) (around_below k l e))) in
      rw (at 0 (lit< tt), at 1 (lit< tt), at 2 (lit< tt), at 3 (lit< tt))
      at (each_at 16 1 evens all_even m b t 0 (bits_below f) (lit< tt))

-- the first turn that is chosen of four, where each direction that is passed over has the value of the one after it
chosen : (R : ℕ → ℕ) (k : ℕ) (p q r s : Bool)
    → (p ≡ false → R (turned k 1) ≡ R (turned k 0)) → (q ≡ false → R (turned k 0) ≡ R (turned k 3))
    → (r ≡ false → R (turned k 3) ≡ R (turned k 2)) → s ≡ true
    → R (led k (cond p Turn.Right (cond q Turn.Straight (cond r Turn.Left (cond s Turn.Back Turn.None))))) ≡ R (turned k 1)
unfolding led
chosen R k true q r s f g h e = refl
chosen R k false true r s f g h e = sym (f refl)
chosen R k false false true s f g h e = sym (f refl ∙ g refl)
chosen R k false false false true f g h e = sym (f refl ∙ g refl ∙ h refl)
chosen R k false false false false f g h e = absurd (false≢true e)

-- turning keeps the hand: the line found has on its right what the way in has
pub turn_keeps : (c : List (List ℕ)) (k : ℕ)
    → parts c (turned k 2) ≡ true → right c (turn (present c) k) ≡ right c (turned k 1)
unfolding turn turning
turn_keeps c k e =
    let m = present c in
    let at : (i : ℕ) → has m (turned k i) ≡ parts c (turned k i) = λ i. has_present c (turned k i) (turned_below k i) in
    chosen (right c) k
    (has m (turned k 1)) (has m (turned k 0)) (has m (turned k 3)) (has m (turned k 2))
    (λ z. right_back c k 0 (sym (at 1) ∙ z))
    (λ z. rw (← turned_round k) (right_back c k 3 (rw turned_round (sym (at 0) ∙ z))))
    (λ z. right_back c k 2 (sym (at 3) ∙ z))
    (at 2 ∙ e)
