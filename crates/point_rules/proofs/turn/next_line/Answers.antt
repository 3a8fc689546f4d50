use mathlib.Core.Path.{◌≡◌, refl, sym, ◌∙◌}
use mathlib.Core.Bool.{Bool, true, false, cond, ◌&&◌}
use Prim.Native.Nat.{ℕ, ◌<◌, suc-le-suc}
use lib.Dec.{ltb}
use borrow.Author.Tests.{lt-ltb, le-ltb}
use Rattle.point_darts.specs.Dart.{turned}
use Rattle.point_darts.specs.Point.{has}
use Rattle.point_rules.specs.declared.turn.Turn.{Turn}
use Rattle.point_rules.specs.Turn.{turning, turning_of, led, turn_of}
use Rattle.point_darts.proofs.Darts.{turned_none}
use Rattle.point_rules.proofs.turn.next_line.Goals.{After-has, After-has-2, After-has-3, After-has-4}
use Rattle.point_rules.proofs.turn.next_line.Goals as goal

-- No turn, where a number is no mask or no heading.
no-turn : (m k : ℕ) → (ltb m 16 && ltb k 4) ≡ false → (4 ≡ turn_of m k) × (Turn.None ≡ turning_of m k)
unfolding turn_of turning_of led
no-turn m k e = rw e (refl, refl)

-- The turn, and the line that it leads to, by whether the mask has the line to the right, straight on, to the left and back.
by_tests : (m k : ℕ) → m < 16 → k < 4 → (r s l b : Bool)
    → has m (turned k 1) ≡ r → has m k ≡ s → has m (turned k 3) ≡ l → has m (turned k 2) ≡ b
    → let v = cond r Turn.Right (cond s Turn.Straight (cond l Turn.Left (cond b Turn.Back Turn.None))) in
    (led k v ≡ turn_of m k) × (v ≡ turning_of m k)
unfolding turn_of turning_of turning
by_tests m k p q r s l b er es el eb = rw (lt-ltb m 16 p, lt-ltb k 4 q, turned_none k q, er, es, el, eb) (refl, refl)

-- What the mask has, from the calls that ask it.
module _ (c : After-has) where
  abbrev present : ℕ
  present = c.args.present

  abbrev heading : ℕ
  heading = c.args.heading

  present-below : present < 16
  present-below = suc-le-suc c.if-present-gt15.false

  heading-below : heading < 4
  heading-below = suc-le-suc c.if-heading-gt3.false

  right : has present (turned heading 1) ≡ c.has.result
  unfolding turned
  right = sym c.has.ensures

straight : (c : After-has-2)
    → let h = c.before.before in has (present h) (heading h) ≡ c.has-2.result
straight c = sym c.has-2.ensures

left : (c : After-has-3)
    → let h = c.before.before.before.before in has (present h) (turned (heading h) 3) ≡ c.has-3.result
unfolding turned
left c = sym c.has-3.ensures

back : (c : After-has-4)
    → let h = c.before.before.before.before.before.before in has (present h) (turned (heading h) 2) ≡ c.has-4.result
unfolding turned
back c = sym c.has-4.ensures

-- The last question, back or none.
last : (b : After-has-4) (x : Bool) → b.has-4.result ≡ x
    → let h = b.before.before.before.before.before.before in
    let v = cond x Turn.Back Turn.None in
    (led (heading h) v ≡ turn_of (present h) (heading h)) × (v ≡ turning_of (present h) (heading h))
last b x e =
    let l = b.before.before in
    let s = l.before.before in
    let h = s.before.before in
    by_tests _ _ (present-below h) (heading-below h) false false false x
    (right h ∙ s.if-has.false) (straight s ∙ l.if-has-2.false) (left l ∙ b.if-has-3.false) (back b ∙ e)

pub returns-then-present-gt15 : goal.returns-then-present-gt15
returns-then-present-gt15 c = no-turn _ _ (rw (le-ltb _ 16 c.if-present-gt15.true))

pub returns-then-heading-gt3 : goal.returns-then-heading-gt3
returns-then-heading-gt3 c = no-turn _ _ (rw (lt-ltb _ 16 (suc-le-suc c.if-present-gt15.false), le-ltb _ 4 c.if-heading-gt3.true))

pub returns-then-has : goal.returns-then-has
unfolding led turned
returns-then-has c =
    let h = c.before in
    by_tests _ _ (present-below h) (heading-below h) true _ _ _ (right h ∙ c.if-has.true) refl refl refl

pub returns-then-has-2 : goal.returns-then-has-2
unfolding led
returns-then-has-2 c =
    let s = c.before in
    let h = s.before.before in
    let (p, q) =
    by_tests _ _ (present-below h) (heading-below h) false true _ _
    (right h ∙ s.if-has.false) (straight s ∙ c.if-has-2.true) refl refl in
    (sym (turned_none _ (heading-below h)) ∙ p, q)

pub returns-then-has-3 : goal.returns-then-has-3
unfolding led turned
returns-then-has-3 c =
    let l = c.before in
    let s = l.before.before in
    let h = s.before.before in
    by_tests _ _ (present-below h) (heading-below h) false false true _
    (right h ∙ s.if-has.false) (straight s ∙ l.if-has-2.false) (left l ∙ c.if-has-3.true) refl

pub returns-then-has-4 : goal.returns-then-has-4
unfolding led turned
returns-then-has-4 c = last c.before true c.if-has-4.true

pub returns : goal.returns
unfolding led
returns c = last c.before false c.if-has-4.false
