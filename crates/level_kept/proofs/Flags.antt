-- The points that are kept.
--   kinding         == what the point table says of each mask where no line is taken
--   stands i m t p  == the table t names point p at a large point below i
--   flags n m t i   == 1 at the points below n that are large or that t names at large points below i, and 0 at the others
use mathlib.Core.Path.{◌≡◌, refl, sym, ap, ◌∙◌}
use mathlib.Core.Bool.{Bool, true, false, not, ◌&&◌, ◌||◌, and-true, and-false}
use mathlib.Core.List.{List}
use mathlib.Core.Logic.{◌≢◌}
use Prim.Native.Nat.{ℕ, ◌+◌, ◌*◌, ◌-◌, ◌≤◌, ◌<◌}
use native.Mathlib.Numerals.{add-one}
use native.Mathlib.Decide.{ℕ_discrete, dec_lt}
use native.Mathlib.Nat.{le_refl, mul-le-mul_left}
use native.Mathlib.Omega.{arith}
use lib.Dec.{eqb, ltb, lit<}
use lib.ListN.{length, get_or, set, length-set}
use lib.Seq.{ext_get_or, get_or-set_same, get_or-set_other}
use borrow.Author.Tests.{eqb-true, eq-eqb, ne_eqb, le-ltb}
use Rattle.laws.specs.Table.{table, number, some}
use Rattle.laws.proofs.Table.{length_table, get_or_table, get_or_table_past, table_agree, none_some}
use Rattle.point_darts.specs.Dart.{mark, points, turned}
use Rattle.point_darts.specs.Point.{bits, half, has, degree, inline}
use Rattle.point_rules.specs.Turn.{without, impossible, kind, becomes, becomes_of, kinding}
use Rattle.point_rules.proofs.Turns.{each, each_at}
use Rattle.paper.specs.Joining.{at}
use Rattle.region_parents.specs.Tops.{Rising}
use Rattle.level_kept.specs.Keep.{kind_at, large, stands, anchored, settles, keeps}
use Rattle.table_entries.proofs.Entries.{at_entry}

-- Whether level 2 keeps a point, by the kind k of its mask.
module _ (k j : ℕ) (e : k ≡ j) where
  pub bend_large : k ≡ 3 → 1 ≡ number (eqb j 3 || eqb j 2)
  bend_large f = rw (eq-eqb j 3 (sym e ∙ f))

  pub bend_corner : k ≢ 3 → k ≡ 2 → 1 ≡ number (eqb j 3 || eqb j 2)
  bend_corner n f = rw (ne_eqb j 3 (λ q. n (e ∙ q)), eq-eqb j 2 (sym e ∙ f))

  pub bend_none : k ≢ 3 → k ≢ 2 → 0 ≡ number (eqb j 3 || eqb j 2)
  bend_none n m = rw (ne_eqb j 3 (λ q. n (e ∙ q)), ne_eqb j 2 (λ q. m (e ∙ q)))

-- The kind of a mask; no mask is large or a corner that is not among the sixteen.
module _ (m j : ℕ) (small : eqb mark j ≡ eqb 4 j) where
  kind_past : 16 ≤ m → eqb (at kinding m) j ≡ eqb (becomes_of m 0) j
  unfolding kinding at becomes_of
  kind_past h = rw (get_or_table_past 16 (λ i. becomes_of i 0) m mark h, le-ltb m 16 h) small

  kind_test : eqb (at kinding m) j ≡ eqb (becomes_of m 0) j
  unfolding kinding at
  kind_test = go (dec_lt m 16)
    where
      go : Dec (m < 16) → eqb (at kinding m) j ≡ eqb (becomes_of m 0) j
      go (yes h) = rw (get_or_table 16 (λ i. becomes_of i 0) m mark h)
      go (no h) = kind_past (omega arith)

pub kind_large : (m : ℕ) → eqb (at kinding m) 3 ≡ eqb (becomes_of m 0) 3
unfolding mark
kind_large m = kind_test m 3 refl

pub kind_corner : (m : ℕ) → eqb (at kinding m) 2 ≡ eqb (becomes_of m 0) 2
unfolding mark
kind_corner m = kind_test m 2 refl

-- the entry of level 2
pub bend_entry : (ks m : List ℕ) (p l v : ℕ) → ks ≡ kinding → l ≡ at m p → v ≡ number (eqb (at ks l) 3 || eqb (at ks l) 2)
    → v ≡ number (large m p || eqb (kind_at m p) 2)
unfolding large kind_at
bend_entry ks m p l v q e f = rw (← e, ← (kind_large l), ← (kind_corner l), ← q) f

-- a flag of level 3, from the comparison
pub large_entry : (m : List ℕ) (p l v : ℕ) → l ≡ at m p → v ≡ number (eqb (becomes_of l 0) 3) → v ≡ number (large m p)
unfolding large kind_at
large_entry m p l v e i = rw (← e) i

-- the entry of level 3
pub settle_entry : (m t k : List ℕ) (p l u f v : ℕ) → l ≡ at m p → u ≡ at t p → f ≡ at k p
    → v ≡ number (eqb (becomes_of l 0) 3 || (not (eqb l 0) && eqb u p && not (eqb f 1))) → v ≡ settles m t k p
unfolding settles large kind_at
settle_entry m t k p l u f v e g h i = rw (← e, ← g, ← h) i

pub number_once : (a b : Bool) → number a ≡ number b → a ≡ b
number_once true true e = refl
number_once true false e = absurd (omega arith)
number_once false true e = absurd (omega arith)
number_once false false e = refl

-- Masks of three or four lines, as they are compared.
past_small : (m : ℕ) → 16 ≤ m → eqb (becomes_of m 0) 3 ≡ false
unfolding becomes_of
past_small m h = rw (le-ltb m 16 h)

abbrev compared : ℕ → Bool
compared m = eqb m 7 || eqb m 11 || ltb 12 m && ltb m 16

all_compared : each 1 1 (λ m j k. eqb (number (compared m)) (number (eqb (becomes_of m 0) 3))) ≡ true
unfolding becomes_of becomes impossible kind without degree inline bits has half turned
all_compared = refl

pub large_compared : (m : ℕ) → compared m ≡ eqb (becomes_of m 0) 3
large_compared m = go (dec_lt m 16)
  where
    go : Dec (m < 16) → compared m ≡ eqb (becomes_of m 0) 3
    go (yes h) =
        number_once _ _
        (eqb-true _ _
        (each_at 1 1 (λ m j k. eqb (number (compared m)) (number (eqb (becomes_of m 0) 3))) all_compared m h 0 0 (lit< tt) (lit< tt)))
    go (no h) =
        let l : 16 ≤ m = omega arith in
        rw (ne_eqb m 7 (λ e. omega arith), ne_eqb m 11 (λ e. omega arith), le-ltb m 16 l) (and-false (ltb 12 m)) ∙ sym (past_small m l)

or_false : (a : Bool) → (a || false) ≡ a
or_false true = refl
or_false false = refl

or_true : (a : Bool) → (a || true) ≡ true
or_true true = refl
or_true false = refl

-- Flags. The way back from place i to t, where v is 1, and none where it is 0.
pub back_le : (i t v : ℕ) → v ≤ 1 → (i - t) * v ≤ i
back_le i t v e = omega (arith, mul-le-mul_left (i - t) e)

abbrev pub flags : ℕ → List ℕ → List ℕ → ℕ → List ℕ
flags n m t i = table n (λ p. number (large m p || stands i m t p))

module _ (n : ℕ) (m t : List ℕ) where
  -- at first the large points alone
  pub flags_none : table n (λ p. number (large m p)) ≡ flags n m t 0
  unfolding stands some
  flags_none =
      table_agree n (λ p. number (large m p)) (λ p. number (large m p || stands 0 m t p))
      (λ p b. ap number (sym (or_false (large m p))))

  flag_read : (i p d : ℕ) → p < n → get_or (flags n m t i) p d ≡ number (large m p || stands i m t p)
  flag_read i p d b = get_or_table n (λ p. number (large m p || stands i m t p)) p d b

  pub flags_long : (i : ℕ) → length (flags n m t i) ≡ n
  flags_long i = length_table n (λ p. number (large m p || stands i m t p))

  stands_off : (i p : ℕ) → large m i ≡ false → stands i m t p ≡ stands (i + 1) m t p
  unfolding stands some
  stands_off i p e = rw (add-one i, e, and-false (eqb (at t i) p))

  stands_on : (i p : ℕ) → large m i ≡ true → stands (i + 1) m t p ≡ (eqb (at t i) p || stands i m t p)
  unfolding stands some
  stands_on i p e = rw (add-one i, e, and-true (eqb (at t i) p))

  -- a point more that is not large
  flags_same : (i : ℕ) → large m i ≡ false → flags n m t i ≡ flags n m t (i + 1)
  flags_same i e =
      table_agree n (λ p. number (large m p || stands i m t p)) (λ p. number (large m p || stands (i + 1) m t p))
      (λ p b. ap (λ s. number (large m p || s)) (stands_off i p e))

  -- a point more that is large
  flag_at : (i p : ℕ) → p < n → large m i ≡ true → Dec (p ≡ at t i)
      → get_or (set (flags n m t i) (at t i) 1) p 0 ≡ number (large m p || stands (i + 1) m t p)
  flag_at i p b f (yes q) =
      rw (stands_on i p f, ← q, eq-eqb p p refl, or_true (large m p))
      (get_or-set_same (flags n m t i) p 1 0 (rw (flags_long i) b))
  flag_at i p b f (no q) =
      rw (stands_on i p f, ne_eqb (at t i) p (λ r. q (sym r)))
      (get_or-set_other (flags n m t i) (at t i) p 1 0 q ∙ flag_read i p 0 b)

  flags_more : (i u : ℕ) → u ≡ at t i → large m i ≡ true → set (flags n m t i) u 1 ≡ flags n m t (i + 1)
  flags_more i u g f =
      rw g
      (ext_get_or 0 (set (flags n m t i) (at t i) 1) (flags n m t (i + 1))
      (length-set (flags n m t i) (at t i) 1 ∙ flags_long i ∙ sym (flags_long (i + 1)))
      (λ p b.
      let d : p < n = rw (length-set (flags n m t i) (at t i) 1, flags_long i) at b in
      flag_at i p d f (ℕ_discrete p (at t i)) ∙ sym (flag_read (i + 1) p 0 d)))

  -- where no top is after its point
  module _ (rise : Rising t) (long : length t ≡ n) where
    -- no other point's flag stands at a place that comes later
    none_yet : (i p : ℕ) → i ≤ p → p < n → stands i m t p ≡ false
    unfolding stands
    none_yet i p a b =
        none_some (λ q. eqb (at t q) p && large m q) i
        (λ q l.
        ap (λ e. e && large m q)
        (ne_eqb (at t q) p (λ e. omega (arith, rise.up q, at_entry t q (omega (arith, long))))))

    -- so a point at hand, or after it, has its own flag: 1 where it is large, else 0
    pub flag_own : (k : List ℕ) (i p : ℕ) → k ≡ flags n m t i → i ≤ p → p < n → get_or k p 0 ≡ number (large m p)
    flag_own k i p f a b =
        ap (λ l. get_or l p 0) f
        ∙ flag_read i p 0 b
        ∙ ap (λ s. number (large m p || s)) (none_yet i p a b)
        ∙ ap number (or_false (large m p))

    -- a point more
    module _ (i : ℕ) (b : i < n) where
      set_own : (v : ℕ) → v ≡ number (large m i) → set (flags n m t i) i v ≡ flags n m t i
      set_own v e =
          ext_get_or 0 (set (flags n m t i) i v) (flags n m t i) (length-set (flags n m t i) i v) (λ p _. go p (ℕ_discrete p i))
        where
          go : (p : ℕ) → Dec (p ≡ i) → get_or (set (flags n m t i) i v) p 0 ≡ get_or (flags n m t i) p 0
          go p (yes q) =
              rw q
              (get_or-set_same (flags n m t i) i v 0 (rw (flags_long i) b)
              ∙ e
              ∙ sym (flag_own (flags n m t i) i i refl (le_refl i) b))
          go p (no q) = get_or-set_other (flags n m t i) i p v 0 q

      -- its flag goes to its top where it is 1, and stays where it is 0
      pub flags_next : (k : List ℕ) (u v : ℕ) → k ≡ flags n m t i → v ≡ number (large m i) → u ≡ i - (i - get_or t i 0) * v
          → set k u v ≡ flags n m t (i + 1)
      flags_next k u v f p q = go (large m i) refl
        where
          go : (r : Bool) → large m i ≡ r → set k u v ≡ flags n m t (i + 1)
          go true r =
              let one : v ≡ 1 = p ∙ ap number r in
              let back : u ≡ i - (i - get_or t i 0) * 1 = rw one at q in
              let top : u ≡ at t i = omega (arith, back, rise.up i, at_entry t i (omega (arith, long))) in
              rw (f, one) (flags_more i u top r)
          go false r =
              let none : v ≡ 0 = p ∙ ap number r in
              let back : u ≡ i - (i - get_or t i 0) * 0 = rw none at q in
              let own : u ≡ i = omega (arith, back) in
              rw (f, own) (set_own v p ∙ flags_same i r)

-- With all flags set, what settles is what level 3 keeps.
number_test : (b : Bool) → eqb (number b) 1 ≡ b
number_test true = refl
number_test false = refl

-- a flag of a large point is told apart by the point itself
apart : (a b c d : Bool) → (a || (b && c && not (a || d))) ≡ (a || (b && c && not d))
apart true b c d = refl
apart false b c d = refl

module _ (w h : ℕ) (m t : List ℕ) where
  settled_at : (n p : ℕ) → p < n → eqb (at (flags n m t n) p) 1 ≡ (large m p || stands n m t p)
  unfolding at
  settled_at n p b = rw (flag_read n m t n p mark b) (number_test (large m p || stands n m t p))

  pub settled_keeps : (n : ℕ) (k u : List ℕ) → n ≡ points w h → k ≡ flags n m t n → u ≡ table n (settles m t k)
      → u ≡ keeps w h m t
  unfolding keeps settles anchored
  settled_keeps n k u q e f =
      f
      ∙ table_agree n (settles m t k) (λ p. number (large m p || anchored n m t p))
      (λ p b. rw (e, settled_at n p b) (ap number (apart (large m p) (not (eqb (at m p) 0)) (eqb (at t p) p) (stands n m t p))))
      ∙ rw q
