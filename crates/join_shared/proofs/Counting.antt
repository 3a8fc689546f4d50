-- The slots of a list that pass one more test, counted along the list.
--   Counted q f n d c == c of the slots below d pass both tests, and d passes the test of the list or is the end
--   First q n d e   == e is the first slot from d on that passes the test q, or n where none of the n slots does
--   Listed q n f t  == the list of all slots that pass
use mathlib.Core.Path.{◌≡◌, refl, sym, ◌∙◌, ap}
use mathlib.Core.Bool.{Bool, true, false, ◌&&◌}
use mathlib.Core.List.{List}
use Prim.Native.Nat.{ℕ, ◌+◌, ◌-◌, ◌≤◌, ◌<◌, min}
use native.Mathlib.Numerals.{add-one}
use native.Mathlib.Omega.{arith}
use lib.ListN.{get_or}
use mir.Val.{bool_byte}
use Rattle.laws.specs.Table.{table, number, count}
use Rattle.laws.proofs.Count.{count_le, count_add, count_nothing}
use Rattle.laws.proofs.Table.{get_or_table, count_agree}
use Rattle.point_darts.specs.Dart.{mark}
use Rattle.paper.specs.Joining.{at, shared}
use Rattle.join_darts.specs.Listed.{bounds, Gap, First, Listed}
use Rattle.join_shared.proofs.Sharing.{away_apart}

-- a test as a number, which is at most 1
bool_byte_number : (b : Bool) → bool_byte b ≡ number b
bool_byte_number true = refl
bool_byte_number false = refl

pub bool_byte_most : (b : Bool) → bool_byte b ≡ min 1 (bool_byte b)
bool_byte_most true = refl
bool_byte_most false = refl

-- where none passes between two numbers, as many pass below either
count_gap : (f : ℕ → Bool) (i j : ℕ) → i ≤ j → Gap f i j → count j f ≡ count i f
count_gap f i j l g =
    let e : i + (j - i) ≡ j = omega arith in
    let a = rw e at (count_add f i (j - i)) in
    omega (arith, a, count_nothing (λ k. f (i + k)) (j - i) (λ k b. g (i + k) (omega arith) (omega arith)))

pub record Counted (q f : ℕ → Bool) (n d c : ℕ) : Type 0 where
  pub sum : c ≡ count d (λ k. q k && f k)
  pub here : d < n → q d ≡ true
  pub inside : d ≤ n

module _ (q f : ℕ → Bool) (n : ℕ) where
  abbrev both : ℕ → Bool
  both k = q k && f k

  counted_on : (i j c : ℕ) → c ≡ count i both → First q n i j → Counted q f n j c
  counted_on i j c e r =
      record {
        sum = e ∙ sym (count_gap both i j r.after (λ k a b. rw (r.gap k a b)));
        here = r.here;
        inside = r.inside;
      }

  module _ (e : ℕ) (l : List ℕ) (r : Listed q n e l) where
    pub counted_none : Counted q f n e 0
    unfolding count
    counted_none = counted_on 0 e 0 refl r.start

    pub counted_more : (d c : ℕ) (b : Bool) → Counted q f n d c → d < n → b ≡ f d → Counted q f n (get_or l d 0) (c + bool_byte b)
    unfolding count
    counted_more d c b p i e =
        let h = p.here i in
        let m : count (d + 1) both ≡ number (f d) + count d both = rw (add-one d, h) in
        counted_on (d + 1) (get_or l d 0) (c + bool_byte b)
        (omega (arith, p.sum, m, bool_byte_number b ∙ ap number e)) (r.steps d i h)

  pub counted_most : (d c : ℕ) → Counted q f n d c → c ≤ d
  counted_most d c p = omega (arith, p.sum, count_le both d)

  pub counted_all : (d c : ℕ) → Counted q f n d c → n ≤ d → c ≡ count n both
  counted_all d c p h = let e : d ≡ n = omega (arith, p.inside) in rw e at p.sum

-- In a list of the darts with side a or b, every dart with the sides a and b is counted.
pub shared_counted : (s : List ℕ) (o : ℕ → ℕ) (a b n : ℕ)
    → count n (λ d. bounds s a b d && shared s (at (table n o)) a b d) ≡ count n (shared s o a b)
unfolding shared at
shared_counted s o a b n = count_agree _ _ n (λ d l. rw (get_or_table n o d mark l) (go d (bounds s a b d) refl))
  where
    go : (d : ℕ) (c : Bool) → bounds s a b d ≡ c → (c && shared s o a b d) ≡ shared s o a b d
    go d true e = refl
    go d false e = sym (away_apart s o a b d e)
