-- Step 3: a point that two darts alone leave, of two different edges.
--   splice l u v    == the links without darts u and v, where they are of two different edges
--   smooth l p      == the links without point p, where two darts of two different edges alone leave it
use mathlib.Core.Path.{◌≡◌, refl, sym, ◌∙◌, ap}
use mathlib.Core.Bool.{Bool, true, false}
use mathlib.Core.List.{List}
use Prim.Native.Nat.{ℕ, zero, suc}
use lib.Dec.{eqb}
use lib.ListN.{set}
use borrow.Author.Tests.{eq-eqb, ne_eqb, eqb-true, eqb-false}
use Rattle.point_darts.specs.Dart.{mark, dart}
use Rattle.point_darts.specs.Point.{degree}
use Rattle.paper.specs.Level.{mask}
use Rattle.paper.specs.Joining.{Links, at, on, low, high, spliced, smooth, smooths}
use Rattle.join_darts.specs.Links.{links, splice}

-- two tables, each with its equation
pub links_path : (l : Links) (n o : List ℕ) → n ≡ l.next → o ≡ l.other → links n o ≡ l
links_path l n o e f = λ i. record { next = e i; other = f i }

-- the two stores into each table
pub splice_nexts : (n o t : List ℕ) (u v x y a b : ℕ) → a ≡ at n v → b ≡ at n u → t ≡ set (set n x a) y b
    → set (set t u mark) v mark ≡ (spliced (links n o) u v x y).next
unfolding spliced
splice_nexts n o t u v x y a b e f g = rw (g, e, f)

pub splice_others : (n o t : List ℕ) (u v x y : ℕ) → t ≡ set (set o x y) y x
    → set (set t u mark) v mark ≡ (spliced (links n o) u v x y).other
unfolding spliced
splice_others n o t u v x y g = rw g

module _ (l : Links) (u v : ℕ) where
  pub splice_loop : (x : ℕ) → x ≡ at l.other u → x ≡ v → l ≡ splice l u v
  unfolding splice
  splice_loop x e f = rw (eq-eqb (at l.other u) v (sym e ∙ f), splice)

  pub splice_edges : (x y : ℕ) → x ≡ at l.other u → (x ≡ v → ⊥) → y ≡ at l.other v
      → spliced l u v x y ≡ splice l u v
  unfolding splice
  splice_edges x y e n f = rw (e, f, ne_eqb (at l.other u) v (λ q. n (e ∙ q)), splice)

-- a point with the lines m is treated by whether they are two
module _ (l : Links) (p m : ℕ) (q : m ≡ mask (on l.next) p) (c : Bool) (s : c ≡ eqb (degree m) 2) where
  abbrev lines : ℕ
  lines = mask (on l.next) p

  counted : c ≡ eqb (degree lines) 2
  counted = s ∙ ap (λ i. eqb (degree i) 2) q

  pub smooth_other : c ≡ false → l ≡ smooth l p
  unfolding smooth
  smooth_other n = rw (sym counted ∙ n, smooth)

  pub smooth_two : c ≡ true → (u v : ℕ) → u ≡ dart p (low m) → v ≡ dart p (high m) → splice l u v ≡ smooth l p
  unfolding smooth
  smooth_two e u v f g = rw (f, g, q) (go (eqb x y) refl)
    where
      x : ℕ
      x = at l.other (dart p (low lines))

      y : ℕ
      y = dart p (high lines)

      two : eqb (degree lines) 2 ≡ true
      two = sym counted ∙ e

      go : (b : Bool) → eqb x y ≡ b → splice l (dart p (low lines)) y ≡ smooth l p
      go true r = sym (splice_loop l (dart p (low lines)) y x refl (eqb-true x y r)) ∙ rw (two, r, smooth)
      go false r =
          sym (splice_edges l (dart p (low lines)) y x (at l.other y) refl (eqb-false x y r) refl)
          ∙ rw (two, r, smooth)

pub smooths_none : (p : ℕ) (l : Links) → smooths zero p l ≡ l
unfolding smooths
smooths_none p l = refl

pub smooths_more : (n p : ℕ) (l : Links) → smooths (suc n) p l ≡ smooths n (suc p) (smooth l p)
unfolding smooths
smooths_more n p l = refl
