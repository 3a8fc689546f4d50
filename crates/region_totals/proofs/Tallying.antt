-- The tally, point by point.
--   borne_in c o r   == the cells of the name r, in the tables c and o
--   lined_in m b o r == the lines of the name r, in the tables b and o
--   Tallied w m n f i c b o == the tables c, b and o have the cells and the lines of the points below i, by name
use mathlib.Core.Path.{◌≡◌, refl, sym, ap, ◌∙◌}
use mathlib.Core.Bool.{Bool, true, false, not, cond}
use mathlib.Core.List.{List, ◌++◌}
use Prim.Native.Nat.{ℕ, zero, suc, ◌+◌, ◌*◌, ◌≤◌, ◌<◌}
use native.Mathlib.Nat.{mul-suc, add-mul, not-suc-le-zero}
use native.Mathlib.Decide.{ℕ_discrete}
use native.Mathlib.Numerals.{add-one}
use native.Mathlib.Omega.{arith}
use lib.Dec.{eqb}
use lib.ListN.{length, get_or, set, take, drop, replicate, length-set, length-replicate, get_or-replicate}
use lib.Seq.{get_or-set_same, get_or-set_other}
use borrow.Author.Tests.{eq-eqb, ne_eqb}
use Rattle.laws.proofs.Count.{number_below}
use Rattle.sheet_size.specs.Size.{within}
use Rattle.point_darts.specs.Dart.{mark, points, slots}
use Rattle.paper_laws.proofs.Marks.{slots_most}
use Rattle.region_totals.specs.Tally.{name_at, lines_at, weighed, borne_in, lined_in, Small, Ruled, Tallied}

-- Sums are small.
pub lines_most : (w : ℕ) (f : List ℕ) (p : ℕ) → lines_at w f p ≤ 4
unfolding lines_at
lines_most w f p =
    omega (
      arith,
      number_below (not (eqb (name_at w f p) (get_or f (p + (w + 1)) 0))),
      number_below (not (eqb (name_at w f p) (get_or f (p + 1) 0))),
    )

weighed_most : (v k : ℕ → ℕ) (m : ℕ) → ((p : ℕ) → k p ≤ m) → (r i : ℕ) → weighed v k r i ≤ m * i
unfolding weighed
weighed_most v k m l r zero = omega arith
weighed_most v k m l r (suc i) = go (eqb (v i) r) (weighed_most v k m l r i)
  where
    go : (b : Bool) → weighed v k r i ≤ m * i → cond b (k i) 0 + weighed v k r i ≤ m * suc i
    go true e = rw (mul-suc m i) (omega (arith, l i))
    go false e = rw (mul-suc m i) (omega arith)

-- An amount more in an entry: what it and the others become.
entry_more : (t : List ℕ) (v a r : ℕ) → v < length t → get_or (set t v (get_or t v 0 + a)) r 0 ≡ cond (eqb v r) a 0 + get_or t r 0
entry_more t v a r l = go (ℕ_discrete v r)
  where
    go : Dec (v ≡ r) → get_or (set t v (get_or t v 0 + a)) r 0 ≡ cond (eqb v r) a 0 + get_or t r 0
    go (yes e) = rw (eq-eqb v r e, ← e, get_or-set_same t v (get_or t v 0 + a) 0 l) (omega arith)
    go (no e) = rw (ne_eqb v r e, get_or-set_other t v r (get_or t v 0 + a) 0 (λ q. e (sym q))) (omega arith)

-- two numbers with as much added to each
same_shifted : (m v r : ℕ) → eqb (m + v) (m + r) ≡ eqb v r
same_shifted m v r = go (ℕ_discrete v r)
  where
    go : Dec (v ≡ r) → eqb (m + v) (m + r) ≡ eqb v r
    go (yes e) = rw (eq-eqb v r e) (eq-eqb (m + v) (m + r) (ap (λ k. m + k) e))
    go (no e) = rw (ne_eqb v r e) (ne_eqb (m + v) (m + r) (λ q. e (omega arith)))

-- A point more. The name of its cell is below m.
module _ (w m n : ℕ) (f : List ℕ) (i : ℕ) (c b o : List ℕ) (t : Tallied w m n f i c b o) where
  abbrev x : ℕ
  x = name_at w f i

  module _ (v : name_at w f i < m) where
    -- the entries of the name have room for it
    pub room_cells : borne_in c o (name_at w f i) ≤ i
    room_cells = omega (arith, t.cells x v, weighed_most (name_at w f) (λ _. 1) 1 (λ p. omega arith) x i)

    pub room_lines : lined_in m b o (name_at w f i) ≤ 4 * i
    room_lines = omega (arith, t.borders x v, weighed_most (name_at w f) (lines_at w f) 4 (lines_most w f) x i)

    abbrev once : List ℕ
    once = set o x (get_or o x 0 + 1)

    past : (j : ℕ) → m ≤ j → get_or once j 0 ≡ get_or o j 0
    past j l = get_or-set_other o x j (get_or o x 0 + 1) 0 (λ q. omega arith)

    pub room_past : get_or (set o (name_at w f i) (get_or o (name_at w f i) 0 + 1)) (m + name_at w f i) 0 ≤ 4 * i
    room_past = rw (past (m + x) (omega arith)) (omega (arith, room_lines))

    module _ (k : ℕ) (g : k ≡ lines_at w f i) where
      -- an even one
      pub even_more : Tallied w m n f (i + 1) (set c (name_at w f i) (get_or c (name_at w f i) 0 + 1))
          (set b (name_at w f i) (get_or b (name_at w f i) 0 + k)) o
      unfolding weighed
      even_more =
          record {
            cells = λ r l.
                rw (add-one i) (omega (arith, entry_more c x 1 r (omega (arith, t.long_cells)), t.cells r l));
            borders = λ r l.
                rw (add-one i, ← g) (omega (arith, entry_more b x k r (omega (arith, t.long_borders)), t.borders r l));
            lines = t.lines;
            long_cells = length-set c x (get_or c x 0 + 1) ∙ t.long_cells;
            long_borders = length-set b x (get_or b x 0 + k) ∙ t.long_borders;
            long_odd = t.long_odd;
          }

      -- an odd one
      module _ (fits : m ≤ n) where
        abbrev twice : List ℕ
        twice = set once (m + x) (get_or once (m + x) 0 + k)

        once_long : length once ≡ 4 * n
        once_long = length-set o x (get_or o x 0 + 1) ∙ t.long_odd

        kept : (j : ℕ) → get_or twice (m + j) 0 ≡ cond (eqb x j) k 0 + get_or o (m + j) 0
        kept j =
            entry_more once (m + x) k (m + j) (omega (arith, once_long))
            ∙ rw (same_shifted m x j, past (m + j) (omega arith))

        borne : (r : ℕ) → r < m → get_or twice r 0 ≡ cond (eqb x r) 1 0 + get_or o r 0
        borne r l =
            get_or-set_other once (m + x) r (get_or once (m + x) 0 + k) 0 (λ q. omega arith)
            ∙ entry_more o x 1 r (omega (arith, t.long_odd))

        ruled : (p : ℕ) → get_or twice (2 * m + p) 0 ≡ get_or o (2 * m + p) 0
        ruled p =
            get_or-set_other once (m + x) (2 * m + p) (get_or once (m + x) 0 + k) 0 (λ q. omega arith)
            ∙ past (2 * m + p) (omega arith)

        pub odd_more : Tallied w m n f (i + 1) c b
            (set (set o (name_at w f i) (get_or o (name_at w f i) 0 + 1)) (m + name_at w f i)
            (get_or (set o (name_at w f i) (get_or o (name_at w f i) 0 + 1)) (m + name_at w f i) 0 + k))
        unfolding weighed
        odd_more =
            record {
              cells = λ r l. rw (add-one i) (omega (arith, borne r l, t.cells r l));
              borders = λ r l. rw (add-one i, ← g) (omega (arith, kept r, t.borders r l));
              lines = λ p l. ruled p ∙ t.lines p l;
              long_cells = t.long_cells;
              long_borders = t.long_borders;
              long_odd = length-set once (m + x) (get_or once (m + x) 0 + k) ∙ once_long;
            }

-- After all points no two entries of a name are too large to be added.
pub tallied_small : (w m n : ℕ) (f c b o : List ℕ) → Tallied w m n f n c b o → 4 * n < mark → Small c b o
tallied_small w m n f c b o t fits r l =
    rw t.long_cells (
      omega (
        arith,
        t.cells r (omega (arith, t.long_cells)),
        weighed_most (name_at w f) (λ _. 1) 1 (λ p. omega arith) r n,
      ),
      omega (
        arith,
        t.borders r (omega (arith, t.long_cells)),
        weighed_most (name_at w f) (lines_at w f) 4 (lines_most w f) r n,
      ),
    )

-- The lines of a point more.
module _ (w m n : ℕ) (f o : List ℕ) where
  pub ruled_more : (i k : ℕ) → i < n → m ≤ n → k ≡ lines_at w f i → Ruled w m n f i o
      → Ruled w m n f (i + 1) (set o (2 * m + i) k)
  ruled_more i k l b e r =
      record {
        clear = λ v h. get_or-set_other o (2 * m + i) v k 0 (λ q. omega arith) ∙ r.clear v h;
        lines = lines;
        long = length-set o (2 * m + i) k ∙ r.long;
      }
    where
      lines : (p : ℕ) → p < i + 1 → get_or (set o (2 * m + i) k) (2 * m + p) 0 ≡ lines_at w f p
      lines p h = go (ℕ_discrete p i)
        where
          go : Dec (p ≡ i) → get_or (set o (2 * m + i) k) (2 * m + p) 0 ≡ lines_at w f p
          go (yes q) = rw q (get_or-set_same o (2 * m + i) k 0 (omega (arith, r.long)) ∙ e)
          go (no q) = get_or-set_other o (2 * m + i) (2 * m + p) k 0 (λ u. omega arith) ∙ r.lines p (omega arith)

-- Tables that are cleared, in whole or at their front.
zeros_front : (k : ℕ) (u : List ℕ) (i : ℕ) → i < k → get_or (replicate k 0 ++ u) i 0 ≡ 0
zeros_front zero u i l = absurd (not-suc-le-zero l)
zeros_front (suc k) u zero l = refl
zeros_front (suc k) u (suc i) l = zeros_front k u i (omega arith)

pub ruled_none : (w m n : ℕ) (f l e : List ℕ) → length (e ++ drop (2 * m) l) ≡ 4 * n → length (take (2 * m) l) ≡ 2 * m
    → e ≡ replicate (length (take (2 * m) l)) 0 → Ruled w m n f 0 (e ++ drop (2 * m) l)
ruled_none w m n f l e k p q =
    record {
      clear = λ r b. rw (q, p) (zeros_front (2 * m) (drop (2 * m) l) r b);
      lines = λ p b. absurd (not-suc-le-zero b);
      long = k;
    }

pub tallied_none : (w m n : ℕ) (f c b o : List ℕ) → Ruled w m n f n o → c ≡ replicate m 0 → b ≡ replicate m 0
    → Tallied w m n f 0 c b o
unfolding weighed
tallied_none w m n f c b o r p q =
    record {
      cells = λ i l. rw (p, get_or-replicate {A = ℕ} m i 0 0 l, r.clear i (omega arith));
      borders = λ i l. rw (q, get_or-replicate {A = ℕ} m i 0 0 l, r.clear (m + i) (omega arith));
      lines = r.lines;
      long_cells = rw p (length-replicate m 0);
      long_borders = rw q (length-replicate m 0);
      long_odd = r.long;
    }

-- A sheet has fewer cells than points, and its slots are below the mark.
pub cells_points : (w h : ℕ) → w * h < points w h
unfolding points
cells_points w h = rw (add-one h, mul-suc (w + 1) h, add-mul w 1 h) (omega arith)

pub four_fit : (w h n : ℕ) → within w h ≡ true → n ≡ points w h → 4 * n < mark
unfolding slots mark
four_fit w h n z e = omega (arith, slots_most w h z)

pub four_slots : (w h n k : ℕ) → n ≡ points w h → k ≡ slots w h → k ≡ 4 * n
unfolding slots
four_slots w h n k e p = omega arith
