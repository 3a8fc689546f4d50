-- The totals after a join, from those of the names n to those of the names with a and b lowered to the smaller.
--   added_totals    == adding up two entries of a table of totals makes the table after a join
--   added_cells     == so it is with the cells
--   added_borders   == and with the border lines, less twice those that the two share
use mathlib.Core.Path.{◌≡◌, refl, sym, ap, ◌∙◌}
use mathlib.Core.Bool.{Bool, true, false, not, ◌&&◌, ◌||◌, true≢false, and-false}
use mathlib.Core.List.{List, map}
use mathlib.Core.Logic.{◌≢◌, inl, inr}
use Prim.Native.Nat.{ℕ, zero, suc, ◌+◌, ◌*◌, ◌-◌, ◌<◌, ◌≤◌, min, max}
use native.Mathlib.Decide.{ℕ_discrete}
use native.Mathlib.Omega.{arith}
use lib.Dec.{eqb}
use lib.ListN.{length, set, length-set}
use lib.Seq.{get_or-set_same, get_or-set_other}
use borrow.Author.Tests.{eq-eqb, ne_eqb, eqb-true}
use Rattle.laws.specs.Least.{lower}
use Rattle.laws.specs.Table.{number, count}
use Rattle.laws.proofs.Count.{Into, count_le, count_none, count_nothing, count_sums, count_matched}
use Rattle.laws.proofs.Less.{eqb_comm}
use Rattle.laws.proofs.Least.{lower_of, lower_other, get_or_lower}
use Rattle.laws.proofs.Test.{and_true, and_left, and_right}
use Rattle.laws.proofs.Table.{length_table, get_or_table, count_agree}
use Rattle.sheet_size.specs.Size.{within}
use Rattle.point_darts.specs.Dart.{mark, slots, reversal}
use Rattle.point_darts.proofs.Darts.{reversal_twice}
use Rattle.paper.specs.Name.{label}
use Rattle.paper.specs.Level.{side, border, plain, level}
use Rattle.paper.specs.Drawing.{drawn}
use Rattle.paper.specs.Joining.{at, between, shared, shared_lines, added}
use Rattle.paper.specs.Total.{cells_of, borders_of, total, totals}
use Rattle.paper_laws.proofs.Fewer.{fewer_side, fewer_across, fewer_lines}
use Rattle.paper_laws.proofs.Marks.{same_at, at_free, cells_slots, slots_most}
use Rattle.paper_laws.proofs.Sheet.{across, side_reversal, border_sides, border_differs, border_line, border_back, border_below}
use Rattle.paper_laws.proofs.Drawn.{drawn_side1}

-- Totals fit 16 bits, also two of them added up.
module _ (w h : ℕ) (n : List ℕ) (r : ℕ) where
  pub cells_most : cells_of w h n r ≤ w * h
  unfolding cells_of
  cells_most = count_le (λ i. eqb (label n i) r) (w * h)

  pub borders_most : borders_of w h n r ≤ slots w h
  unfolding borders_of
  borders_most = count_le (λ d. border w h n d && eqb (side w h n d) r) (slots w h)

  pub totals_fit : within w h ≡ true → (cells_of w h n r + cells_of w h n r < mark) × (borders_of w h n r + borders_of w h n r < mark)
  unfolding mark
  totals_fit e =
      let s = slots_most w h e in
      (omega (arith, cells_most, cells_slots w h), omega (arith, borders_most))

-- Entries of a table of totals.
pub total_used : (c f : ℕ → ℕ) (r : ℕ) → c r ≢ 0 → total c f r ≡ f r
unfolding total
total_used c f zero e = refl
total_used c f (suc i) e = rw (ne_eqb (c (suc i)) 0 e)

pub total_unused : (c f : ℕ → ℕ) (r : ℕ) → r ≢ 0 → c r ≡ 0 → total c f r ≡ mark
unfolding total
total_unused c f zero z e = absurd (z refl)
total_unused c f (suc i) z e = rw (eq-eqb (c (suc i)) 0 e)

pub total_same : (c f d g : ℕ → ℕ) (r : ℕ) → c r ≡ d r → f r ≡ g r → total c f r ≡ total d g r
unfolding total
total_same c f d g zero p q = q
total_same c f d g (suc i) p q = rw (p, q)

module _ (w h : ℕ) (c f : ℕ → ℕ) where
  pub length_totals : length (totals w h c f) ≡ w * h + 1
  unfolding totals
  length_totals = length_table (w * h + 1) (total c f)

  pub at_totals : (r : ℕ) → r ≤ w * h → at (totals w h c f) r ≡ total c f r
  unfolding totals at
  at_totals r l = get_or_table (w * h + 1) (total c f) r mark (omega arith)

-- Another number than two is neither the smaller nor the larger of them, and one that is neither is another.
other_low : (a b v : ℕ) → v ≢ a → v ≢ b → v ≢ min a b
other_low a b v p q e = omega arith

other_high : (a b v : ℕ) → v ≢ a → v ≢ b → v ≢ max a b
other_high a b v p q e = omega arith

other_left : (a b v : ℕ) → v ≢ min a b → v ≢ max a b → v ≢ a
other_left a b v p q e = omega arith

other_right : (a b v : ℕ) → v ≢ min a b → v ≢ max a b → v ≢ b
other_right a b v p q e = omega arith

low_high : (a b : ℕ) → a ≢ b → min a b ≢ max a b
low_high a b n e = omega arith

or_none : (t : Bool) → number (t || false) + 0 ≡ number t + 0
or_none true = refl
or_none false = refl

-- What becomes of two names that differ, neither the outside's.
module _ (a b : ℕ) (apart : a ≢ b) (za : a ≢ 0) (zb : b ≢ 0) where
  module _ (v : ℕ) where
    -- a name lowered is the smaller exactly where it was one of the two
    lowered_low : number (eqb v a) + number (eqb v b) ≡ number (eqb (lower a b v) (min a b)) + number false
    lowered_low = go (ℕ_discrete v a) (ℕ_discrete v b)
      where
        go : Dec (v ≡ a) → Dec (v ≡ b) → number (eqb v a) + number (eqb v b) ≡ number (eqb (lower a b v) (min a b)) + number false
        go (yes p) _ =
            rw (eq-eqb v a p, ne_eqb v b (λ q. apart (sym p ∙ q)), eq-eqb (lower a b v) (min a b) (lower_of a b v (inl p)))
        go (no p) (yes q) = rw (ne_eqb v a p, eq-eqb v b q, eq-eqb (lower a b v) (min a b) (lower_of a b v (inr q)))
        go (no p) (no q) =
            rw (
              ne_eqb v a p,
              ne_eqb v b q,
              lower_other a b v p q,
              ne_eqb v (min a b) (other_low a b v p q),
            )

    lowered_high : eqb (lower a b v) (max a b) ≡ false
    lowered_high = go (ℕ_discrete v a) (ℕ_discrete v b)
      where
        go : Dec (v ≡ a) → Dec (v ≡ b) → eqb (lower a b v) (max a b) ≡ false
        go (yes p) _ = rw (lower_of a b v (inl p)) (ne_eqb (min a b) (max a b) (low_high a b apart))
        go (no p) (yes q) = rw (lower_of a b v (inr q)) (ne_eqb (min a b) (max a b) (low_high a b apart))
        go (no p) (no q) = rw (lower_other a b v p q) (ne_eqb v (max a b) (other_high a b v p q))

    pub lowered_other : (r : ℕ) → r ≢ a → r ≢ b → eqb (lower a b v) r ≡ eqb v r
    lowered_other r p q = go (ℕ_discrete v a) (ℕ_discrete v b)
      where
        low : r ≢ min a b
        low = other_low a b r p q

        go : Dec (v ≡ a) → Dec (v ≡ b) → eqb (lower a b v) r ≡ eqb v r
        go (yes x) _ = rw (lower_of a b v (inl x), ne_eqb v r (λ e. p (sym e ∙ x))) (ne_eqb (min a b) r (λ e. low (sym e)))
        go (no x) (yes y) = rw (lower_of a b v (inr y), ne_eqb v r (λ e. q (sym e ∙ y))) (ne_eqb (min a b) r (λ e. low (sym e)))
        go (no x) (no y) = rw (lower_other a b v x y)

  -- Two entries of a table of totals, added up: what they and all others become.
  module _ (w h k : ℕ) (c f d g : ℕ → ℕ) (ia : a ≤ w * h) (ib : b ≤ w * h) (ua : c a ≢ 0) (ub : c b ≢ 0) (low : d (min a b) ≢ 0)
      (sum : f a + f b - k ≡ g (min a b)) (high : d (max a b) ≡ 0)
      (rest : (r : ℕ) → r ≢ a → r ≢ b → (c r ≡ d r) × (f r ≡ g r)) where
    abbrev t : List ℕ
    t = totals w h c f

    abbrev once : List ℕ
    once = set t (min a b) (at t a + at t b - k)

    entry : (r : ℕ) → r ≤ w * h → at (set once (max a b) mark) r ≡ total d g r
    unfolding at
    entry r l = go (ℕ_discrete r (max a b)) (ℕ_discrete r (min a b))
      where
        go : Dec (r ≡ max a b) → Dec (r ≡ min a b) → at (set once (max a b) mark) r ≡ total d g r
        go (yes p) _ =
            rw p
            (get_or-set_same once (max a b) mark mark (rw (length-set t (min a b) _, length_totals w h c f) (omega arith))
            ∙ sym (total_unused d g (max a b) (λ z. omega arith) high))
        go (no p) (yes q) =
            rw q
            (get_or-set_other once (max a b) (min a b) mark mark (low_high a b apart)
            ∙ get_or-set_same t (min a b) (at t a + at t b - k) mark (rw (length_totals w h c f) (omega arith))
            ∙ rw (at_totals w h c f a ia, at_totals w h c f b ib, total_used c f a ua, total_used c f b ub) sum
            ∙ sym (total_used d g (min a b) low))
        go (no p) (no q) =
            let (x, y) = rest r (other_left a b r q p) (other_right a b r q p) in
            get_or-set_other once (max a b) r mark mark p
            ∙ get_or-set_other t (min a b) r (at t a + at t b - k) mark q
            ∙ at_totals w h c f r l
            ∙ total_same c f d g r x y

    pub added_totals : added a b k (totals w h c f) ≡ totals w h d g
    unfolding added
    added_totals =
        same_at (w * h + 1) (set once (max a b) mark) (totals w h d g)
        (length-set once (max a b) mark ∙ length-set t (min a b) _ ∙ length_totals w h c f)
        (length_totals w h d g)
        (λ r l. entry r (omega arith) ∙ sym (at_totals w h d g r (omega arith)))

  -- The cells and the border lines of the names n.
  module _ (w h : ℕ) (n : List ℕ) where
    abbrev n' : List ℕ
    n' = map (lower a b) n

    outside : lower a b 0 ≡ 0
    outside = lower_other a b 0 (λ e. za (sym e)) (λ e. zb (sym e))

    cells_low : cells_of w h n a + cells_of w h n b ≡ cells_of w h n' (min a b)
    unfolding cells_of label
    cells_low =
        count_sums (λ i. eqb (label n i) a) (λ i. eqb (label n i) b) (λ i. eqb (label n' i) (min a b)) (λ i. false) (w * h)
        (λ i l. rw (get_or_lower a b n i) (lowered_low (label n i)))
        ∙ rw (count_none (w * h)) (omega arith)

    cells_high : cells_of w h n' (max a b) ≡ 0
    unfolding cells_of label
    cells_high =
        count_nothing (λ i. eqb (label n' i) (max a b)) (w * h) (λ i l. rw (get_or_lower a b n i) (lowered_high (label n i)))

    cells_other : (r : ℕ) → r ≢ a → r ≢ b → cells_of w h n r ≡ cells_of w h n' r
    unfolding cells_of label
    cells_other r p q =
        count_agree (λ i. eqb (label n i) r) (λ i. eqb (label n' i) r) (w * h)
        (λ i l. rw (get_or_lower a b n i) (sym (lowered_other (label n i) r p q)))

    -- of a dart with the sides x and y that differ: it has side a or b exactly where it is left and has the smaller, or is taken
    sides_low : (x y : ℕ) → x ≢ y
        → number (eqb x a) + number (eqb x b)
        ≡ number (not (eqb (lower a b x) (lower a b y)) && eqb (lower a b x) (min a b)) + number (between a b x y)
    unfolding between
    sides_low x y e = go (ℕ_discrete x a) (ℕ_discrete x b) (ℕ_discrete y a) (ℕ_discrete y b)
      where
        go : Dec (x ≡ a) → Dec (x ≡ b) → Dec (y ≡ a) → Dec (y ≡ b)
            → number (eqb x a) + number (eqb x b)
            ≡ number (not (eqb (lower a b x) (lower a b y)) && eqb (lower a b x) (min a b)) + number (between a b x y)
        go (yes p) _ _ (yes s) =
            rw (
              eq-eqb x a p,
              ne_eqb x b (λ q. apart (sym p ∙ q)),
              lower_of a b x (inl p),
              lower_of a b y (inr s),
              eq-eqb (min a b) (min a b) refl,
              eq-eqb y b s,
            )
        go (yes p) _ _ (no s) =
            rw (
              eq-eqb x a p,
              ne_eqb x b (λ q. apart (sym p ∙ q)),
              lower_of a b x (inl p),
              lower_other a b y (λ q. e (p ∙ sym q)) s,
              eq-eqb (min a b) (min a b) refl,
              ne_eqb (min a b) y (λ q. other_low a b y (λ u. e (p ∙ sym u)) s (sym q)),
              ne_eqb y b s,
            )
        go (no p) (yes q) (yes s) _ =
            rw (
              ne_eqb x a p,
              eq-eqb x b q,
              lower_of a b x (inr q),
              lower_of a b y (inl s),
              eq-eqb (min a b) (min a b) refl,
              eq-eqb y a s,
            )
        go (no p) (yes q) (no s) _ =
            rw (
              ne_eqb x a p,
              eq-eqb x b q,
              lower_of a b x (inr q),
              lower_other a b y s (λ u. e (q ∙ sym u)),
              eq-eqb (min a b) (min a b) refl,
              ne_eqb (min a b) y (λ u. other_low a b y s (λ v. e (q ∙ sym v)) (sym u)),
              ne_eqb y a s,
            )
        go (no p) (no q) _ _ =
            rw (
              ne_eqb x a p,
              ne_eqb x b q,
              lower_other a b x p q,
              ne_eqb x (min a b) (other_low a b x p q),
              and-false (not (eqb x (lower a b y))),
            )

    -- a dart of another region stays
    sides_other : (x y r : ℕ) → r ≢ a → r ≢ b
        → (not (eqb x y) && eqb x r) ≡ (not (eqb (lower a b x) (lower a b y)) && eqb (lower a b x) r)
    sides_other x y r p q = go (ℕ_discrete x r)
      where
        go : Dec (x ≡ r) → (not (eqb x y) && eqb x r) ≡ (not (eqb (lower a b x) (lower a b y)) && eqb (lower a b x) r)
        go (yes e) =
            rw (
              e,
              lower_other a b r p q,
              eqb_comm r (lower a b y),
              lowered_other y r p q,
              eqb_comm r y,
            )
        go (no e) =
            rw (
              lowered_other x r p q,
              ne_eqb x r e,
              and-false (not (eqb x y)),
              and-false (not (eqb (lower a b x) (lower a b y))),
            )

    -- no line comes
    gone : (d : ℕ) → border w h n d ≡ false → border w h n' d ≡ false
    gone d e = go (border w h n' d) refl
      where
        go : (o : Bool) → border w h n' d ≡ o → o ≡ false
        go true q = absurd (true≢false (sym (fewer_lines w h n (lower a b) outside d q) ∙ e))
        go false q = refl

    border_low : (d : ℕ) → border w h n' d ≡ not (eqb (lower a b (side w h n d)) (lower a b (across w h n d)))
    border_low d = border_sides w h n' d ∙ rw (fewer_side w h n (lower a b) outside d, fewer_across w h n (lower a b) outside d)

    borders_other : (r : ℕ) → r ≢ a → r ≢ b → borders_of w h n r ≡ borders_of w h n' r
    unfolding borders_of
    borders_other r p q =
        count_agree (λ d. border w h n d && eqb (side w h n d) r) (λ d. border w h n' d && eqb (side w h n' d) r) (slots w h)
        (λ d l.
        rw (border_low d, border_sides w h n d, fewer_side w h n (lower a b) outside d)
        (sides_other (side w h n d) (across w h n d) r p q))

    module _ (sa : a < mark) (sb : b < mark) where
      unmarked : (d : ℕ) → border w h n d ≡ false → shared (drawn w h n).side1 (reversal w) a b d ≡ false
      unfolding shared between drawn level plain
      unmarked d e =
          rw (
            at_free w h (border w h n) (side w h n) (border_below w h n) d e,
            ne_eqb mark a (λ q. omega arith),
            ne_eqb mark b (λ q. omega arith),
          )

      dart_low : (d : ℕ) → number (border w h n d && eqb (side w h n d) a) + number (border w h n d && eqb (side w h n d) b)
          ≡ number (border w h n' d && eqb (side w h n' d) (min a b))
          + number (shared (drawn w h n).side1 (reversal w) a b d)
      unfolding shared
      dart_low d = go (border w h n d) refl
        where
          go : (o : Bool) → border w h n d ≡ o
              → number (o && eqb (side w h n d) a) + number (o && eqb (side w h n d) b)
              ≡ number (border w h n' d && eqb (side w h n' d) (min a b))
              + number (shared (drawn w h n).side1 (reversal w) a b d)
          go true e =
              rw (
                border_low d,
                fewer_side w h n (lower a b) outside d,
                drawn_side1 w h n d e,
                drawn_side1 w h n (reversal w d) (border_back w h n d e),
                side_reversal w h n d (border_line w h n d e),
              )
              (sides_low (side w h n d) (across w h n d) (border_differs w h n d e))
          go false e = rw (gone d e, unmarked d e)

      borders_taken : borders_of w h n a + borders_of w h n b
          ≡ borders_of w h n' (min a b) + count (slots w h) (shared (drawn w h n).side1 (reversal w) a b)
      unfolding borders_of
      borders_taken =
          count_sums (λ d. border w h n d && eqb (side w h n d) a) (λ d. border w h n d && eqb (side w h n d) b)
          (λ d. border w h n' d && eqb (side w h n' d) (min a b)) (shared (drawn w h n).side1 (reversal w) a b) (slots w h)
          (λ d l. dart_low d)

      -- each line that the two share has a dart with a on its right hand and one with b
      abbrev hands : ℕ → ℕ → ℕ → Bool
      hands x y d = eqb (at (drawn w h n).side1 d) x && eqb (at (drawn w h n).side1 (reversal w d)) y

      sided : (x : ℕ) → x < mark → (d : ℕ) → at (drawn w h n).side1 d ≡ x → border w h n d ≡ true
      unfolding drawn level plain
      sided x l d e = go (border w h n d) refl
        where
          go : (o : Bool) → border w h n d ≡ o → o ≡ true
          go true q = refl
          go false q =
              absurd (let z = sym e ∙ at_free w h (border w h n) (side w h n) (border_below w h n) d q in omega arith)

      turned_over : (x y : ℕ) → x < mark → Into (slots w h) (slots w h) (hands x y) (hands y x) (reversal w) (reversal w)
      turned_over x y l d i e =
          let p = eqb-true _ x (and_left (eqb (at (drawn w h n).side1 d) x) _ e) in
          let q = and_right (eqb (at (drawn w h n).side1 d) x) (eqb (at (drawn w h n).side1 (reversal w d)) y) e in
          let o = sided x l d p in
          let z = reversal_twice w h d (border_line w h n d o) in (
            border_below w h n (reversal w d) (border_back w h n d o),
            and_true q (ap (λ k. eqb (at (drawn w h n).side1 k) x) z ∙ eq-eqb _ x p),
            z,
          )

      hands_same : count (slots w h) (hands b a) ≡ count (slots w h) (hands a b)
      hands_same =
          count_matched (slots w h) (slots w h) (hands b a) (hands a b) (reversal w) (reversal w) (turned_over b a sb) (turned_over a b sa)

      shared_hands : (d : ℕ)
          → number (shared (drawn w h n).side1 (reversal w) a b d) + number false ≡ number (hands a b d) + number (hands b a d)
      unfolding shared between
      shared_hands d = go (ℕ_discrete (at (drawn w h n).side1 d) a)
        where
          go : Dec (at (drawn w h n).side1 d ≡ a)
              → number (shared (drawn w h n).side1 (reversal w) a b d) + number false ≡ number (hands a b d) + number (hands b a d)
          go (yes p) =
              rw (eq-eqb _ a p, ne_eqb (at (drawn w h n).side1 d) b (λ q. apart (sym p ∙ q)))
              (or_none (eqb (at (drawn w h n).side1 (reversal w d)) b))
          go (no p) = rw (ne_eqb _ a p) (omega arith)

      -- so the darts with the sides a and b are twice the lines that the two share
      pub shared_twice : count (slots w h) (shared (drawn w h n).side1 (reversal w) a b) ≡ 2 * shared_lines w h (drawn w h n).side1 a b
      unfolding shared_lines
      shared_twice =
          omega (
            arith,
            count_sums (shared (drawn w h n).side1 (reversal w) a b) (λ d. false) (hands a b) (hands b a) (slots w h)
                (λ d l. shared_hands d),
            count_none (slots w h),
            hands_same,
          )

      borders_low : borders_of w h n a + borders_of w h n b
          ≡ borders_of w h n' (min a b) + 2 * shared_lines w h (drawn w h n).side1 a b
      borders_low = omega (arith, borders_taken, shared_twice)

    -- Regions a and b of the sheet.
    module _ (room : slots w h ≤ mark) (ia : a ≤ w * h) (ib : b ≤ w * h) (ua : cells_of w h n a ≢ 0) (ub : cells_of w h n b ≢ 0) where
      -- what the two have, as the tables of a drawing tell it
      pub totals_here : (at (drawn w h n).cells a ≡ cells_of w h n a) × (at (drawn w h n).cells b ≡ cells_of w h n b)
          × (at (drawn w h n).borders a ≡ borders_of w h n a) × (at (drawn w h n).borders b ≡ borders_of w h n b)
      unfolding drawn
      totals_here =
          let c = cells_of w h n in
          let d = borders_of w h n in (
            at_totals w h c c a ia ∙ total_used c c a ua,
            at_totals w h c c b ib ∙ total_used c c b ub,
            at_totals w h c d a ia ∙ total_used c d a ua,
            at_totals w h c d b ib ∙ total_used c d b ub,
          )

      -- twice the lines that the two share are not more than their border lines
      pub shared_least : 2 * shared_lines w h (drawn w h n).side1 a b ≤ borders_of w h n a + borders_of w h n b
      shared_least = omega (arith, borders_low (omega (arith, cells_slots w h)) (omega (arith, cells_slots w h)))

      used_low : cells_of w h n' (min a b) ≢ 0
      used_low e = omega (arith, cells_low)

      pub added_cells : added a b 0 (drawn w h n).cells ≡ (drawn w h n').cells
      unfolding drawn
      added_cells =
          added_totals w h 0 (cells_of w h n) (cells_of w h n) (cells_of w h n') (cells_of w h n') ia ib ua ub used_low
          (omega (arith, cells_low)) cells_high (λ r p q. (cells_other r p q, cells_other r p q))

      pub added_borders : added a b (2 * shared_lines w h (drawn w h n).side1 a b) (drawn w h n).borders ≡ (drawn w h n').borders
      unfolding drawn
      added_borders =
          added_totals w h (2 * shared_lines w h (drawn w h n).side1 a b) (cells_of w h n) (borders_of w h n) (cells_of w h n')
          (borders_of w h n') ia ib ua ub used_low
          (omega (arith, borders_low (omega (arith, cells_slots w h)) (omega (arith, cells_slots w h))))
          cells_high (λ r p q. (cells_other r p q, borders_other r p q))
