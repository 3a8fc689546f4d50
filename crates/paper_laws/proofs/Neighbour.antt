-- Two regions that may be joined share a line, so their cells touch, and the names with both lowered to the smaller are
-- names again: the removal rule's tables are those drawn afresh.
use mathlib.Core.Path.{◌≡◌, refl, sym, ◌∙◌, ap}
use mathlib.Core.Bool.{Bool, true, false, ◌&&◌, true≢false}
use mathlib.Core.Logic.{◌≢◌, ◌⊎◌, inl, inr, ⊎_elim}
use mathlib.Core.List.{List, map}
use Prim.Native.Nat.{ℕ, zero, suc, ◌*◌, ◌<◌, ◌≤◌}
use native.Mathlib.Decide.{dec_lt}
use native.Mathlib.Omega.{arith}
use lib.Dec.{eqb}
use lib.ListN.{get_or}
use borrow.Author.Tests.{eqb-true, eqb-false, eq-eqb, not-true}
use Rattle.laws.specs.Least.{lower}
use Rattle.laws.proofs.Test.{and_left, and_right, or_either}
use Rattle.laws.proofs.Table.{some_found}
use Rattle.laws.proofs.Count.{count_some}
use Rattle.point_darts.specs.Dart.{mark, slots, reversal}
use Rattle.paper.specs.Name.{label, names}
use Rattle.paper.specs.Level.{side, border, plain, level}
use Rattle.paper.specs.Drawing.{drawn, drawing, fresh}
use Rattle.paper.specs.Joining.{at, on, between, shared, joined}
use Rattle.paper.specs.Refusal.{used, adjoin}
use Rattle.paper.specs.Sitting.{Joinable}
use Rattle.paper.specs.Total.{cells_of}
use Rattle.paper_laws.proofs.Name.{join_names}
use Rattle.paper_laws.proofs.Sheet.{border_back, border_below}
use Rattle.paper_laws.proofs.Marks.{at_free, cells_slots, names_side_small}
use Rattle.paper_laws.proofs.Enclosure.{parents_outside, parents_past, parents_used}
use Rattle.paper_laws.proofs.Drawn.{drawn_side1}
use Rattle.paper_laws.proofs.Share.{Shore, shore_swap, border_shore}
use Rattle.paper_laws.proofs.Joined.{joined_drawn}

pub between_either : (a b x y : ℕ) → between a b x y ≡ true → ((x ≡ a) × (y ≡ b)) ⊎ ((x ≡ b) × (y ≡ a))
unfolding between
between_either a b x y e =
    ⊎_elim
    (λ p. inl (eqb-true x a (and_left (eqb x a) (eqb y b) p), eqb-true y b (and_right (eqb x a) (eqb y b) p)))
    (λ p. inr (eqb-true x b (and_left (eqb x b) (eqb y a) p), eqb-true y a (and_right (eqb x b) (eqb y a) p)))
    (or_either (eqb x a && eqb y b) (eqb x b && eqb y a) e)

module _ (w h : ℕ) (s : List ℕ) (room : slots w h ≤ mark) where
  abbrev n : List ℕ
  n = names w h s

  -- a name that a table of sides holds is the side of a line
  pub side_line : (d v : ℕ) → v ≢ mark → at (drawn w h n).side1 d ≡ v → border w h n d ≡ true
  unfolding drawn level plain
  side_line d v z e = go (border w h n d) refl
    where
      go : (b : Bool) → border w h n d ≡ b → b ≡ true
      go true q = refl
      go false q = absurd (z (sym e ∙ at_free w h (border w h n) (side w h n) (border_below w h n) d q))

  shores : (a b d : ℕ) → a ≢ mark → a ≢ 0 → b ≢ 0 → at (drawn w h n).side1 d ≡ a
      → at (drawn w h n).side1 (reversal w d) ≡ b → Shore w h n a b
  shores a b d z p q e f =
      let o = side_line d a z e in
      let x : side w h n d ≡ a = sym (drawn_side1 w h n d o) ∙ e in
      let y : side w h n (reversal w d) ≡ b = sym (drawn_side1 w h n (reversal w d) (border_back w h n d o)) ∙ f in
      rw (← x, ← y) (border_shore w h n d o (λ g. p (sym x ∙ g)) (λ g. q (sym y ∙ g)))

  -- no region has the mark for a name
  pub used_below : (v : ℕ) → used (drawing w h s).parent v ≡ true → v ≢ mark
  unfolding used on at drawing drawn
  used_below v e q =
      let past : w * h < v = rw q (omega (arith, cells_slots w h)) in
      eqb-false (at (drawing w h s).parent v) mark (not-true (eqb (at (drawing w h s).parent v) mark) e)
      (parents_past w h (border w h n) (side w h n) v past)

  module _ (a b : ℕ) (j : Joinable w h (drawing w h s) a b) where
    shore : Shore w h n a b
    unfolding adjoin shared drawing
    shore =
        let (d, _, e) = some_found (shared (drawn w h n).side1 (reversal w) a b) (slots w h) j.neighbours in
        ⊎_elim
        (λ p. shores a b d (used_below a j.regions.0) j.inner.0 j.inner.1 p.0 p.1)
        (λ p. shore_swap (shores b a d (used_below b j.regions.1) j.inner.1 j.inner.0 p.0 p.1))
        (between_either a b (at (drawn w h n).side1 d) (at (drawn w h n).side1 (reversal w d)) e)

    pub joined_names : names w h (map (lower a b) n) ≡ map (lower a b) n
    joined_names = let c = shore in join_names w h s a b c.one c.two c.beside c.first c.second

    -- a region has a place in the tables by name, and cells
    pub used_borne : (v : ℕ) → used (drawing w h s).parent v ≡ true → (v ≤ w * h) × (cells_of w h n v ≢ 0)
    unfolding used on at drawing drawn cells_of label
    used_borne zero e =
        let z = parents_outside w h (border w h n) (side w h n) in
        absurd (true≢false (sym e ∙ rw (eq-eqb (at (drawing w h s).parent 0) mark z)))
    used_borne (suc i) e = go (dec_lt i (w * h))
      where
        own : i < w * h → get_or n i 0 ≡ suc i
        own l = (parents_used w h s i l room).0 (eqb-false (at (drawing w h s).parent (suc i)) mark (not-true _ e))

        go : Dec (i < w * h) → (suc i ≤ w * h) × (cells_of w h n (suc i) ≢ 0)
        go (yes l) = (l, count_some (λ k. eqb (label n k) (suc i)) (w * h) i l (eq-eqb (label n i) (suc i) (own l)))
        go (no l) =
            absurd (eqb-false (at (drawing w h s).parent (suc i)) mark (not-true _ e)
            (parents_past w h (border w h n) (side w h n) (suc i) (omega arith)))

    pub fresh_joined : joined w h (drawing w h s) a b ≡ fresh w h s a b
    unfolding drawing fresh
    fresh_joined =
        let (ia, ua) = used_borne a j.regions.0 in
        let (ib, ub) = used_borne b j.regions.1 in
        joined_drawn w h a b n room j.apart j.inner.0 j.inner.1
        (rw (← joined_names) (names_side_small w h (map (lower a b) n) room))
        ia ib ua ub
        ∙ ap (drawn w h) (sym joined_names)
