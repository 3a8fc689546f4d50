-- Step 1 of the removal rule, at any level: the links without the darts that are taken are those of the map with fewer
-- lines.
--   Reads w h x l s == the tables l and s have next, other and side of the map x
--   links mark on f == f at the darts that are on, the mark elsewhere
use mathlib.Core.Path.{◌≡◌, refl, sym, ◌∙◌, ap}
use mathlib.Core.Bool.{Bool, true, false, not, ◌&&◌}
use mathlib.Core.Logic.{◌≢◌}
use mathlib.Core.List.{List}
use Prim.Native.Nat.{ℕ, ◌<◌, ◌≤◌}
use native.Mathlib.Omega.{arith}
use lib.ListN.{length}
use borrow.Author.Tests.{eq-eqb, ne_eqb, not-true}
use Rattle.laws.specs.Least.{lower}
use Rattle.laws.proofs.Test.{and_left, and_right}
use Rattle.laws.proofs.Walk.{run_along}
use Rattle.laws.proofs.Chart.{Map, Chart, Colours, taken, less}
use Rattle.laws.proofs.Chart as Chart
use Rattle.laws.proofs.Less.{rot_turns, chase_four}
use Rattle.laws.proofs.Over.{links}
use Rattle.laws.proofs.Alike.{links_agree}
use Rattle.point_darts.specs.Dart.{mark, slots}
use Rattle.paper.specs.Joining.{Links, at, on, shared, chase, removed}
use Rattle.paper_laws.proofs.Between.{between_lower}
use Rattle.paper_laws.proofs.Marks.{length_marked, at_marked}

-- where a table has links, its darts are those that are on
pub on_links : (t : List ℕ) {o : ℕ → Bool} {f : ℕ → ℕ} → ((d : ℕ) → at t d ≡ links mark o f d)
    → ((d : ℕ) → o d ≡ true → f d ≢ mark) → (d : ℕ) → on t d ≡ o d
unfolding on links
on_links t {o} {f} r n d = go (o d) refl
  where
    go : (b : Bool) → o d ≡ b → on t d ≡ o d
    go true e = rw (r d, e, ne_eqb (f d) mark (n d e))
    go false e = rw (r d, e, eq-eqb mark mark refl)

-- the tables keep their length
pub removed_lengths : (w h : ℕ) (l : Links) (gone : ℕ → Bool)
    → (length (removed w h l gone).next ≡ slots w h) × (length (removed w h l gone).other ≡ slots w h)
unfolding removed
removed_lengths w h l gone =
    let rest : ℕ → Bool = λ d. on l.next d && not (gone d) in
    (length_marked w h rest (λ d. chase l gone (at l.next d)), length_marked w h rest (at l.other))

pub record Reads (w h : ℕ) (x : Map) (l : Links) (s : List ℕ) : Type 0 where
  pub size : x.n ≡ slots w h
  pub nexts : (d : ℕ) → at l.next d ≡ links mark x.on x.nx d
  pub others : (d : ℕ) → x.on d ≡ true → at l.other d ≡ x.rev d
  pub sides : (d : ℕ) → x.on d ≡ true → at s d ≡ x.side d

module _ {w h : ℕ} {x : Map} {colour : ℕ → ℕ} {l : Links} {s : List ℕ}
    (c : Chart x) (u : Colours x colour) (r : Reads w h x l s) (room : slots w h ≤ mark) where
  open x use {nx, rev, side}

  below : (d : ℕ) → x.on d ≡ true → d < slots w h
  below d h = rw r.size at (c.turns.below d h)

  no_mark : (d : ℕ) → x.on d ≡ true → d ≢ mark
  no_mark d h e = let b = below d h in omega arith

  next_at : (d : ℕ) → x.on d ≡ true → at l.next d ≡ nx d
  unfolding links
  next_at d h = r.nexts d ∙ rw h

  on_next : (d : ℕ) → on l.next d ≡ x.on d
  on_next = on_links l.next r.nexts (λ d h. no_mark (nx d) (c.turns.stays d h))

  module _ {a b : ℕ} (n : a ≢ b) where
    abbrev gone : ℕ → Bool
    gone = shared s (at l.other) a b

    pub gone_taken : (d : ℕ) → x.on d ≡ true → gone d ≡ taken x (lower a b) d
    unfolding shared taken
    gone_taken d h =
        rw (r.sides d h, r.others d h, r.sides (rev d) (c.rev_on d h))
        (between_lower a b (side d) (side (rev d)) n (λ e. c.parts d h (sym e)))

    chase_same : (d : ℕ) → x.on d ≡ true → chase l gone d ≡ Chart.chase x (lower a b) 4 d
    unfolding chase Chart.chase
    chase_same =
        run_along (λ d. d) (λ d. at l.next (at l.other d)) (λ d. nx (rev d)) (λ d. not (gone d))
        (λ d. not (taken x (lower a b) d)) (λ d. x.on d ≡ true) (λ d h. ap not (gone_taken d h))
        (λ d h. ap (at l.next) (r.others d h) ∙ next_at (rev d) (c.rev_on d h)) (λ d h. (rot_turns c).stays d h) 4

    rest : ℕ → Bool
    rest d = on l.next d && not (gone d)

    rest_on : (d : ℕ) → rest d ≡ (less x (lower a b)).on d
    unfolding rest less
    rest_on d = go (x.on d) refl
      where
        go : (t : Bool) → x.on d ≡ t → rest d ≡ (less x (lower a b)).on d
        go true e = rw (on_next d, e, gone_taken d e)
        go false e = rw (on_next d, e)

    rest_was : (d : ℕ) → rest d ≡ true → x.on d ≡ true
    unfolding rest
    rest_was d e = sym (on_next d) ∙ and_left (on l.next d) (not (gone d)) e

    rest_below : (d : ℕ) → rest d ≡ true → d < slots w h
    rest_below d e = below d (rest_was d e)

    rest_left : (d : ℕ) → rest d ≡ true → taken x (lower a b) d ≡ false
    unfolding rest
    rest_left d e =
        sym (gone_taken d (rest_was d e)) ∙ not-true (gone d) (and_right (on l.next d) (not (gone d)) e)

    pub removed_next : (d : ℕ)
        → at (removed w h l (shared s (at l.other) a b)).next d ≡ links mark (less x (lower a b)).on (less x (lower a b)).nx d
    unfolding links removed rest less
    removed_next d =
        at_marked w h rest (λ e. chase l gone (at l.next e)) rest_below d
        ∙ links_agree mark rest_on
        (λ e t.
        let o = rest_was e t in
        ap (chase l gone) (next_at e o) ∙ chase_same (nx e) (c.turns.stays e o)
        ∙ chase_four c u (lower a b) e o (rest_left e t))
        d

    pub removed_other : (d : ℕ)
        → at (removed w h l (shared s (at l.other) a b)).other d ≡ links mark (less x (lower a b)).on (less x (lower a b)).rev d
    unfolding links removed rest less
    removed_other d =
        at_marked w h rest (at l.other) rest_below d
        ∙ links_agree mark rest_on (λ e t. r.others e (rest_was e t)) d
