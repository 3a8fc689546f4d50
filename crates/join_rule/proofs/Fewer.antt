-- The lines that remain are lines that were there, and they have sides.
--   marked w h held f == the table of f at the darts that are held
--   removed ..      == the links without the darts that are taken
use mathlib.Core.Path.{◌≡◌, refl, sym, ◌∙◌, ap, fun_ext}
use mathlib.Core.Bool.{Bool, true, false, cond, not, ◌&&◌}
use mathlib.Core.List.{List}
use mathlib.Core.Logic.{◌≢◌, ⊎_elim}
use Prim.Native.Nat.{ℕ, ◌<◌}
use native.Mathlib.Decide.{dec_lt}
use native.Mathlib.Omega.{arith}
use lib.Dec.{eqb}
use lib.ListN.{length}
use borrow.Author.Tests.{eq-eqb, ne_eqb}
use Rattle.laws.specs.Least.{lower}
use Rattle.laws.proofs.Least.{lower_either}
use Rattle.laws.proofs.Test.{clash, and_left}
use Rattle.point_darts.specs.Dart.{mark, slots}
use Rattle.paper.specs.Level.{marked}
use Rattle.paper.specs.Joining.{Links, at, on, chase, removed}
use Rattle.paper_laws.proofs.Marks.{at_below, at_past, at_marked}
use Rattle.table_entries.proofs.Entries.{on_mark, on_no_mark, on_below}

module _ (w h : ℕ) where
  -- an entry of a marked table is one that is held
  marked_off : (held : ℕ → Bool) (f : ℕ → ℕ) (d : ℕ) → held d ≡ false → at (marked w h held f) d ≡ mark
  marked_off held f d e = go (dec_lt d (slots w h))
    where
      go : Dec (d < slots w h) → at (marked w h held f) d ≡ mark
      go (yes b) = at_below w h held f d b ∙ rw e
      go (no b) = at_past w h held f d (omega arith)

  pub marked_held : (held : ℕ → Bool) (f : ℕ → ℕ) (d : ℕ) → on (marked w h held f) d ≡ true → held d ≡ true
  marked_held held f d e = go (held d) refl
    where
      go : (b : Bool) → held d ≡ b → held d ≡ true
      go true q = q
      go false q = clash e (on_mark (marked w h held f) d (marked_off held f d q))

  pub removed_fewer : (l : Links) (f : ℕ → Bool) (d : ℕ) → on (removed w h l f).next d ≡ true → on l.next d ≡ true
  unfolding removed
  removed_fewer l f d e =
      and_left (on l.next d) (not (f d))
      (marked_held (λ d. on l.next d && not (f d)) (λ d. chase l f (at l.next d)) d e)

  -- the lines that remain have sides, also with a and b made one
  pub on_lowered : (a b : ℕ) (s n : List ℕ) → a < mark → b < mark → length s ≡ slots w h
      → ((d : ℕ) → on n d ≡ true → on s d ≡ true) → on (marked w h (on n) (λ d. lower a b (at s d))) ≡ on n
  unfolding on
  on_lowered a b s n p q l f =
      fun_ext (λ d. rw (at_marked w h (on n) (λ d. lower a b (at s d)) inside d) (go d (on n d) refl))
    where
      inside : (d : ℕ) → on n d ≡ true → d < slots w h
      inside d e = let c = on_below s d (f d e) in omega arith

      left : (d : ℕ) → on n d ≡ true → lower a b (at s d) ≢ mark
      left d e =
          let c = on_no_mark s d (f d e) in
          ⊎_elim (λ r z. omega arith) (λ r z. c (sym r ∙ z)) (lower_either a b (at s d))

      go : (d : ℕ) (t : Bool) → on n d ≡ t → not (eqb (cond t (lower a b (at s d)) mark) mark) ≡ t
      go d true e = ap not (ne_eqb (lower a b (at s d)) mark (left d e))
      go d false e = ap not (eq-eqb mark mark refl)
