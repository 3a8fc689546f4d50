-- The tables of a level, as functions.
--   next m k d      == next of d in the level m k
--   other m k d     == the reversal of d in the level m k
--   links none on f == f at the darts that are on, none elsewhere
--   put f x v       == f, but v at x
--   without k p     == the test k, but p fails it
--   with k p        == the test k, but p passes it
--   Entry .. d a b  == a and b are next and other of d in the level m k, or none where d is not on there
--   Over .. nt ot   == nt and ot have the entries of the level m k at every dart
use mathlib.Core.Path.{◌≡◌, refl, sym, ◌∙◌, ap}
use mathlib.Core.Bool.{Bool, true, false, cond, not, ◌&&◌, ◌||◌, and-true, and-false, or-true, or-false}
use mathlib.Core.Logic.{◌≢◌}
use Prim.Native.Nat.{ℕ}
use native.Mathlib.Decide.{ℕ_discrete}
use lib.Dec.{eqb}
use borrow.Author.Tests.{eq-eqb, ne_eqb}
use Rattle.laws.proofs.Chart.{Map, last, level}

abbrev pub next : Map → (ℕ → Bool) → ℕ → ℕ
next m k d = m.nx (last m k d)

abbrev pub other : Map → (ℕ → Bool) → ℕ → ℕ
other m k d = m.rev (last m k d)

unfoldable pub links : ℕ → (ℕ → Bool) → (ℕ → ℕ) → ℕ → ℕ
links none on f d = cond (on d) (f d) none

unfoldable pub put : (ℕ → ℕ) → ℕ → ℕ → ℕ → ℕ
put f x v d = cond (eqb d x) v (f d)

unfoldable pub without : (ℕ → Bool) → ℕ → ℕ → Bool
without k p q = k q && not (eqb q p)

unfoldable pub with : (ℕ → Bool) → ℕ → ℕ → Bool
with k p q = k q || eqb q p

pub record Entry (none : ℕ) (m : Map) (k : ℕ → Bool) (d a b : ℕ) : Type 0 where
  pub nexts : a ≡ links none (level m k).on (level m k).nx d
  pub others : b ≡ links none (level m k).on (level m k).rev d

pub record Over (none : ℕ) (m : Map) (k : ℕ → Bool) (nt ot : ℕ → ℕ) : Type 0 where
  pub nexts : (d : ℕ) → nt d ≡ links none (level m k).on (level m k).nx d
  pub others : (d : ℕ) → ot d ≡ links none (level m k).on (level m k).rev d

-- a pair of values put at x: what holds of these at x, and of what was there elsewhere, holds at every d
pub put_cases : (P : ℕ → ℕ → Type 0) (f g : ℕ → ℕ) (x a b d : ℕ) → (d ≡ x → P a b) → (d ≢ x → P (f d) (g d))
    → P (put f x a d) (put g x b d)
unfolding put
put_cases P f g x a b d h k = go (ℕ_discrete d x)
  where
    go : Dec (d ≡ x) → P (put f x a d) (put g x b d)
    go (yes e) = rw (eq-eqb d x e) (h e)
    go (no e) = rw (ne_eqb d x e) (k e)

module _ (k : ℕ → Bool) (p q : ℕ) where
  pub without_off : k q ≡ false → without k p q ≡ false
  unfolding without
  without_off h = rw h

  pub without_at : q ≡ p → without k p q ≡ false
  unfolding without
  without_at e = rw (eq-eqb q p e) (and-false (k q))

  pub without_else : q ≢ p → without k p q ≡ k q
  unfolding without
  without_else e = rw (ne_eqb q p e) (and-true (k q))

  pub with_at : q ≡ p → with k p q ≡ true
  unfolding with
  with_at e = rw (eq-eqb q p e) (or-true (k q))

  pub with_kept : k q ≡ true → with k p q ≡ true
  unfolding with
  with_kept h = rw h

  pub with_else : q ≢ p → with k p q ≡ k q
  unfolding with
  with_else e = rw (ne_eqb q p e) (or-false (k q))

-- the entries of a dart, by its run in the level
module _ (none : ℕ) (m : Map) (k : ℕ → Bool) (d : ℕ) where
  pub entry_on : {l : ℕ} → m.on d ≡ true → k (m.pt d) ≡ true → last m k d ≡ l
      → Entry none m k d (m.nx l) (m.rev l)
  unfolding links level
  entry_on h e q = record { nexts = rw (h, e) (ap m.nx (sym q)); others = rw (h, e) (ap m.rev (sym q)) }

  pub entry_off : (m.on d && k (m.pt d)) ≡ false → Entry none m k d none none
  unfolding links level
  entry_off h = record { nexts = rw h; others = rw h }

module _ {none : ℕ} {m : Map} {k : ℕ → Bool} {nt ot : ℕ → ℕ} where
  open m use {on, pt}

  pub entries : ((d : ℕ) → Entry none m k d (nt d) (ot d)) → Over none m k nt ot
  entries f = record { nexts = λ d. (f d).nexts; others = λ d. (f d).others }

  module _ (o : Over none m k nt ot) (d : ℕ) where
    pub over_next : on d ≡ true → k (pt d) ≡ true → nt d ≡ next m k d
    over_next h e = o.nexts d ∙ sym (entry_on none m k d h e refl).nexts

    pub over_other : on d ≡ true → k (pt d) ≡ true → ot d ≡ other m k d
    over_other h e = o.others d ∙ sym (entry_on none m k d h e refl).others

    -- a dart that is on in neither level keeps its entries
    entry_none : (l : ℕ → Bool) → (on d && k (pt d)) ≡ false → (on d && l (pt d)) ≡ false
        → Entry none m l d (nt d) (ot d)
    entry_none l h e =
        let gone = entry_off none m k d h in
        rw (o.nexts d ∙ sym gone.nexts, o.others d ∙ sym gone.others) (entry_off none m l d e)

    -- so does one that is on in both or in neither, and has the same run in both
    pub entry_stays : (l : ℕ → Bool) → (on d ≡ true → l (pt d) ≡ k (pt d))
        → (on d ≡ true → k (pt d) ≡ true → last m l d ≡ last m k d) → Entry none m l d (nt d) (ot d)
    entry_stays l same runs = go (on d) (k (pt d)) refl refl
      where
        go : (x y : Bool) → on d ≡ x → k (pt d) ≡ y → Entry none m l d (nt d) (ot d)
        go true true h e = rw (over_next h e, over_other h e) (entry_on none m l d h (same h ∙ e) (runs h e))
        go true false h e = entry_none l (rw (h, e)) (rw (h, same h, e))
        go false y h e = entry_none l (rw h) (rw h)
