-- Tables treated entry by entry, in place.
--   Half f i s t    == of the table s the entries below i have become those of f, the others are as they were
use mathlib.Core.Path.{◌≡◌, refl, sym, ap, ◌∙◌}
use mathlib.Core.List.{List}
use Prim.Native.Nat.{ℕ, ◌+◌, ◌≤◌, ◌<◌}
use native.Mathlib.Nat.{le_refl}
use lib.ListN.{length, get_or, set}
use Rattle.laws.specs.Table.{table}
use Rattle.paper.specs.Joining.{at}
use Rattle.table_entries.proofs.Entries.{at_entry}
use Rattle.table_entries.proofs.Filled.{Filled, filled_none, filled_more, filled_all}

abbrev pub Half : (ℕ → ℕ) → ℕ → List ℕ → List ℕ → Type 0
Half f i s t = Filled (length s) f i s t

module _ (f : ℕ → ℕ) where
  pub half_none : (s : List ℕ) → Half f 0 s s
  half_none s = filled_none (length s) f s refl

  -- an entry more
  pub half_more : (i v : ℕ) (s t : List ℕ) → Half f i s t → i < length s → v ≡ f i → Half f (i + 1) s (set t i v)
  half_more i v s t p h e = filled_more (length s) f i s t p v h e

  -- all entries
  pub half_all : (n i : ℕ) (s t : List ℕ) → Half f i s t → length s ≡ n → length s ≤ i → t ≡ table n f
  half_all n i s t p e h = filled_all (length s) f i s t p h ∙ ap (λ m. table m f) e

-- an entry that is not yet treated
pub half_here : (f : ℕ → ℕ) (i : ℕ) (s t : List ℕ) → Half f i s t → i < length s → at s i ≡ get_or t i 0
half_here f i s t p h = at_entry s i h ∙ sym (p.rest i (le_refl i))
