-- The owners of names, asked one after another.
--   is_editor e      == e is the number of an editor
--   owned o         == every name has an owner
use mathlib.Core.Path.{◌≡◌, refl, sym, ◌∙◌}
use mathlib.Core.Bool.{Bool, true, false, ◌&&◌}
use mathlib.Core.List.{List}
use Prim.Native.Nat.{ℕ, ◌+◌, ◌≤◌, ◌<◌}
use lib.ListN.{length, get_or, drop}
use Rattle.laws.specs.Every.{every}
use Rattle.laws.proofs.Every.{every_stop, every_go, every_end}
use Rattle.paper.specs.Editor.{is_editor, owned}

and_on : (b : Bool) → (b && true) ≡ b
and_on true = refl
and_on false = refl

-- The entries from place i on decide, where b says whether those before are right.
module _ (o : List ℕ) (b : Bool) (i : ℕ) (e : (b && every is_editor (drop i o)) ≡ owned o) where
  pub owned_more : (c : Bool) → c ≡ is_editor (get_or o i 0) → i < length o → ((b && c) && every is_editor (drop (i + 1) o)) ≡ owned o
  owned_more c f l = go (is_editor (get_or o i 0)) refl b e
    where
      go : (k : Bool) → is_editor (get_or o i 0) ≡ k → (a : Bool) → (a && every is_editor (drop i o)) ≡ owned o
          → ((a && c) && every is_editor (drop (i + 1) o)) ≡ owned o
      go true g true h = rw (f, g, every_go is_editor o i l g) h
      go true g false h = h
      go false g true h = rw (f, g) (sym (every_stop is_editor o i l g) ∙ h)
      go false g false h = h

  pub owned_all : length o ≤ i → b ≡ owned o
  owned_all l = sym (and_on b) ∙ rw (every_end is_editor o i l) at e
