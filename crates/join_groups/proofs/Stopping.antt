-- Going through a list where groups stand for the drawing.
--   Going w h l t u r i == after i entries of the list l, which led from the tables t to the tables u, the names r are left
--   Stood ..        == groups stand for the tables that they lead to
--   Stopped ..      == so they do where the list stops, with the number k after i joins
use mathlib.Core.Path.{◌≡◌, sym, ◌∙◌}
use mathlib.Core.List.{List}
use mathlib.Core.Logic.{◌≢◌}
use Prim.Native.Nat.{ℕ, ◌+◌, ◌-◌, ◌≤◌, ◌<◌}
use lib.ListN.{length, get_or, take, drop}
use Rattle.laws.specs.First.{first_failed}
use Rattle.paper.specs.Drawing.{Tables}
use Rattle.paper.specs.Joining.{joined}
use Rattle.paper.specs.Refusal.{pair_tests}
use Rattle.join_groups.specs.Group.{Standing, Stopped}
use Rattle.join_groups.proofs.Entries.{Going, going_start, going_end, going_stops, going_on}

pub record Stood (w h : ℕ) (l : List ℕ) (t₀ : Tables) (s c n t f e r : List ℕ) (i : ℕ) : Type 0 where
  pub tables : Tables
  pub going : Going w h l t₀ tables r i
  pub standing : Standing w h s c n t f e tables

module _ (w h : ℕ) (l : List ℕ) (t₀ : Tables) (s f : List ℕ) where
  pub stood_start : (c n t e : List ℕ) → Standing w h s c n t f e t₀ → Stood w h l t₀ s c n t f e l 0
  stood_start c n t e v = record { tables = t₀; going = going_start w h l t₀; standing = v }

  module _ (c n t e r : List ℕ) (i : ℕ) (o : Stood w h l t₀ s c n t f e r i) where
    abbrev u : Tables
    u = o.tables

    pub stood_end : length r ≤ 1 → Stopped w h l 0 i t₀ s c n t f e
    stood_end b = record { tables = u; stops = going_end w h l t₀ u r i o.going b; standing = o.standing }

    module _ (b : 1 < length r) (k : ℕ) (c₁ n₁ t₁ e₁ : List ℕ)
        (p : (h : ℕ) (u : Tables) → Standing w h s c n t f e u
        → (k ≡ first_failed (pair_tests w h u.side1 u.parent (get_or r 0 0) (get_or r 1 0)))
        × (k ≡ 0 → Standing w h s c₁ n₁ t₁ f e₁ (joined w h u (get_or r 0 0) (get_or r 1 0)))
        × (k ≢ 0 → Standing w h s c₁ n₁ t₁ f e₁ u)) where
      pub stood_stops : k ≢ 0 → Stopped w h l k i t₀ s c₁ n₁ t₁ f e₁
      stood_stops z =
          let q = p h u o.standing in
          record { tables = u; stops = going_stops w h l t₀ u r i o.going b k q.0 z; standing = q.2 z }

      pub stood_on : k ≡ 0 → Stood w h l t₀ s c₁ n₁ t₁ f e₁ (take (length r - 2) (drop 2 r)) (i + 1)
      stood_on z =
          let q = p h u o.standing in
          record {
            tables = joined w h u (get_or r 0 0) (get_or r 1 0);
            going = going_on w h l t₀ u r i o.going b k q.0 z;
            standing = q.1 z;
          }

-- Tables that stand have their lengths.
pub same_lengths : (w h : ℕ) (s c n t f e c₁ n₁ t₁ e₁ : List ℕ) (u u₁ : Tables) → Standing w h s c n t f e u
    → Standing w h s c₁ n₁ t₁ f e₁ u₁
    → (length c₁ ≡ length c) × (length n₁ ≡ length n) × (length t₁ ≡ length t) × (length e₁ ≡ length e)
same_lengths w h s c n t f e c₁ n₁ t₁ e₁ u u₁ v o = (
  o.counted ∙ sym v.counted,
  o.noded ∙ sym v.noded,
  o.listed.0 ∙ sym v.listed.0,
  o.listed.2 ∙ sym v.listed.2,
)
