-- Through the list of a group's darts, in search of another group.
--   along t k d     == k steps from dart d on in the table t
--   faced w s l d   == the group on the left hand of dart d
--   Met .., Unmet .. == a dart of the list that starts at f has the group y on its left hand; none of its first m has
--   Walking ..      == dart d of the list is reached after k steps, no dart before it has y on its left hand; on the way the forest n₀
--                      has become n
use mathlib.Core.Path.{◌≡◌, refl, sym, ap, ◌∙◌}
use mathlib.Core.Bool.{true}
use mathlib.Core.List.{List}
use mathlib.Core.Logic.{◌≢◌}
use Prim.Native.Nat.{ℕ, suc, ◌+◌, ◌-◌, ◌≤◌, ◌<◌}
use native.Mathlib.Decide.{dec_lt}
use native.Mathlib.Omega.{arith}
use lib.ListN.{length}
use Rattle.point_darts.specs.Dart.{mark, reversal}
use Rattle.paper.specs.Joining.{at, on}
use Rattle.table_forest.specs.Forest.{Forest, Grown}
use Rattle.region_darts.specs.Lists.{along}
use Rattle.region_darts.proofs.Along.{along_next_lem, along_add, along_mark}
use Rattle.join_groups.specs.Group.{group_of, faced, Met, Unmet, Walkable}

-- past the mark is the mark
along_past : (t : List ℕ) → length t ≤ mark → (k d i : ℕ) → along t k d ≡ mark → along t (k + i) d ≡ mark
along_past t b k d i e = along_add t k i d ∙ ap (along t i) e ∙ along_mark t b i

pub record Walking (w : ℕ) (s t : List ℕ) (f y : ℕ) (n₀ n : List ℕ) (d k : ℕ) : Type 0 where
  pub kept : (l : List ℕ) → Forest (length n₀) l n₀ → Forest (length n₀) l n
  pub long : length n ≡ length n₀
  pub here : d ≡ along t k f
  pub none : (l : List ℕ) → Forest (length n₀) l n₀ → Unmet w s l t f y k

module _ (w : ℕ) (s t : List ℕ) (f y : ℕ) (n₀ : List ℕ) where
  pub walking_none : Walking w s t f y n₀ n₀ f 0
  unfolding along
  walking_none = record { kept = λ l g. g; long = refl; here = refl; none = λ l g i b. absurd (omega arith) }

  module _ (n : List ℕ) (d k : ℕ) (v : Walking w s t f y n₀ n d k) where
    abbrev pub grown_on : Grown (length n₀) n₀ → Grown (length n) n
    grown_on g = record { labels = g.labels; forest = rw v.long (v.kept g.labels g.forest) }

    -- the list has ended
    pub walked_out : length t ≤ mark → d ≡ mark → (l : List ℕ) → Forest (length n₀) l n₀ → Unmet w s l t f y (length t)
    walked_out b e l g i c h = go (dec_lt i k)
      where
        go : Dec (i < k) → faced w s l (along t i f) ≢ y
        go (yes p) = v.none l g i p h
        go (no p) =
            let z : k + (i - k) ≡ i = omega arith in
            absurd (h (rw z at (along_past t b k f (i - k) (sym v.here ∙ e))))

    -- a dart that has a side on both hands
    module _ (m : d ≢ mark) (b : Walkable w s t f (length n₀)) where
      pub dart_sided : (on s d ≡ true) × (at s (reversal w d) ≤ length n₀)
      dart_sided = rw v.here (b k (λ e. m (v.here ∙ e)))

      pub name_below : (a : ℕ) → a ≡ at s (reversal w d) → a ≤ length n
      name_below a e = rw (e, v.long) dart_sided.1

      module _ (n₁ : List ℕ) (long : length n₁ ≡ length n) (a r : ℕ) (i : a ≡ at s (reversal w d))
          (q : (l : List ℕ) → Forest (length n) l n → Forest (length n) l n₁ × (r ≡ group_of l a)) where
        found : (l : List ℕ) → Forest (length n₀) l n₀ → Forest (length n₀) l n₁ × (r ≡ group_of l (at s (reversal w d)))
        found l g = rw (← v.long, ← i) (q l (rw v.long (v.kept l g)))

        pub walked_met : r ≡ y → (l : List ℕ) → Forest (length n₀) l n₀
            → Forest (length n₀) l n₁ × Met w s l t f y
        unfolding faced
        walked_met e l g =
            let o = found l g in (
              o.0,
              record {
                steps = k;
                held = λ e. m (v.here ∙ e);
                facing = rw (← v.here) (sym o.1 ∙ e);
              },
            )

        pub walking_on : r ≢ y → Walking w s t f y n₀ n₁ (at t d) (k + 1)
        unfolding faced
        walking_on e =
            let u : k + 1 ≡ suc k = omega arith in
            record {
              kept = λ l g. (found l g).0;
              long = long ∙ v.long;
              here = rw u (ap (at t) v.here ∙ sym (along_next_lem t k f));
              none = λ l g i b h. go l g i (omega (arith, b)) h (dec_lt i k);
            }
          where
            go : (l : List ℕ) → Forest (length n₀) l n₀ → (i : ℕ) → i < suc k → along t i f ≢ mark
                → Dec (i < k) → faced w s l (along t i f) ≢ y
            go l g i b h (yes p) = v.none l g i p h
            go l g i b h (no p) =
                let c : i ≡ k = omega arith in
                rw (c, ← v.here) (λ z. e ((found l g).1 ∙ z))
