-- Two lists of darts linked.
--   lower a b v     == the larger of a and b becomes the smaller, every other number stays
--   link_lists      == the list of the group high after the list of the group low, which has both groups then
use mathlib.Core.Path.{◌≡◌, refl, sym, ap, ◌∙◌}
use mathlib.Core.List.{List}
use mathlib.Core.Logic.{◌⊎◌, inl, inr, ⊎_elim, ◌≢◌}
use Prim.Native.Nat.{ℕ, ◌+◌, ◌≤◌, ◌<◌}
use native.Mathlib.Decide.{ℕ_discrete}
use native.Mathlib.Omega.{arith}
use lib.ListN.{length, set}
use Rattle.laws.specs.Least.{lower}
use Rattle.laws.proofs.Least.{lower_cases, lower_left, lower_right, lower_other}
use Rattle.point_darts.specs.Dart.{mark}
use Rattle.paper.specs.Joining.{at}
use Rattle.table_entries.proofs.Entries.{at_same, at_other}
use Rattle.region_darts.specs.Lists.{Of, size, Lists}
use Rattle.region_darts.proofs.Chain.{chain_as, chain_other, chain_link}
use Rattle.region_darts.proofs.Size.{of_inside, size_as, size_both}
use Rattle.region_darts.proofs.Group.{Group, lists_group, groups_lists}

module _ (s : List ℕ) (g : ℕ → ℕ) (low high : ℕ) (below : low < high) where
  abbrev one : ℕ → ℕ
  one v = lower low high (g v)

  -- the darts of the two groups are of one
  of_low : (d : ℕ) → Of s g low d → Of s one low d
  of_low d o =
      record { sided = o.sided; group = ap (lower low high) o.group ∙ lower_left low high ∙ omega arith }

  of_high : (d : ℕ) → Of s g high d → Of s one low d
  of_high d o =
      record { sided = o.sided; group = ap (lower low high) o.group ∙ lower_right low high ∙ omega arith }

  of_either : (d : ℕ) → Of s one low d → Of s g low d ⊎ Of s g high d
  of_either d o =
      ⊎_elim (λ p. inr (record { sided = o.sided; group = p.0 ∙ omega arith }))
      (λ p. inl (record { sided = o.sided; group = sym p.1 ∙ o.group }))
      (lower_cases low high (g (at s d)))

  -- every other group stays
  module _ (x : ℕ) (n : x ≢ low) where
    of_back : (d : ℕ) → Of s one x d → Of s g x d
    of_back d o =
        ⊎_elim (λ p. let h = o.group in absurd (n (sym h ∙ p.1 ∙ omega arith)))
        (λ p. record { sided = o.sided; group = sym p.1 ∙ o.group })
        (lower_cases low high (g (at s d)))

    other_high : (d : ℕ) → Of s one x d → x ≢ high
    other_high d o z =
        let p = (of_back d o).group in
        n (sym o.group ∙ ap (lower low high) (p ∙ z) ∙ lower_right low high ∙ omega arith)

    of_stays : x ≢ high → (d : ℕ) → Of s g x d → Of s one x d
    of_stays m d o =
        record { sided = o.sided; group = ap (lower low high) o.group ∙ lower_other low high x n m }

  module _ (t f l : List ℕ) (c e : ℕ) (same : length s ≡ length t) (named : low < length l) (room : length s ≤ mark)
      (oc : Of s g low c) (oe : Of s g high e) (r : Lists s g t f l) where
    abbrev linked : List ℕ
    linked = set t (at l low) (at f high)

    first : Group s t f l g low
    first = lists_group s t f l g r room low c oc

    link_group : (x d : ℕ) → Of s one x d → Group s linked f (set l low (at l high)) one x
    link_group x d o = go (ℕ_discrete x low)
      where
        go : Dec (x ≡ low) → Group s linked f (set l low (at l high)) one x
        go (yes z) =
            rw (z, at_same l low (at l high) named)
            (chain_as linked (λ v. Of s g low v ⊎ Of s g high v) (Of s one low) (size s g low + size s g high) (size s one low)
            (at f low) (at l high) (λ v. ⊎_elim (of_low v) (of_high v)) of_either
            (size_both s s g one low high low refl of_low of_high (omega arith))
            (chain_link t (omega arith) (Of s g low) (Of s g high) (size s g low) (size s g high) (at f low) (at l low)
            (at f high) (at l high) first (lists_group s t f l g r room high e oe)
            (λ p. let h = sym p.group ∙ first.last.group in omega arith)
            (let h = of_inside s g low (at l low) first.last in omega arith)))
        go (no z) =
            let stays = of_stays x z (other_high x z d o) in
            rw (at_other l low (at l high) x z)
            (chain_as linked (Of s g x) (Of s one x) (size s g x) (size s one x) (at f x) (at l x) stays (of_back x z)
            (size_as s s g one x x refl stays)
            (chain_other t (omega arith) (Of s g x) (size s g x) (at f x) (at l x) (at l low) (at f high)
            (lists_group s t f l g r room x d (of_back x z d o)) first.end
            (λ p. z (sym p.group ∙ first.last.group))))

    both_lists : Lists s one linked f (set l low (at l high))
    both_lists = groups_lists s linked f (set l low (at l high)) one link_group

pub link_lists : (s : List ℕ) (g : ℕ → ℕ) (low high : ℕ) (t f l : List ℕ) (d e : ℕ) → length s ≡ length t → low < length l
    → length s ≤ mark → Of s g low d → Of s g high e → Lists s g t f l → low < high → (a b z : ℕ) (t' l' : List ℕ)
    → a ≡ at l low → b ≡ at f high → z ≡ at l high → t' ≡ set t a b → l' ≡ set l low z
    → Lists s (λ v. lower low high (g v)) t' f l'
link_lists s g low high t f l d e same named room o p r below a b z t' l' i j k x y =
    rw (x, y, i, j, k) (both_lists s g low high below t f l d e same named room o p r)
