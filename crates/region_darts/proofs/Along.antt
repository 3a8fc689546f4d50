-- Steps along a table.
--   along t k d     == k steps from dart d on in the table t, where each dart leads to the next
--   along_of        == every dart of a list is of its group
--   along_set       == what is reached stays reached where the table is set at a place that led to the mark
use mathlib.Core.Path.{◌≡◌, refl, sym, ap, ◌∙◌}
use mathlib.Core.List.{List}
use mathlib.Core.Logic.{◌≢◌}
use Prim.Native.Nat.{ℕ, zero, suc, ◌+◌, ◌≤◌}
use native.Mathlib.Nat.{zero-add, suc-add}
use native.Mathlib.Decide.{ℕ_discrete}
use lib.ListN.{length, set}
use Rattle.point_darts.specs.Dart.{mark}
use Rattle.paper.specs.Joining.{at}
use Rattle.table_entries.proofs.Entries.{at_end, at_other}
use Rattle.region_darts.specs.Lists.{along, Of, Lists}

pub along_next_lem : (t : List ℕ) (k d : ℕ) → along t (suc k) d ≡ at t (along t k d)
unfolding along
along_next_lem t zero d = refl
along_next_lem t (suc k) d = along_next_lem t k (at t d)

pub along_add : (t : List ℕ) (j k d : ℕ) → along t (j + k) d ≡ along t k (along t j d)
unfolding along
along_add t zero k d = rw (zero-add k)
along_add t (suc j) k d = rw (suc-add j k) (along_add t j k (at t d))

pub along_mark : (t : List ℕ) → length t ≤ mark → (k : ℕ) → along t k mark ≡ mark
unfolding along
along_mark t b zero = refl
along_mark t b (suc k) = rw (at_end t mark b) (along_mark t b k)

module _ (t : List ℕ) (b : length t ≤ mark) (p v : ℕ) (end : at t p ≡ mark) where
  pub along_set : (k d e : ℕ) → along t k d ≡ e → e ≢ mark → along (set t p v) k d ≡ e
  unfolding along
  along_set zero d e a n = a
  along_set (suc k) d e a n = go (ℕ_discrete d p) (along_set k (at t d) e a n)
    where
      go : Dec (d ≡ p) → along (set t p v) k (at t d) ≡ e → along (set t p v) k (at (set t p v) d) ≡ e
      go (yes z) r = absurd (n (sym a ∙ ap (along t k) (ap (at t) z ∙ end) ∙ along_mark t b k))
      go (no z) r = rw (at_other t p v d z) r

pub along_of : (s t f l : List ℕ) (g : ℕ → ℕ) → Lists s g t f l → length t ≤ mark → (x d : ℕ) → Of s g x d
    → (k : ℕ) → along t k d ≢ mark → Of s g x (along t k d)
along_of s t f l g r b x d o zero n = unfold along in o
along_of s t f l g r b x d o (suc k) n =
    let e = along_next_lem t k d in
    let m : along t k d ≢ mark = λ z. n (e ∙ ap (at t) z ∙ at_end t mark b) in
    rw e (r.next x (along t k d) (along_of s t f l g r b x d o k m) (λ z. n (e ∙ z)))
