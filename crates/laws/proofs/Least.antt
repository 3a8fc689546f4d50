-- The least node reachable. Nodes are the numbers below n; node i has the back neighbours b i and c i.
--   lower a b v       == the larger of a and b becomes the smaller, every other number stays
--   Linked R i j      == a chain of steps of R, each forwards or backwards, leads from i to j
--   Near b c n i j    == j is a neighbour of the node i
--   Joined b c n i j  == a chain of neighbours leads from i to j
--   tie i j t         == the table with the entries of i and j lowered to the smaller, wherever they stand
--   ties b c m t      == every node below m tied with its neighbours
--   Roots b c n g     == g gives each node a node that is joined with it and no greater, and neighbours the same one
--   Rooted b c n t    == each entry of the table is a node that is joined with its own and no greater
--   least n b c       == for each node below n the least node that neighbours lead to
use mathlib.Core.Path.{◌≡◌, refl, sym, ◌∙◌}
use mathlib.Core.Bool.{Bool, true, false}
use mathlib.Core.List.{List, map}
use mathlib.Core.Logic.{◌⊎◌, inl, inr, ⊎_elim, ◌≢◌, ◌↔◌}
use Prim.Native.Nat.{ℕ, zero, suc, ◌≤◌, ◌<◌, zero-le, min, max}
use native.Mathlib.Nat.{le_refl, not-suc-le-zero, max_comm, min_comm}
use native.Mathlib.Decide.{dec_le, dec_lt}
use native.Mathlib.Omega.{arith}
use lib.Dec.{eqb}
use borrow.Author.Tests.{eqb-true, eqb-false}
use lib.ListN.{length, get_or, length-map, get_or-map, get_or-eq_default}
use lib.Seq.{ext_get_or}
use Rattle.laws.specs.Table.{table}
use Rattle.laws.specs.Least.{lower, tie, ties, least}
use Rattle.laws.proofs.Table.{length_table, get_or_table, below_suc}

-- Lowering.
module _ (a b v : ℕ) where
  lower_test : (t : Bool) → eqb v (max a b) ≡ t
      → ((v ≡ max a b) × (lower a b v ≡ min a b)) ⊎ ((v ≢ max a b) × (lower a b v ≡ v))
  unfolding lower
  lower_test true e = inl (eqb-true v (max a b) e, rw e)
  lower_test false e = inr (eqb-false v (max a b) e, rw e)

  -- the larger becomes the smaller, every other number stays
  pub lower_cases : ((v ≡ max a b) × (lower a b v ≡ min a b)) ⊎ ((v ≢ max a b) × (lower a b v ≡ v))
  lower_cases = lower_test (eqb v (max a b)) refl

  pub lower_either : (lower a b v ≡ min a b) ⊎ (lower a b v ≡ v)
  lower_either = ⊎_elim (λ p. inl p.1) (λ p. inr p.1) lower_cases

  pub lower_le : lower a b v ≤ v
  lower_le = ⊎_elim (λ p. omega arith) (λ p. omega arith) lower_cases

  -- a and b fall to the smaller of the two
  pub lower_of : (v ≡ a) ⊎ (v ≡ b) → lower a b v ≡ min a b
  lower_of h = ⊎_elim (λ p. p.1) (λ p. ⊎_elim (λ q. omega arith) (λ q. omega arith) h) lower_cases

  -- no other number falls
  pub lower_other : v ≢ a → v ≢ b → lower a b v ≡ v
  lower_other f g = ⊎_elim (λ p. omega arith) (λ p. p.1) lower_cases

pub lower_left : (a b : ℕ) → lower a b a ≡ min a b
lower_left a b = lower_of a b a (inl refl)

pub lower_right : (a b : ℕ) → lower a b b ≡ min a b
lower_right a b = lower_of a b b (inr refl)

-- nothing falls where the two are one
lower_self : (a v : ℕ) → lower a a v ≡ v
lower_self a v = ⊎_elim (λ p. omega arith) (λ p. p.1) (lower_cases a a v)

pub lower_comm : (a b v : ℕ) → lower a b v ≡ lower b a v
unfolding lower
lower_comm a b v = rw (max_comm a b, min_comm a b)

-- Lowering every entry of a table; what is read past its end stays 0.
pub get_or_lower : (a b : ℕ) (t : List ℕ) (k : ℕ) → get_or (map (lower a b) t) k 0 ≡ lower a b (get_or t k 0)
get_or_lower a b t k =
    let z : lower a b 0 ≡ 0 = omega (arith, lower_le a b 0) in
    rw z at (get_or-map (lower a b) t k 0)

-- Chains of steps.
pub data Linked (R : ℕ → ℕ → Type 0) : ℕ → ℕ → Type 0 where
  stay : {i : ℕ} → Linked R i i
  step : {i j : ℕ} → R i j → Linked R i j
  back : {i j : ℕ} → Linked R i j → Linked R j i
  then : {i j k : ℕ} → Linked R i j → Linked R j k → Linked R i k

-- what no step changes, no chain changes
pub linked_same : {R : ℕ → ℕ → Type 0} {A : Type 0} (g : ℕ → A) → ((i j : ℕ) → R i j → g i ≡ g j)
    → {i j : ℕ} → Linked R i j → g i ≡ g j
linked_same g h stay = refl
linked_same g h (step {i = i} {j = j} r) = h i j r
linked_same g h (back l) = sym (linked_same g h l)
linked_same g h (then l m) = linked_same g h l ∙ linked_same g h m

-- where each step of R is a chain of S, so is each chain of R
pub linked_map : {R S : ℕ → ℕ → Type 0} → ((i j : ℕ) → R i j → Linked S i j)
    → {i j : ℕ} → Linked R i j → Linked S i j
linked_map h stay = stay
linked_map h (step {i = i} {j = j} r) = h i j r
linked_map h (back l) = back (linked_map h l)
linked_map h (then l m) = then (linked_map h l) (linked_map h m)

pub linked_eq : {R : ℕ → ℕ → Type 0} {i j : ℕ} → i ≡ j → Linked R i j
linked_eq e = rw e stay

-- what holds at both ends of every step holds at one end of a chain if at the other
pub linked_iff : {R : ℕ → ℕ → Type 0} (P : ℕ → Type 0) → ((i j : ℕ) → R i j → P i × P j)
    → {i j : ℕ} → Linked R i j → P i ↔ P j
linked_iff P h stay = (λ p. p, λ p. p)
linked_iff P h (step {i = i} {j = j} r) = (λ p. (h i j r).1, λ p. (h i j r).0)
linked_iff P h (back l) = let e = linked_iff P h l in (e.1, e.0)
linked_iff P h (then l m) =
    let e = linked_iff P h l in
    let f = linked_iff P h m in
    (λ p. f.0 (e.0 p), λ p. e.1 (f.1 p))

-- the larger and the smaller of two linked numbers
linked_ends : {R : ℕ → ℕ → Type 0} (a b : ℕ) → Linked R a b → Dec (a ≤ b) → Linked R (max a b) (min a b)
linked_ends a b l (yes h) =
    let p : max a b ≡ b = omega arith in
    let q : min a b ≡ a = omega arith in
    rw (p, q) (back l)
linked_ends a b l (no h) =
    let p : max a b ≡ a = omega arith in
    let q : min a b ≡ b = omega arith in
    rw (p, q) l

-- Neighbours.
pub data Near (b c : ℕ → ℕ) (n i j : ℕ) : Type 0 where
  by_b : i < n → j ≡ b i → Near b c n i j
  by_c : i < n → j ≡ c i → Near b c n i j

abbrev pub Joined : (ℕ → ℕ) → (ℕ → ℕ) → ℕ → ℕ → ℕ → Type 0
Joined b c n = Linked (Near b c n)

-- Tying two entries of a table.
module _ (i j : ℕ) (t : List ℕ) where
  get_or_tie : (k : ℕ) → get_or (tie i j t) k 0 ≡ lower (get_or t i 0) (get_or t j 0) (get_or t k 0)
  unfolding tie
  get_or_tie k = get_or_lower (get_or t i 0) (get_or t j 0) t k

  -- the two entries become one
  pub tie_one : get_or (tie i j t) i 0 ≡ get_or (tie i j t) j 0
  tie_one =
      let a = get_or t i 0 in
      let b = get_or t j 0 in
      cc (get_or_tie i, get_or_tie j, lower_left a b, lower_right a b)

  -- entries that are equal stay equal
  pub tie_same : (x y : ℕ) → get_or t x 0 ≡ get_or t y 0 → get_or (tie i j t) x 0 ≡ get_or (tie i j t) y 0
  tie_same x y e = cc (get_or_tie x, get_or_tie y)

  length_tie : length (tie i j t) ≡ length t
  unfolding tie
  length_tie = length-map t (lower (get_or t i 0) (get_or t j 0))

  -- where the two entries are one already, the table stays
  pub tie_idle : get_or t i 0 ≡ get_or t j 0 → tie i j t ≡ t
  tie_idle e =
      ext_get_or 0 (tie i j t) t length_tie
      (λ k h. rw (get_or_tie k, e) (lower_self (get_or t j 0) (get_or t k 0)))

-- to tie two entries again changes nothing
pub tie_again : (i j : ℕ) (t : List ℕ) → tie i j (tie i j t) ≡ tie i j t
tie_again i j t = tie_idle i j (tie i j t) (tie_one i j t)

pub record Roots (b c : ℕ → ℕ) (n : ℕ) (g : ℕ → ℕ) : Type 0 where
  pub same_b : (i : ℕ) → i < n → g (b i) ≡ g i
  pub same_c : (i : ℕ) → i < n → g (c i) ≡ g i
  pub low : (i : ℕ) → i < n → g i ≤ i
  pub joined : (i : ℕ) → i < n → Joined b c n i (g i)

-- What the laws of roots tell of any such function.
module _ {b c : ℕ → ℕ} {n : ℕ} {g : ℕ → ℕ} (r : Roots b c n g) where
  -- nodes that are joined have one root
  pub roots_same : {i j : ℕ} → Joined b c n i j → g i ≡ g j
  roots_same = linked_same g go
    where
      go : (i j : ℕ) → Near b c n i j → g i ≡ g j
      go i j (by_b h e) = rw e (sym (r.same_b i h))
      go i j (by_c h e) = rw e (sym (r.same_c i h))

  -- a root is its own root
  pub roots_root : (i : ℕ) → i < n → g (g i) ≡ g i
  roots_root i h = sym (roots_same (r.joined i h))

  -- the root is the least node that is joined
  pub roots_least : {i j : ℕ} → Joined b c n i j → j < n → g i ≤ j
  roots_least {j = j} l k = rw (roots_same l) (r.low j k)

-- The laws of roots decide the function.
module _ {b c : ℕ → ℕ} {n : ℕ} {f g : ℕ → ℕ} (p : Roots b c n f) (q : Roots b c n g) where
  roots_le : (i : ℕ) → i < n → f i ≤ g i
  roots_le i h =
      let k : g i ≤ i = q.low i h in
      roots_least p (q.joined i h) (omega arith)

pub roots_unique : {b c : ℕ → ℕ} {n : ℕ} {f g : ℕ → ℕ} → Roots b c n f → Roots b c n g
    → (i : ℕ) → i < n → f i ≡ g i
roots_unique p q i h = omega (arith, roots_le p q i h, roots_le q p i h)

record Rooted (b c : ℕ → ℕ) (n : ℕ) (t : List ℕ) : Type 0 where
  low : (i : ℕ) → i < n → get_or t i 0 ≤ i
  joined : (i : ℕ) → i < n → Joined b c n i (get_or t i 0)

-- Tying keeps every entry a node that is joined and no greater.
module _ (b c : ℕ → ℕ) (n i j : ℕ) (t : List ℕ) (r : Rooted b c n t) where
  tie_joined : Joined b c n i j → i < n → j < n → (k : ℕ) → k < n → Joined b c n k (get_or (tie i j t) k 0)
  tie_joined l x y k h =
      let u = get_or t i 0 in
      let v = get_or t j 0 in
      let m = linked_ends u v (then (back (r.joined i x)) (then l (r.joined j y))) (dec_le u v) in
      ⊎_elim (λ p. then (r.joined k h) (rw (get_or_tie i j t k, p.1, p.0) m))
      (λ p. rw (get_or_tie i j t k, p.1) (r.joined k h))
      (lower_cases u v (get_or t k 0))

  tie_rooted : Joined b c n i j → i < n → j < n → Rooted b c n (tie i j t)
  tie_rooted l x y =
      record {
        low = λ k h. rw get_or_tie (omega (arith, lower_le (get_or t i 0) (get_or t j 0) (get_or t k 0), r.low k h));
        joined = tie_joined l x y;
      }

-- Tying every node below m with its neighbours.
module _ (b c : ℕ → ℕ) (t : List ℕ) where
  length_ties : (m : ℕ) → length (ties b c m t) ≡ length t
  unfolding ties
  length_ties zero = refl
  length_ties (suc m) = simp length_tie (length_ties m)

  ties_b : (m i : ℕ) → i < m → get_or (ties b c m t) (b i) 0 ≡ get_or (ties b c m t) i 0
  unfolding ties
  ties_b zero i h = absurd (not-suc-le-zero h)
  ties_b (suc m) i h =
      let u = ties b c m t in
      tie_same m (c m) (tie m (b m) u) (b i) i
      (⊎_elim (λ e. rw e (sym (tie_one m (b m) u))) (λ k. tie_same m (b m) u (b i) i (ties_b m i k)) (below_suc m i h))

  ties_c : (m i : ℕ) → i < m → get_or (ties b c m t) (c i) 0 ≡ get_or (ties b c m t) i 0
  unfolding ties
  ties_c zero i h = absurd (not-suc-le-zero h)
  ties_c (suc m) i h =
      let u = ties b c m t in
      let v = tie m (b m) u in
      ⊎_elim (λ e. rw e (sym (tie_one m (c m) v)))
      (λ k. tie_same m (c m) v (c i) i (tie_same m (b m) u (c i) i (ties_c m i k)))
      (below_suc m i h)

  -- the neighbours of the nodes below m alone count
  ties_agree : (d e : ℕ → ℕ) (m : ℕ) → ((i : ℕ) → i < m → b i ≡ d i) → ((i : ℕ) → i < m → c i ≡ e i)
      → ties b c m t ≡ ties d e m t
  unfolding ties
  ties_agree d e zero p q = refl
  ties_agree d e (suc m) p q =
      rw (ties_agree d e m (λ i h. p i (omega arith)) (λ i h. q i (omega arith)), p m (omega arith), q m (omega arith))

-- The least node reachable.
pub length_least : (n : ℕ) (b c : ℕ → ℕ) → length (least n b c) ≡ n
unfolding least
length_least n b c = length_ties b c (table n (λ i. i)) n ∙ length_table n (λ i. i)

-- neighbours that agree below n have one table
pub least_agree : (n : ℕ) (b c d e : ℕ → ℕ) → ((i : ℕ) → i < n → b i ≡ d i) → ((i : ℕ) → i < n → c i ≡ e i)
    → least n b c ≡ least n d e
unfolding least
least_agree n b c d e p q = ties_agree b c (table n (λ i. i)) d e n p q

-- Over back neighbours the table is decided by the laws of roots.
module _ (n : ℕ) (b c : ℕ → ℕ) (back-b : (i : ℕ) → i < n → b i ≤ i) (back-c : (i : ℕ) → i < n → c i ≤ i) where
  ties_rooted : (t : List ℕ) → Rooted b c n t → (m : ℕ) → m ≤ n → Rooted b c n (ties b c m t)
  unfolding ties
  ties_rooted t r zero h = r
  ties_rooted t r (suc m) h =
      let u = ties b c m t in
      let x = back-b m h in
      let y = back-c m h in
      tie_rooted b c n m (c m) (tie m (b m) u)
      (tie_rooted b c n m (b m) u (ties_rooted t r m (omega arith)) (step (by_b h refl)) h (omega arith))
      (step (by_c h refl)) h (omega arith)

  table_rooted : Rooted b c n (table n (λ i. i))
  table_rooted =
      record {
        low = λ i h. rw (get_or_table n (λ k. k) i 0 h) (le_refl i);
        joined = λ i h. rw (get_or_table n (λ k. k) i 0 h) stay;
      }

  pub least_roots : Roots b c n (λ i. get_or (least n b c) i 0)
  unfolding least
  least_roots =
      let t = table n (λ i. i) in
      let r = ties_rooted t table_rooted n (le_refl n) in
      record { same_b = ties_b b c t n; same_c = ties_c b c t n; low = r.low; joined = r.joined }

  -- past the last node an entry reads as 0
  pub least_le : (i : ℕ) → get_or (least n b c) i 0 ≤ i
  least_le i = go (dec_lt i n)
    where
      go : Dec (i < n) → get_or (least n b c) i 0 ≤ i
      go (yes h) = least_roots.low i h
      go (no h) =
          let k : length (least n b c) ≤ i = rw length_least (omega arith) in
          rw (get_or-eq_default (least n b c) 0 k) zero-le

  -- the laws of roots decide the entries
  pub least_unique : (g : ℕ → ℕ) → Roots b c n g → (i : ℕ) → i < n → g i ≡ get_or (least n b c) i 0
  least_unique g r = roots_unique r least_roots

  pub least_list : (t : List ℕ) → length t ≡ n → Roots b c n (λ i. get_or t i 0) → t ≡ least n b c
  least_list t e r =
      ext_get_or 0 t (least n b c) (e ∙ sym (length_least n b c))
      (λ i h. least_unique (λ k. get_or t k 0) r i (rw e at h))
