-- Pieces counted at their least points, point by point.
--   round_at s t p   == the region round the piece of which p is the least point, the mark where it is the least of none
--   rounded_by s t r p == that region is r
--   pieces s t r    == how many pieces the region r lies round
--   Tallied s t p m l == the table l of m entries has, for each name, how many of the pieces met before the point p it lies round
use mathlib.Core.Path.{◌≡◌, refl, sym, ap, ◌∙◌}
use mathlib.Core.Bool.{Bool, true, false}
use mathlib.Core.List.{List}
use mathlib.Core.Logic.{◌≢◌, ⊎_elim}
use Prim.Native.Nat.{ℕ, ◌+◌, ◌*◌, ◌-◌, ◌≤◌, ◌<◌}
use native.Mathlib.Numerals.{add-one}
use native.Mathlib.Omega.{arith}
use lib.Dec.{eqb}
use lib.ListN.{length, get_or, set, length-set, replicate, length-replicate, get_or-replicate}
use lib.Seq.{ext_get_or}
use borrow.Author.Tests.{eq-eqb, ne_eqb}
use Rattle.laws.specs.Table.{table, count}
use Rattle.laws.proofs.Count.{count_le}
use Rattle.laws.proofs.Table.{length_table, get_or_table}
use Rattle.point_darts.specs.Dart.{mark, dart}
use Rattle.table_entries.proofs.Entries.{at_in, at_end, set_cases}
use Rattle.count_holes.specs.Round.{round_at, pieces, Sized}

abbrev pub rounded_by : List ℕ → List ℕ → ℕ → ℕ → Bool
rounded_by s t r p = eqb (round_at s t p) r

module _ (s t : List ℕ) (p : ℕ) where
  -- j is the first slot of the point after p
  pub round_own : get_or t p 0 ≡ p → (j : ℕ) → j ≡ dart (p + 1) 0 → j + 2 < length s → get_or s (j + 2) 0 ≡ round_at s t p
  unfolding round_at dart
  round_own e j q b =
      let k : 4 * (p + 1) + 2 ≡ j + 2 = omega arith in
      rw (eq-eqb (get_or t p 0) p e, k) (at_in s (j + 2) b)

  pub round_none : get_or t p 0 ≢ p → mark ≡ round_at s t p
  unfolding round_at
  round_none e = rw (ne_eqb (get_or t p 0) p e)

  -- a piece more, or none
  module _ (r n v : ℕ) (e : n ≡ count p (rounded_by s t r)) (q : v ≡ round_at s t p) where
    pub rounded_more : v ≡ r → n + 1 ≡ count (p + 1) (rounded_by s t r)
    unfolding count
    rounded_more i = rw (add-one p, ← q, eq-eqb v r i) (omega arith)

    pub rounded_same : v ≢ r → n ≡ count (p + 1) (rounded_by s t r)
    unfolding count
    rounded_same i = rw (add-one p, ← q, ne_eqb v r i) (omega arith)

module _ (s t : List ℕ) where
  pub rounded_none : (r : ℕ) → 0 ≡ count 0 (rounded_by s t r)
  unfolding count
  rounded_none r = refl

  pub rounded_le : (r p : ℕ) → count p (rounded_by s t r) ≤ p
  rounded_le r p = count_le (rounded_by s t r) p

  -- no line leads east from the last point
  module _ (z : Sized s t) where
    last_none : (b : Bool) → eqb (get_or t (length t - 1) 0) (length t - 1) ≡ b → round_at s t (length t - 1) ≡ mark
    unfolding round_at dart
    last_none true e = rw e (at_end s _ (omega (arith, z.four, z.some)))
    last_none false e = rw e

    pub rounded_all : (r p n : ℕ) → r < mark → n ≡ count p (rounded_by s t r) → p ≡ length t - 1 → n ≡ pieces s t r
    unfolding pieces
    rounded_all r p n b e q =
        let l : length t ≡ p + 1 = omega (arith, z.some) in
        let f : round_at s t p ≡ mark = rw (← q) at (last_none _ refl) in
        rounded_same s t p r n mark e (sym f) (λ i. omega arith) ∙ ap (λ k. count k (rounded_by s t r)) (sym l)

pub record Tallied (s t : List ℕ) (p m : ℕ) (l : List ℕ) : Type 0 where
  pub long : length l ≡ m
  pub entry : (k : ℕ) → k < m → get_or l k 0 ≡ count p (rounded_by s t k)

module _ (s t : List ℕ) (m : ℕ) where
  pub tallied_none : (n : ℕ) (l : List ℕ) → l ≡ replicate n 0 → length l ≡ m → Tallied s t 0 m l
  tallied_none n l e z =
      record {
        long = z;
        entry = λ k b.
            let d : length l ≡ n = ap length e ∙ length-replicate n 0 in
            rw e (get_or-replicate n k 0 0 (omega arith)) ∙ rounded_none s t k;
      }

  module _ (p v : ℕ) (l : List ℕ) (y : Tallied s t p m l) (q : v ≡ round_at s t p) where
    pub tallied_past : m ≤ v → Tallied s t (p + 1) m l
    tallied_past b =
        record {
          long = y.long;
          entry = λ k d. rounded_same s t p k (get_or l k 0) v (y.entry k d) q (λ i. omega arith);
        }

    pub tallied_more : v < m → Tallied s t (p + 1) m (set l v (get_or l v 0 + 1))
    tallied_more b =
        record {
          long = length-set l v (get_or l v 0 + 1) ∙ y.long;
          entry = λ k d. ⊎_elim
              (λ i. i.1 ∙ rounded_more s t p k (get_or l v 0) v (rw i.0 (y.entry v b)) q (sym i.0))
              (λ i. i.1 ∙ rounded_same s t p k (get_or l k 0) v (y.entry k d) q (λ j. i.0 (sym j)))
              (set_cases l v (get_or l v 0 + 1) k (omega (arith, y.long)));
        }

  pub tallied_all : Sized s t → m ≤ mark → (p : ℕ) (l : List ℕ) → Tallied s t p m l → p ≡ length t - 1
      → l ≡ table m (pieces s t)
  tallied_all z f p l y e =
      ext_get_or 0 l (table m (pieces s t)) (y.long ∙ sym (length_table m (pieces s t)))
      (λ k b.
      let d : k < m = omega (arith, y.long) in
      rounded_all s t z k p (get_or l k 0) (omega arith) (y.entry k d) e ∙ sym (get_or_table m (pieces s t) k 0 d))
