-- The cells of the names in use add up to the cells of the sheet.
--   sum f k n       == f k + f (k + 1) + .., in all n terms
--   sum_counts      == as every number below n has one value f i, the counts by value add up to n
--   drawn_sum       == in a drawing the entries of the table of cells, marks as 0, add up to w * h
use mathlib.Core.Path.{◌≡◌, refl, sym, ap₂, ◌∙◌}
use mathlib.Core.Bool.{Bool, true, false, cond}
use mathlib.Core.List.{List}
use Prim.Native.Nat.{ℕ, zero, suc, ◌+◌, ◌*◌, ◌<◌, ◌≤◌}
use native.Mathlib.Nat.{zero-add}
use native.Mathlib.Decide.{ℕ_discrete}
use native.Mathlib.Omega.{arith}
use lib.Dec.{eqb}
use lib.ListN.{get_or}
use borrow.Author.Tests.{eq-eqb, ne_eqb, eqb-true}
use Rattle.laws.specs.Table.{listed, table, number, count}
use Rattle.point_darts.specs.Dart.{mark, slots}
use Rattle.paper.specs.Name.{label, names}
use Rattle.paper.specs.Total.{cells_of, total, totals, summed}
use Rattle.paper.specs.Drawing.{Tables, drawn, drawing, Drawn}
use Rattle.paper_laws.proofs.Added.{cells_most}
use Rattle.paper_laws.proofs.Name.{name_le}
use Rattle.paper_laws.proofs.Marks.{cells_slots}

-- Sums.
unfoldable sum : (ℕ → ℕ) → ℕ → ℕ → ℕ
sum f k zero = 0
sum f k (suc n) = f k + sum f (suc k) n

sum_zero : (k n : ℕ) → sum (λ i. 0) k n ≡ 0
unfolding sum
sum_zero k zero = refl
sum_zero k (suc n) = rw (sum_zero (suc k) n)

sum_add : (f g : ℕ → ℕ) (k n : ℕ) → sum (λ i. f i + g i) k n ≡ sum f k n + sum g k n
unfolding sum
sum_add f g k zero = refl
sum_add f g k (suc n) = rw (sum_add f g (suc k) n) (omega arith)

-- the number v is none of those from k on, or one of n from k on
sum_before : (v k n : ℕ) → v < k → sum (λ r. number (eqb v r)) k n ≡ 0
unfolding sum
sum_before v k zero l = refl
sum_before v k (suc n) l = rw (ne_eqb v k (omega arith), sum_before v (suc k) n (omega arith))

sum_single : (v k n : ℕ) → k ≤ v → v < k + n → sum (λ r. number (eqb v r)) k n ≡ 1
unfolding sum
sum_single v k zero a b = absurd (omega arith)
sum_single v k (suc n) a b = go (ℕ_discrete v k) (sum_single v (suc k) n)
  where
    go : Dec (v ≡ k) → (suc k ≤ v → v < suc k + n → sum (λ r. number (eqb v r)) (suc k) n ≡ 1)
        → number (eqb v k) + sum (λ r. number (eqb v r)) (suc k) n ≡ 1
    go (yes e) r = rw (eq-eqb v k e, sum_before v (suc k) n (omega arith))
    go (no e) r = rw (ne_eqb v k e, r (omega arith) (omega arith))

-- every number below n has one value f i, so the counts by value add up to n
sum_counts : (f : ℕ → ℕ) (m n : ℕ) → ((i : ℕ) → i < n → f i < m) → sum (λ r. count n (λ i. eqb (f i) r)) 0 m ≡ n
unfolding count
sum_counts f m zero b = sum_zero 0 m
sum_counts f m (suc n) b =
    sum_add (λ r. number (eqb (f n) r)) (λ r. count n (λ i. eqb (f i) r)) 0 m
    ∙ ap₂ ◌+◌ (sum_single (f n) 0 m (omega arith) (rw (zero-add m) (b n (omega arith))))
    (sum_counts f m n (λ i l. b i (omega arith)))
    ∙ (let e : 1 + n ≡ suc n = omega arith in e)

-- A table whose entries, a mark as 0, are the values of f adds up to the sum of f.
summed_listed : (f g : ℕ → ℕ) → ((i : ℕ) → cond (eqb (g i) mark) 0 (g i) ≡ f i) → (k n : ℕ)
    → summed (listed g k n) ≡ sum f k n
unfolding summed listed sum
summed_listed f g e k zero = refl
summed_listed f g e k (suc n) = ap₂ ◌+◌ (e k) (summed_listed f g e (suc k) n)

-- A count below the mark is what its total adds.
module _ (c : ℕ → ℕ) (small : (r : ℕ) → c r < mark) where
  total_adds : (r : ℕ) → cond (eqb (total c c r) mark) 0 (total c c r) ≡ c r
  unfolding total
  total_adds zero = rw (ne_eqb (c 0) mark (λ e. omega (arith, small 0)))
  total_adds (suc r) = go (eqb (c (suc r)) 0) refl
    where
      go : (b : Bool) → eqb (c (suc r)) 0 ≡ b
          → cond (eqb (cond b mark (c (suc r))) mark) 0 (cond b mark (c (suc r))) ≡ c (suc r)
      go true e = rw (eq-eqb mark mark refl) (sym (eqb-true (c (suc r)) 0 e))
      go false e = rw (ne_eqb (c (suc r)) mark (λ q. omega (arith, small (suc r))))

module _ (w h : ℕ) (room : slots w h ≤ mark) where
  names_sum : (s : List ℕ) → sum (cells_of w h (names w h s)) 0 (w * h + 1) ≡ w * h
  unfolding cells_of label
  names_sum s =
      sum_counts (λ i. get_or (names w h s) i 0) (w * h + 1) (w * h) (λ i b. omega (arith, name_le w h s i b))

  -- In a drawing the cells of the names in use add up to the cells of the sheet.
  pub drawn_sum : (t : Tables) → Drawn w h t → summed t.cells ≡ w * h
  unfolding drawing drawn totals table
  drawn_sum t d =
      let s = d.labels in
      let c = cells_of w h (names w h s) in
      rw (← d.same)
      (summed_listed c (total c c) (total_adds c (λ r. omega (arith, cells_most w h (names w h s) r, cells_slots w h))) 0 (w * h + 1)
      ∙ names_sum s)
