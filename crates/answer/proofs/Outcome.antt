-- The outcomes that an answer tells.
--   outcome k vs ts us ws == the outcome with the number k: done, the values vs and the tables us; else the tables ts
--   work_left k ws   == what such an outcome leaves of the work tables ws
--   told r ts ws    == the outcome that the answer r tells, with no values
use mathlib.Core.Path.{◌≡◌, refl, sym, ap, ◌∙◌}
use mathlib.Core.Bool.{cond}
use mathlib.Core.List.{List, []}
use mathlib.Core.Logic.{◌≢◌}
use Prim.Native.Nat.{ℕ, zero, suc, ◌≤◌, ◌<◌}
use native.Mathlib.Omega.{arith}
use lib.Dec.{eqb}
use borrow.Author.Tests.{lt-ltb, le-ltb}
use Rattle.paper.specs.Refusal.{Outcome, ended, work_left, outcome, cleared}
use Rattle.std.specs.Prelude.{Result, Ok, Err}
use Rattle.std.specs.Result.{IsErrAnd}
use Rattle.std.proofs.lemmas.Result.{err_from_is_err_and}
use Rattle.answer.specs.declared.Refusal.{Refusal}
use Rattle.answer.specs.Answer.{refusal_number, number_of, told}

-- refusals 1 to 4 leave the work tables
pub work_kept : (k : ℕ) (ws : List (List ℕ)) → k ≢ 0 → k < 5 → work_left k ws ≡ ws
unfolding work_left
work_kept zero ws n l = absurd (n refl)
work_kept (suc k) ws n l = rw (lt-ltb k 4 (omega (arith, l)))

-- done and the later refusals clear them
pub work_cleared : (k : ℕ) (ws : List (List ℕ)) → (k ≢ 0 → 5 ≤ k) → work_left k ws ≡ cleared ws
unfolding work_left
work_cleared zero ws l = refl
work_cleared (suc k) ws l = rw (le-ltb k 4 (omega (arith, l (λ z. omega (arith, z)))))

-- The number and the work tables of an outcome.
module _ (k : ℕ) (vs : List ℕ) (ts us ws : List (List ℕ)) where
  pub outcome_number : (outcome k vs ts us ws).number ≡ k
  unfolding outcome
  outcome_number = by k
    where
      by : (k : ℕ) → (outcome k vs ts us ws).number ≡ k
      by zero = refl
      by (suc k) = refl

  pub outcome_work : (outcome k vs ts us ws).work ≡ work_left k ws
  unfolding outcome work_left
  outcome_work = by k
    where
      by : (k : ℕ) → (outcome k vs ts us ws).work ≡ work_left k ws
      by zero = refl
      by (suc k) = refl

  -- an outcome that refuses, and one that is done
  pub outcome_refused : k ≢ 0 → (xs : List (List ℕ)) → xs ≡ work_left k ws → ended k [] ts xs ≡ outcome k vs ts us ws
  unfolding outcome work_left
  outcome_refused = by k
    where
      by : (k : ℕ) → k ≢ 0 → (xs : List (List ℕ)) → xs ≡ work_left k ws → ended k [] ts xs ≡ outcome k vs ts us ws
      by zero n xs e = absurd (n refl)
      by (suc k) n xs e = rw e

  pub outcome_done : k ≡ 0 → (zs xs : List (List ℕ)) → zs ≡ us → xs ≡ cleared ws
      → ended 0 vs zs xs ≡ outcome k vs ts us ws
  unfolding outcome work_left
  outcome_done e zs xs p q = rw (e, p, q)

-- An answer of a number.
module _ (r : Result (Unit {0}) Refusal) (k : ℕ) (e : number_of r ≡ k) where
  pub told_refused : number_of r ≢ 0 → (vs : List ℕ) (ts us ws xs : List (List ℕ)) → xs ≡ work_left k ws
      → told r ts xs ≡ outcome k vs ts us ws
  unfolding told
  told_refused n vs ts us ws xs p = rw e (outcome_refused k vs ts us ws (λ z. n (e ∙ z)) xs p)

  -- the number is below 5, so that nothing has changed
  pub told_early : number_of r ≢ 0 → k < 5 → (vs : List ℕ) (ts us ws : List (List ℕ)) → told r ts ws ≡ outcome k vs ts us ws
  told_early n l vs ts us ws = told_refused n vs ts us ws ws (sym (work_kept k ws (λ z. n (e ∙ z)) l))

  pub told_done : number_of r ≡ 0 → (ts us ws zs xs : List (List ℕ)) → zs ≡ us → xs ≡ cleared ws
      → told r zs xs ≡ outcome k [] ts us ws
  unfolding told
  told_done z ts us ws zs xs p q = rw z (outcome_done k [] ts us ws (sym e ∙ z) zs xs p q)

  -- a call that leaves its tables, whatever it answers
  pub told_left : (ts ws xs : List (List ℕ)) → xs ≡ work_left k ws → told r ts xs ≡ outcome k [] ts ts ws
  unfolding told work_left outcome
  told_left ts ws xs p = rw e (by k p)
    where
      by : (k : ℕ) → xs ≡ work_left k ws → ended k [] ts xs ≡ outcome k [] ts ts ws
      by zero p = rw p
      by (suc k) p = rw p

-- No refusal has the number of done.
pub refusal_some : (x : Refusal) → refusal_number x ≢ 0
refusal_some Refusal.Size e = omega (arith, e)
refusal_some Refusal.Level e = omega (arith, e)
refusal_some Refusal.Sheet e = omega (arith, e)
refusal_some Refusal.Tables e = omega (arith, e)
refusal_some Refusal.Drawing e = omega (arith, e)
refusal_some Refusal.Outside e = omega (arith, e)
refusal_some Refusal.Equal e = omega (arith, e)
refusal_some Refusal.Name e = omega (arith, e)
refusal_some Refusal.Apart e = omega (arith, e)
refusal_some Refusal.Owner e = omega (arith, e)
refusal_some Refusal.Editor e = omega (arith, e)
refusal_some Refusal.List e = omega (arith, e)

-- A refusal that a call hands on: r refuses x, and so does q.
module _ (r q : Result (Unit {0}) Refusal) (x : Refusal) (e : r ≡ Err x) (i : IsErrAnd q (λ y. y ≡ x)) where
  pub handed_on : (number_of r ≢ 0) × (q ≡ r)
  unfolding number_of
  handed_on = let p = err_from_is_err_and q i in (rw e (refusal_some x), p.1 ∙ ap Err p.2 ∙ sym e)

  pub told_on : (ts ws : List (List ℕ)) (o : Outcome) → (number_of r ≢ 0 → told r ts ws ≡ o) → told q ts ws ≡ o
  told_on ts ws o f = rw handed_on.1 (f handed_on.0)

-- One outcome has one number, one list of values, one of tables and one of work tables.
pub ended_one : (k n : ℕ) (vs us : List ℕ) (ts xs ws ys : List (List ℕ)) → ended k vs ts ws ≡ ended n us xs ys
    → (k ≡ n) × (vs ≡ us) × (ts ≡ xs) × (ws ≡ ys)
ended_one k n vs us ts xs ws ys e = (
  ap (λ (o : Outcome). o.number) e,
  ap (λ (o : Outcome). o.values) e,
  ap (λ (o : Outcome). o.tables) e,
  ap (λ (o : Outcome). o.work) e,
)

-- The number tells the answer, so one outcome is one answer.
answer_of : ℕ → Result (Unit {0}) Refusal
answer_of n =
    cond (eqb n 0) (Ok tt)
    (cond (eqb n 1) (Err Refusal.Size)
    (cond (eqb n 2) (Err Refusal.Level)
    (cond (eqb n 3) (Err Refusal.Sheet)
    (cond (eqb n 4) (Err Refusal.Tables)
    (cond (eqb n 5) (Err Refusal.Drawing)
    (cond (eqb n 6) (Err Refusal.Outside)
    (cond (eqb n 7) (Err Refusal.Equal)
    (cond (eqb n 8) (Err Refusal.Name)
    (cond (eqb n 9) (Err Refusal.Apart)
    (cond (eqb n 10) (Err Refusal.Owner)
    (cond (eqb n 11) (Err Refusal.Editor)
    (Err Refusal.List))))))))))))

answer_of_number : (r : Result (Unit {0}) Refusal) → answer_of (number_of r) ≡ r
unfolding answer_of number_of
answer_of_number (Ok done) = refl
answer_of_number (Err Refusal.Size) = refl
answer_of_number (Err Refusal.Level) = refl
answer_of_number (Err Refusal.Sheet) = refl
answer_of_number (Err Refusal.Tables) = refl
answer_of_number (Err Refusal.Drawing) = refl
answer_of_number (Err Refusal.Outside) = refl
answer_of_number (Err Refusal.Equal) = refl
answer_of_number (Err Refusal.Name) = refl
answer_of_number (Err Refusal.Apart) = refl
answer_of_number (Err Refusal.Owner) = refl
answer_of_number (Err Refusal.Editor) = refl
answer_of_number (Err Refusal.List) = refl

pub number_one : (r q : Result (Unit {0}) Refusal) → number_of r ≡ number_of q → r ≡ q
number_one r q e = sym (answer_of_number r) ∙ ap answer_of e ∙ answer_of_number q

pub told_one : (r q : Result (Unit {0}) Refusal) (ts us ws xs : List (List ℕ)) → told r ts ws ≡ told q us xs
    → (r ≡ q) × (ts ≡ us) × (ws ≡ xs)
unfolding told
told_one r q ts us ws xs e =
    let (n, v, t, w) = ended_one (number_of r) (number_of q) [] [] ts us ws xs e in
    (number_one r q n, t, w)
