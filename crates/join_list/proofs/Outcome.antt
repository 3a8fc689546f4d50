-- One outcome is one answer to a list.
--   listed r ts ws  == the outcome that the answer r tells
use mathlib.Core.Path.{◌≡◌, refl, ap, ap₂}
use mathlib.Core.List.{List}
use Prim.Native.Nat.{ℕ}
use native.Mathlib.Omega.{arith}
use lib.ListN.{length, get_or}
use Rattle.std.specs.Prelude.{Result, Ok, Err}
use Rattle.answer.specs.declared.Refusal.{Refusal}
use Rattle.answer.specs.Answer.{refusal_number, number_of}
use Rattle.answer.proofs.Outcome.{ended_one, number_one}
use Rattle.join_list.specs.declared.each.ListRefusal.{ListRefusal}
use Rattle.join_list.specs.Answer.{list_number, list_values, listed}

refusal_one : (x y : Refusal) → refusal_number x ≡ refusal_number y → x ≡ y
unfolding number_of
refusal_one x y e = let p : Err x ≡ Err y = number_one (Err x) (Err y) e in cc

abbrev refused : Refusal → ℕ → Result (Unit {0}) ListRefusal
refused x i = Err (record { refusal = x; place = i })

values_one : (r q : Result (Unit {0}) ListRefusal) → list_number r ≡ list_number q → list_values r ≡ list_values q → r ≡ q
unfolding list_number list_values
values_one (Ok done) (Ok again) e f = refl
values_one (Ok done) (Err q) e f = absurd (omega (arith, ap length f))
values_one (Err r) (Ok done) e f = absurd (omega (arith, ap length f))
values_one (Err r) (Err q) e f =
    ap₂ refused (refusal_one r.refusal q.refusal e) (ap (λ l. get_or l 0 0) f)

pub listed_one : (r q : Result (Unit {0}) ListRefusal) (ts us ws xs : List (List ℕ)) → listed r ts ws ≡ listed q us xs
    → (r ≡ q) × (ts ≡ us) × (ws ≡ xs)
unfolding listed
listed_one r q ts us ws xs e =
    let (n, v, t, w) = ended_one (list_number r) (list_number q) (list_values r) (list_values q) ts us ws xs e in
    (values_one r q n v, t, w)
