-- One outcome is one count, with one list of tables and one of work tables.
--   counted r ts ws == the outcome that the count r tells
use mathlib.Core.Path.{◌≡◌, sym}
use mathlib.Core.List.{List}
use Prim.Native.Nat.{ℕ}
use Rattle.std.specs.Prelude.{Result, Ok, Err}
use Rattle.answer.specs.declared.Refusal.{Refusal}
use Rattle.answer.specs.Answer.{number_of}
use Rattle.answer.proofs.Outcome.{refusal_some, ended_one, number_one}
use Rattle.count_answer.specs.Count.{values, counted}

-- the number and the values tell the count
values_one : (r q : Result ℕ Refusal) → number_of r ≡ number_of q → values r ≡ values q → r ≡ q
unfolding number_of values
values_one (Ok v) (Ok u) n e = cc
values_one (Ok v) (Err q) n e = absurd (refusal_some q (sym n))
values_one (Err r) (Ok u) n e = absurd (refusal_some r n)
values_one (Err r) (Err q) n e = let s = number_one (Err r) (Err q) n in cc

pub counted_one : (r q : Result ℕ Refusal) (ts us ws xs : List (List ℕ)) → counted r ts ws ≡ counted q us xs
    → (r ≡ q) × (ts ≡ us) × (ws ≡ xs)
unfolding counted
counted_one r q ts us ws xs e =
    let (n, v, t, w) = ended_one (number_of r) (number_of q) (values r) (values q) ts us ws xs e in
    (values_one r q n v, t, w)
