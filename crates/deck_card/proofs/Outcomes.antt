-- One outcome is one answer and one table: the number and the values tell the answer.
use mathlib.Core.Path.{◌≡◌, refl, sym, ap, ◌∙◌}
use mathlib.Core.Bool.{true, cond, Bool-set}
use mathlib.Core.HLevel.{is_prop→PathP}
use mathlib.Core.List.{List}
use Prim.Native.Nat.{ℕ}
use native.Mathlib.Omega.{arith}
use lib.Dec.{eqb}
use Rattle.std.specs.Prelude.{Result, Ok, Err}
use Rattle.sheet_size.specs.declared.Size.{Size}
use Rattle.sheet_size.specs.Size.{within}
use Rattle.deck_card.specs.declared.answer.Fault.{Fault}
use Rattle.deck_card.specs.declared.answer.ReadRefusal.{ReadRefusal}
use Rattle.deck_card.specs.declared.answer.WriteRefusal.{WriteRefusal}
use Rattle.deck_card.specs.Outcome.{DeckOutcome, Verdict, Sheet, Refused, fault_number, verdict, verdict_outcome, read_outcome}
use Rattle.deck_card.specs.Outcome.{write_number, write_outcome}

pub verdict_one : (a b : Verdict) (t u : List ℕ) → verdict_outcome a t ≡ verdict_outcome b u → (a ≡ b) × (t ≡ u)
unfolding verdict_outcome
verdict_one (Sheet w h) (Sheet a b) t u e =
    let v = ap (λ (o : DeckOutcome). o.values) e in
    (cc, ap (λ (o : DeckOutcome). o.table) e)
verdict_one (Sheet w h) (Refused n k) t u e =
    let v = ap (λ (o : DeckOutcome). o.values) e in
    let z : ◌≡◌ {A = ℕ} 0 1 = cc in
    absurd (omega arith)
verdict_one (Refused n k) (Sheet w h) t u e =
    let v = ap (λ (o : DeckOutcome). o.values) e in
    let z : ◌≡◌ {A = ℕ} 0 1 = cc in
    absurd (omega arith)
verdict_one (Refused n k) (Refused m j) t u e =
    let v = ap (λ (o : DeckOutcome). o.values) e in
    let q = ap (λ (o : DeckOutcome). o.number) e in
    (cc, ap (λ (o : DeckOutcome). o.table) e)

-- a number tells the fault
fault_of : ℕ → Fault
fault_of n =
    cond (eqb n 20) Fault.Card
    (cond (eqb n 21) Fault.Header
    (cond (eqb n 22) Fault.Number
    (cond (eqb n 23) Fault.Cell
    (cond (eqb n 24) Fault.Blank (cond (eqb n 25) Fault.End Fault.Table)))))

fault_of_number : (f : Fault) → fault_of (fault_number f) ≡ f
unfolding fault_of
fault_of_number Fault.Card = refl
fault_of_number Fault.Header = refl
fault_of_number Fault.Number = refl
fault_of_number Fault.Cell = refl
fault_of_number Fault.Blank = refl
fault_of_number Fault.End = refl
fault_of_number Fault.Table = refl

pub fault_one : (f g : Fault) → fault_number f ≡ fault_number g → f ≡ g
fault_one f g e = sym (fault_of_number f) ∙ ap fault_of e ∙ fault_of_number g

-- it is not 0
pub fault_some : (f : Fault) → fault_number f ≡ 0 → ⊥
fault_some Fault.Card e = omega arith
fault_some Fault.Header e = omega arith
fault_some Fault.Number e = omega arith
fault_some Fault.Cell e = omega arith
fault_some Fault.Blank e = omega arith
fault_some Fault.End e = omega arith
fault_some Fault.Table e = omega arith

-- a width and a height tell the size
pub size_one : (s t : Size) → s.width ≡ t.width → s.height ≡ t.height → s ≡ t
size_one s t e f =
    let h = is_prop→PathP (λ i. within (e i) (f i) ≡ true) (λ i. Bool-set (within (e i) (f i)) true) s.limited t.limited in
    λ i. record { width = e i; height = f i; limited = h i }

pub read_one : (a b : Result Size ReadRefusal) (t u : List ℕ) → read_outcome a t ≡ read_outcome b u → (a ≡ b) × (t ≡ u)
unfolding read_outcome
read_one a b t u e = let p = verdict_one (verdict a) (verdict b) t u e in (by a b p.0, p.1)
  where
    by : (a b : Result Size ReadRefusal) → verdict a ≡ verdict b → a ≡ b
    by (Ok s) (Ok t) q =
        let w : s.width ≡ t.width = cc in
        let h : s.height ≡ t.height = cc in
        let e = size_one s t w h in
        λ i. Ok (e i)
    by (Ok s) (Err r) q = cc
    by (Err r) (Ok s) q = cc
    by (Err r) (Err p) q =
        let n : fault_number r.fault ≡ fault_number p.fault = cc in
        let f = fault_one r.fault p.fault n in
        let k : r.card ≡ p.card = cc in
        λ i. Err (record { fault = f i; card = k i })

answer_of : ℕ → Result (Unit {0}) WriteRefusal
answer_of n =
    cond (eqb n 0) (Ok tt)
    (cond (eqb n 1) (Err WriteRefusal.Size)
    (cond (eqb n 3) (Err WriteRefusal.Sheet)
    (cond (eqb n 4) (Err WriteRefusal.Deck)
    (Err WriteRefusal.Label))))

answer_of_number : (a : Result (Unit {0}) WriteRefusal) → answer_of (write_number a) ≡ a
unfolding answer_of
answer_of_number (Ok done) = refl
answer_of_number (Err WriteRefusal.Size) = refl
answer_of_number (Err WriteRefusal.Sheet) = refl
answer_of_number (Err WriteRefusal.Deck) = refl
answer_of_number (Err WriteRefusal.Label) = refl

pub write_one : (a b : Result (Unit {0}) WriteRefusal) (t u : List ℕ) → write_outcome a t ≡ write_outcome b u
    → (a ≡ b) × (t ≡ u)
unfolding write_outcome
write_one a b t u e =
    let n = ap (λ (o : DeckOutcome). o.number) e in
    (sym (answer_of_number a) ∙ ap answer_of n ∙ answer_of_number b, ap (λ (o : DeckOutcome). o.table) e)
