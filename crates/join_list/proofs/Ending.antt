-- What a list leaves when it ends: its parents are found last, and nothing has read them before.
--   found w h x s y o c e == the seven tables of which these are six: the parents are found from the sides s
--   Ended r s t     == the answer r tells the stop s, with the tables t
use mathlib.Core.Path.{◌≡◌, refl, sym, ap, ◌∙◌}
use mathlib.Core.Bool.{true}
use mathlib.Core.List.{List, [], ◌∷◌}
use mathlib.Core.Logic.{◌≢◌}
use Prim.Native.Nat.{ℕ, zero, suc, ◌≤◌}
use native.Mathlib.Decide.{ℕ_discrete}
use lib.ListN.{length}
use Rattle.std.specs.Prelude.{Result, Ok, Err}
use Rattle.std.specs.Result.{MatchResult, IsErrAnd}
use Rattle.std.proofs.lemmas.Result.{err_from_is_err_and}
use Rattle.laws.specs.First.{first_failed}
use Rattle.laws.proofs.First.{failed_from}
use Rattle.sheet_size.specs.Size.{within}
use Rattle.paper.specs.Name.{names}
use Rattle.paper.specs.Enclosure.{parents}
use Rattle.paper.specs.Drawing.{Tables, drawing, Drawn}
use Rattle.paper.specs.Joining.{at, on, joined}
use Rattle.paper.specs.Refusal.{sized, stated, pair_tests}
use Rattle.paper.specs.Order.{Stop, pairs, unless, joins, placed, stop}
use Rattle.paper_laws.proofs.Marks.{within_fits, names_side_small}
use Rattle.paper_laws.proofs.Joined.{parents_drawn}
use Rattle.paper_laws.proofs.Order.{pair_numbered}
use Rattle.answer.specs.declared.Refusal.{Refusal}
use Rattle.answer.specs.Answer.{refusal_number, number_of}
use Rattle.answer.proofs.Outcome.{refusal_some}
use Rattle.table_lengths.specs.Given.{tables, works}
use Rattle.join_rule.specs.Apply.{pair, found}
use Rattle.join_rule.proofs.Readiness.{stated_pair}
use Rattle.join_list.specs.declared.each.ListRefusal.{ListRefusal}
use Rattle.join_list.specs.Answer.{list_number, list_values}
use Rattle.join_list.specs.Each.{Open, Left, Ended}

-- An answer a of a call, with the place i where it is a refusal: r tells its number, and the place.
module _ (i : ℕ) where
  at_place : (k : ℕ) → k ≢ 0 → i ∷ [] ≡ placed k i
  unfolding placed
  at_place zero z = absurd (z refl)
  at_place (suc k) z = refl

  pub told_placed : (Q : Refusal → ListRefusal → Type 0) → ((x : Refusal) (q : ListRefusal) → Q x q → q ≡ record { refusal = x; place = i })
      → (a : Result (Unit {0}) Refusal) (r : Result (Unit {0}) ListRefusal) → MatchResult a (λ x. r ≡ Ok x) (λ x. IsErrAnd r (Q x))
      → (list_number r ≡ number_of a) × (list_values r ≡ placed (number_of a) i)
  unfolding list_number list_values placed number_of
  told_placed Q f (Ok x) r m = rw m (refl, refl)
  told_placed Q f (Err x) (Ok y) m = absurd m
  told_placed Q f (Err x) (Err y) m = rw (f x y m) (refl, at_place (refusal_number x) (refusal_some x))

-- A refusal that is handed on: r refuses x, and so does q.
pub handed_on : (r q : Result (Unit {0}) ListRefusal) (x : ListRefusal) → r ≡ Err x → IsErrAnd q (λ y. y ≡ x)
    → (list_number r ≢ 0) × (q ≡ r)
unfolding list_number
handed_on r q x e i = let p = err_from_is_err_and q i in (rw e (refusal_some x.refusal), p.1 ∙ ap Err p.2 ∙ sym e)

-- It tells where the list stops.
pub stop_ended : (n i : ℕ) (t : Tables) (s : Stop) → stop n i t ≡ s
    → (r : Result (Unit {0}) ListRefusal) → (list_number r ≡ n) × (list_values r ≡ placed n i)
    → Ended r s t
stop_ended n i t s e r p =
    record {
      number = p.0 ∙ ap (λ (z : Stop). z.number) e;
      values = p.1 ∙ ap (λ (z : Stop). placed z.number z.place) e;
      tables = ap (λ (z : Stop). z.tables) e;
    }

-- No entry is refused with a number below 6.
unless_late : (k i : ℕ) (t : Tables) (s : Stop) → (k ≢ 0 → 6 ≤ k) → (s.number ≢ 0 → 6 ≤ s.number)
    → (unless k i t s).number ≢ 0 → 6 ≤ (unless k i t s).number
unfolding unless
unless_late zero i t s f g = g
unless_late (suc k) i t s f g = f

pub joins_late : (w h i : ℕ) (l : List (ℕ × ℕ)) (t : Tables) → (joins w h i l t).number ≢ 0 → 6 ≤ (joins w h i l t).number
unfolding joins
joins_late w h i [] t = λ n. absurd (n refl)
joins_late w h i (e ∷ l) t =
    unless_late (first_failed (pair_tests w h t.side1 t.parent e.0 e.1)) i t
    (joins w h (suc i) l (joined w h t e.0 e.1))
    (failed_from 6 10 (pair_tests w h t.side1 t.parent e.0 e.1) (pair_numbered w h t.side1 t.parent e.0 e.1))
    (joins_late w h (suc i) l (joined w h t e.0 e.1))

-- The parents of a drawing are those that its sides tell.
drawn_parents : (w h : ℕ) (t : Tables) → within w h ≡ true → Drawn w h t → parents w h (on t.side1) (at t.side1) ≡ t.parent
unfolding drawing
drawn_parents w h t e d =
    let s = d.labels in
    rw (← d.same) (parents_drawn w h (names w h s) (names_side_small w h s (within_fits w h e)))

module _ (w h : ℕ) (x s y o p c e b l : List ℕ) (k : Open w h (tables x s y o p c e) (pair b l)) where
  told_parents : parents w h (on s) (at s) ≡ p
  told_parents = drawn_parents w h (tables x s y o p c e) k.size k.drawn

  same_found : found w h x s y o c e ≡ tables x s y o p c e
  same_found = ap (λ q. tables x s y o q c e) told_parents

  pub open_found : Open w h (found w h x s y o c e) (pair b l)
  open_found = rw same_found k

  -- The entries ns are joined but for the parents, and these are found; n is the number and i the place of the stop.
  module _ (ns : List ℕ) (n i : ℕ) (x₁ s₁ y₁ o₁ p₁ c₁ e₁ b₁ l₁ : List ℕ)
      (f : stop n i (found w h x₁ s₁ y₁ o₁ c₁ e₁) ≡ joins w h 0 (pairs ns) (found w h x s y o c e))
      (left : Left w h i (found w h x s y o c e) b l (found w h x₁ s₁ y₁ o₁ c₁ e₁) b₁ l₁)
      (kept : i ≡ 0 → p₁ ≡ p) (new : i ≢ 0 → p₁ ≡ parents w h (on s₁) (at s₁)) where
    last_parents : Dec (i ≡ 0) → p₁ ≡ parents w h (on s₁) (at s₁)
    last_parents (yes z) = kept z ∙ sym told_parents ∙ sym (ap (λ (t : Tables). t.parent) (left.none z).0)
    last_parents (no z) = new z

    stops : stop n i (tables x₁ s₁ y₁ o₁ p₁ c₁ e₁) ≡ joins w h 0 (pairs ns) (tables x s y o p c e)
    stops =
        ap (λ q. stop n i (tables x₁ s₁ y₁ o₁ q c₁ e₁)) (last_parents (ℕ_discrete i 0))
        ∙ f
        ∙ ap (joins w h 0 (pairs ns)) same_found

    pub all_ended : (r : Result (Unit {0}) ListRefusal) → (list_number r ≡ n) × (list_values r ≡ placed n i)
        → Ended r (joins w h 0 (pairs ns) (tables x s y o p c e)) (tables x₁ s₁ y₁ o₁ p₁ c₁ e₁)
    all_ended = stop_ended n i (tables x₁ s₁ y₁ o₁ p₁ c₁ e₁) (joins w h 0 (pairs ns) (tables x s y o p c e)) stops

-- Two work tables, the first of four.
pub open_pair : (w h : ℕ) (t : Tables) (a b c d : List ℕ) → Open w h t (works a b c d) → Open w h t (pair a b)
open_pair w h t a b c d o = record { size = o.size; sizes = stated_pair w h t a b c d o.sizes; drawn = o.drawn }

-- The tables that are drawn have the stated lengths.
pub regrouped_stated : (w h : ℕ) (x s y o p c e a b k d c₁ a₁ b₁ k₁ d₁ : List ℕ)
    → stated w h (tables x s y o p c e) (works a b k d) ≡ true → length c₁ ≡ length c → length a₁ ≡ length a → length b₁ ≡ length b
    → length k₁ ≡ length k → length d₁ ≡ length d → stated w h (tables x s y o p c₁ e) (works a₁ b₁ k₁ d₁) ≡ true
unfolding stated sized
regrouped_stated w h x s y o p c e a b k d c₁ a₁ b₁ k₁ d₁ z lc la lb lk ld = rw (lc, la, lb, lk, ld) z
