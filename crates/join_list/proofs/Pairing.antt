-- Two names of a list, judged in a drawing by its cells and its sides.
--   Open w h t ws   == the tables t are a drawing, and these and the work tables ws have the stated lengths
use mathlib.Core.Path.{◌≡◌, sym, ◌∙◌}
use mathlib.Core.List.{List}
use Prim.Native.Nat.{ℕ}
use Rattle.std.specs.Prelude.{Ok}
use Rattle.laws.specs.First.{first_failed}
use Rattle.paper.specs.Drawing.{Tables}
use Rattle.paper.specs.Refusal.{pair_tests}
use Rattle.paper_laws.proofs.Marks.{within_fits}
use Rattle.paper_laws.proofs.InUse.{pair_cells}
use Rattle.paper_laws.proofs.Order.{passed_joinable}
use Rattle.answer.specs.Answer.{number_of}
use Rattle.join_rule.specs.Apply.{Ready}
use Rattle.join_rule.proofs.Readiness.{drawn_ready}
use Rattle.join_answer.specs.Asked.{asked}
use Rattle.join_list.specs.Each.{Open}

module _ (w h : ℕ) (t : Tables) (ws : List (List ℕ)) (o : Open w h t ws) (a b : ℕ) where
  pub pair_number : (k : ℕ) → k ≡ asked (Ok tt) w h t.side1 t.cells a b → k ≡ first_failed (pair_tests w h t.side1 t.parent a b)
  unfolding asked number_of
  pair_number k e = e ∙ pair_cells w h (within_fits w h o.size) t o.drawn a b

  pub pair_ready : 0 ≡ asked (Ok tt) w h t.side1 t.cells a b → Ready w h t ws a b
  pair_ready e = drawn_ready w h t ws a b o.size o.sizes o.drawn (passed_joinable w h t a b (sym (pair_number 0 e)))
