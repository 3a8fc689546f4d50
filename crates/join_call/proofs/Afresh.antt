-- A join that is done leads to the drawing afresh, and keeps the curves that it does not touch.
--   Faithful w h t u a b == that of the tables t before and u after
use mathlib.Core.Path.{◌≡◌, sym, ap, ◌∙◌}
use mathlib.Core.Bool.{true}
use Prim.Native.Nat.{ℕ}
use Rattle.sheet_size.specs.Size.{within}
use Rattle.paper.specs.Drawing.{Tables, Drawn}
use Rattle.paper.specs.Joining.{joined}
use Rattle.paper.specs.Sitting.{Joinable}
use Rattle.paper_laws.proofs.Marks.{within_fits}
use Rattle.paper_laws.proofs.Theorem.{removal_is_fresh, untouched}
use Rattle.join_call.specs.Faithful.{Faithful}

pub joined_faithful : (w h : ℕ) (t u : Tables) (a b : ℕ) → within w h ≡ true → Drawn w h t → Joinable w h t a b
    → u ≡ joined w h t a b → Faithful w h t u a b
joined_faithful w h t u a b e d j p =
    let room = within_fits w h e in
    record {
      fresh = λ s q. p ∙ ap (λ v. joined w h v a b) (sym q) ∙ removal_is_fresh w h room s a b (rw q j);
      untouched = rw (p, ← d.same) (untouched w h room d.labels a b (rw d.same j));
    }
