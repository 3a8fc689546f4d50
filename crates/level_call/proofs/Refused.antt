-- What the level drawing answers tells its outcome.
--   level_tests ..   == the tests of the level drawing, in the paper's order
--   levelled ..     == its outcome
--   told r ts ws    == the outcome that the answer r tells
use mathlib.Core.Path.{◌≡◌, refl, sym, ap, ◌∙◌}
use mathlib.Core.Logic.{◌≢◌}
use mathlib.Core.Bool.{Bool, true}
use mathlib.Core.List.{List, [], ◌++◌, map}
use Prim.Native.Nat.{ℕ, ◌*◌, ◌≤◌}
use lib.Dec.{lit<}
use lib.ListN.{length}
use borrow.Author.Tests.{leb-true, eqb-true}
use Rattle.std.specs.Prelude.{Result}
use Rattle.laws.specs.First.{first_failed, numbered}
use Rattle.laws.proofs.First.{all_passed, failed_below}
use Rattle.sheet_size.specs.Size.{within}
use Rattle.point_darts.specs.Dart.{slots}
use Rattle.paper.specs.Refusal.{cleared, level_tests, level_refusal, level_tables, levelled}
use Rattle.answer.specs.declared.Refusal.{Refusal}
use Rattle.answer.specs.Answer.{number_of, told}
use Rattle.answer.proofs.Outcome.{told_early, told_done}
use Rattle.table_lengths.specs.Lengths.{lengths}
use Rattle.table_lengths.proofs.Tested.{Each, each_dart, dart_lengths}

below : (w h l n : ℕ) (k : Bool) → numbered 1 5 (level_tests w h l n k) ≡ true
unfolding numbered level_tests
below w h l n k = refl

-- A size, a level and lengths of which nothing is refused.
pub all_fit : (w h l n : ℕ) (ls : List ℕ) → 0 ≡ first_failed (level_tests w h l n (lengths w h [] ls))
    → (within w h ≡ true) × (l ≤ 3) × (n ≡ w * h) × Each (slots w h) ls
unfolding level_tests
all_fit w h l n ls e =
    let k : Bool = lengths w h [] ls in
    let p = all_passed 1 5 (lit< tt) (level_tests w h l n k) (below w h l n k) (sym e) in
    (p.0, leb-true l 3 p.1.0, eqb-true n (w * h) p.1.1.0, each_dart w h [] ls p.1.1.1.0)

-- A sheet and tables of which this is answered.
module _ (w h l : ℕ) (i : List ℕ) (ts ws : List (List ℕ)) (r : Result (Unit {0}) Refusal)
    (e : number_of r ≡ first_failed (level_tests w h l (length i) (lengths w h [] (map length (ts ++ ws))))) where
  number : number_of r ≡ level_refusal w h l i ts ws
  unfolding level_refusal
  number = e ∙ ap (λ k. first_failed (level_tests w h l (length i) k)) (dart_lengths w h (ts ++ ws))

  pub refused : number_of r ≢ 0 → told r ts ws ≡ levelled w h l i ts ws
  unfolding levelled level_refusal
  refused n =
      told_early r (level_refusal w h l i ts ws) number n
      (failed_below 1 5 (level_tests w h l (length i) _) (lit< tt) (below w h l (length i) _)) [] ts (level_tables w h l i) ws

  -- the tables are those of a size a by b, which is this one
  pub done : number_of r ≡ 0 → (a b : ℕ) → (a ≡ w) × (b ≡ h) → (us vs : List (List ℕ)) → us ≡ level_tables a b l i
      → vs ≡ cleared ws → told r us vs ≡ levelled w h l i ts ws
  unfolding levelled
  done z a b s us vs p =
      told_done r (level_refusal w h l i ts ws) number z ts (level_tables w h l i) ws us vs
      (p ∙ λ j. level_tables (s.0 j) (s.1 j) l i)
