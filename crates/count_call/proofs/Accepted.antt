-- What the counts may rely on once a check of the drawing has accepted the tables.
--   Countable v p   == where the answer v is done, names may be climbed in the parents p
--   Lent w h s p t  == the sides s and the parents p are those of a drawing, and t is a cleared work table
--   counts f p      == the table of f at the outside and at the names in use
use mathlib.Core.Path.{◌≡◌, sym, ap, ◌∙◌}
use mathlib.Core.Bool.{true, cond}
use mathlib.Core.List.{List, [], ◌∷◌}
use Prim.Native.Nat.{ℕ, ◌+◌, ◌*◌, ◌≤◌, ◌<◌}
use native.Mathlib.Omega.{arith}
use lib.ListN.{length, get_or, replicate, length-replicate}
use Rattle.std.specs.Prelude.{Result}
use Rattle.laws.proofs.Table.{table_agree}
use Rattle.sheet_size.specs.Size.{within}
use Rattle.point_darts.specs.Dart.{mark, slots}
use Rattle.point_darts.proofs.Fit.{cells_fit}
use Rattle.paper.specs.Level.{tops}
use Rattle.paper.specs.Enclosure.{holes}
use Rattle.paper.specs.Drawing.{Tables}
use Rattle.paper.specs.Joining.{on}
use Rattle.paper.specs.Refusal.{seven, cleared}
use Rattle.answer.specs.declared.Refusal.{Refusal}
use Rattle.answer.specs.Answer.{number_of, told}
use Rattle.table_lengths.proofs.Tested.{stated_names, stated_slots}
use Rattle.region_depths.specs.Tree.{known, Falls}
use Rattle.region_depths.specs.Census.{counted_at, counts}
use Rattle.region_depths.proofs.Fall.{is_drawing_falls}
use Rattle.check_answer.specs.Check.{checked}
use Rattle.check_answer.proofs.Given.{accepted_within, accepted_stated, accepted_is_drawing, accepted_work}
use Rattle.count_holes.specs.Round.{pieces}
use Rattle.count_holes.proofs.Drawn.{is_drawing_holes}
use Rattle.count_turns.proofs.Drawn.{Told, is_drawing_turns}
use Rattle.count_answer.specs.Count.{Countable, Lent}

-- Tables t, a work table b and others cs were given; the work table is now a, the others ds.
module _ (w h : ℕ) (t : Tables) (b : List ℕ) (cs : List (List ℕ)) (v : Result (Unit {0}) Refusal) (a : List ℕ) (ds : List (List ℕ))
    (e : told v (seven t) (a ∷ ds) ≡ checked w h t (b ∷ cs)) where
  module _ (z : number_of v ≡ 0) where
    size : within w h ≡ true
    size = accepted_within w h t (b ∷ cs) v (a ∷ ds) e z

    falls : Falls t.parent
    falls = is_drawing_falls w h t size (accepted_is_drawing w h t (b ∷ cs) v (a ∷ ds) e z)

    long : length t.parent ≡ w * h + 1
    long = (stated_names w h t (b ∷ cs) (accepted_stated w h t (b ∷ cs) v (a ∷ ds) e z)).0

    fits : length t.parent ≤ mark
    unfolding mark
    fits = omega (arith, long, cells_fit w h size)

    sides : length t.side1 ≡ slots w h
    sides = (stated_slots w h t (b ∷ cs) (accepted_stated w h t (b ∷ cs) v (a ∷ ds) e z)).1.0

    -- the check has cleared the work table
    emptied : a ≡ replicate (length b) 0
    unfolding cleared
    emptied = ap (λ l. get_or l 0 []) (accepted_work w h t (b ∷ cs) v (a ∷ ds) e z)

    work : length a ≡ slots w h
    work =
        ap length emptied ∙ length-replicate (length b) 0
        ∙ (stated_slots w h t (b ∷ cs) (accepted_stated w h t (b ∷ cs) v (a ∷ ds) e z)).1.1.1.1.0

    pub accepted_clear : replicate (length a) 0 ≡ a
    accepted_clear = ap (λ n. replicate n 0) (ap length emptied ∙ length-replicate (length b) 0) ∙ sym emptied

    rounds : (r : ℕ) → r < mark → pieces t.side1 (tops w h (on t.side1)) r ≡ holes w h (on t.side1) t.parent r
    rounds = is_drawing_holes w h t size (accepted_is_drawing w h t (b ∷ cs) v (a ∷ ds) e z)

    pub accepted_lent : Lent w h t.side1 t.parent a
    accepted_lent =
        record {
          size = size;
          sides = sides;
          some = omega (arith, long);
          fits = fits;
          rounds = rounds;
          work = work;
          clear = accepted_clear;
        }

    -- the depths, and the holes, of all names may be counted, into tables as long
    pub accepted_depths : (m : ℕ) → m ≡ w * h + 1
        → Falls t.parent × (length t.parent ≤ mark) × (m ≡ length t.parent)
    accepted_depths m p = (falls, fits, p ∙ sym long)

    pub accepted_holes : (m : ℕ) → m ≡ w * h + 1
        → (length t.side1 ≡ slots w h) × (length a ≡ slots w h) × (0 < length t.parent)
        × (length t.parent ≤ mark) × (m ≡ length t.parent)
    accepted_holes m p = (sides, work, omega (arith, long), fits, p ∙ sym long)

    pub accepted_counts : counts (λ _. pieces t.side1 (tops w h (on t.side1))) t.parent
        ≡ counts (holes w h (on t.side1)) t.parent
    unfolding counts counted_at
    accepted_counts =
        table_agree (length t.parent) _ _
        (λ r l. ap (λ k. cond (known t.parent r) k mark) (rounds r (omega (arith, fits))))

    -- the turns of the curves may be counted, and are those of the paper
    pub accepted_curves : (m n : ℕ) → m ≡ slots w h → n ≡ slots w h
        → (length t.next1 ≡ slots w h) × (m ≡ slots w h) × (n ≡ slots w h)
    accepted_curves m n p q =
        ((stated_slots w h t (b ∷ cs) (accepted_stated w h t (b ∷ cs) v (a ∷ ds) e z)).0, p, q)

    pub accepted_turns : Told w h t
    accepted_turns = is_drawing_turns w h t size (accepted_is_drawing w h t (b ∷ cs) v (a ∷ ds) e z)

  pub countable : Countable v t.parent
  countable = record { falls = falls; some = λ z. omega (arith, long z) }
