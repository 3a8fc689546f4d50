-- A drawing is ready for the joining of two regions that it has.
use mathlib.Core.Path.{◌≡◌, refl, ◌∙◌}
use mathlib.Core.Bool.{Bool, true}
use mathlib.Core.List.{List, [], ◌∷◌}
use Prim.Native.Nat.{ℕ, ◌+◌, ◌*◌, ◌<◌}
use native.Mathlib.Omega.{arith}
use borrow.Author.Tests.{eq-eqb}
use Rattle.laws.proofs.Test.{and_true, and_left}
use Rattle.sheet_size.specs.Size.{within}
use Rattle.laws.specs.Table.{table}
use Rattle.laws.proofs.Table.{length_table}
use Rattle.point_darts.specs.Dart.{mark, slots, reversal}
use Rattle.paper.specs.Name.{names}
use Rattle.paper.specs.Level.{side, border, next, plain, level, tops}
use Rattle.paper.specs.Enclosure.{parent, parents}
use Rattle.paper.specs.Drawing.{Tables, drawn, drawing, Drawn}
use Rattle.paper.specs.Joining.{at, on, rest1, rest3}
use Rattle.paper.specs.Refusal.{sized, stated, cleared, used}
use Rattle.paper.specs.Sitting.{Joinable}
use Rattle.paper_laws.proofs.Sheet.{border_below}
use Rattle.paper_laws.proofs.Marks.{on_marked, cells_slots, within_fits, names_side_small}
use Rattle.paper_laws.proofs.Still.{still_joined}
use Rattle.paper_laws.proofs.Neighbour.{used_borne}
use Rattle.paper_laws.proofs.Added.{totals_fit, totals_here, shared_twice, shared_least}
use Rattle.table_entries.proofs.Entries.{on_below}
use Rattle.table_lengths.specs.Given.{tables, works}
use Rattle.table_lengths.proofs.Tested.{stated_names, stated_slots}
use Rattle.join_shared.specs.Mapped.{Mapped, Bare}
use Rattle.join_rule.specs.Sums.{Sums}
use Rattle.join_rule.specs.Apply.{pair, found, Ready}
use Rattle.join_rule.proofs.Fewer.{marked_held}
use Rattle.join_rule.proofs.Mapping.{plain_mapped, curves_mapped, curves_bare}

-- every line of a drawing has its sides
drawing_sided : (w h : ℕ) (s : List ℕ) → within w h ≡ true → (d : ℕ) → on (drawing w h s).next1 d ≡ true
    → on (drawing w h s).side1 d ≡ true
unfolding drawing drawn level plain
drawing_sided w h s e d q =
    let n = names w h s in
    on_marked w h (border w h n) (side w h n) (border_below w h n)
    (λ d _. names_side_small w h s (within_fits w h e) d) d
    ∙ marked_held w h (border w h n) (next w (border w h n)) d q

-- its links are those of maps
drawing_plain : (w h : ℕ) (s : List ℕ) → within w h ≡ true
    → Mapped (drawing w h s).side1 (drawing w h s).next1 (table (slots w h) (reversal w))
unfolding drawing
drawing_plain w h s e = plain_mapped w h (names w h s) (within_fits w h e)

drawing_curves : (w h : ℕ) (s : List ℕ) → within w h ≡ true
    → Mapped (drawing w h s).side1 (drawing w h s).next3 (drawing w h s).other3
unfolding drawing
drawing_curves w h s e = curves_mapped w h (names w h s) (within_fits w h e)

drawing_bare : (w h : ℕ) (s : List ℕ) → within w h ≡ true → Bare (drawing w h s).next3 (drawing w h s).other3
unfolding drawing
drawing_bare w h s e = curves_bare w h (names w h s) (within_fits w h e)

-- a name that is in use is below the mark
used_small : (w h : ℕ) (t : Tables) (ws : List (List ℕ)) (a : ℕ) → within w h ≡ true → stated w h t ws ≡ true
    → used t.parent a ≡ true → a < mark
unfolding used
used_small w h t ws a e f u =
    omega (arith, (stated_names w h t ws f).0, on_below t.parent a u, cells_slots w h, within_fits w h e)

-- the sums of what two regions have fit
drawing_sums : (w h : ℕ) (s : List ℕ) → within w h ≡ true → (a b : ℕ) → Joinable w h (drawing w h s) a b
    → Sums w h (drawing w h s).side1 (drawing w h s).cells (drawing w h s).borders a b
unfolding drawing
drawing_sums w h s e a b j =
    let room = within_fits w h e in
    let n = names w h s in
    let (ia, ua) = used_borne w h s room a b j a j.regions.0 in
    let (ib, ub) = used_borne w h s room a b j b j.regions.1 in
    let (ca, cb, da, db) = totals_here a b j.apart j.inner.0 j.inner.1 w h n room ia ib ua ub in
    let fa = totals_fit w h n a e in
    let fb = totals_fit w h n b e in
    record {
      cells = omega (arith, ca, cb, fa.0, fb.0);
      borders = omega (arith, da, db, fa.1, fb.1);
      twice =
          shared_twice a b j.apart j.inner.0 j.inner.1 w h n (omega (arith, cells_slots w h)) (omega (arith, cells_slots w h));
      less = omega (arith, da, db, shared_least a b j.apart j.inner.0 j.inner.1 w h n room ia ib ua ub);
    }

pub drawn_ready : (w h : ℕ) (t : Tables) (ws : List (List ℕ)) (a b : ℕ) → within w h ≡ true → stated w h t ws ≡ true
    → Drawn w h t → Joinable w h t a b → Ready w h t ws a b
drawn_ready w h t ws a b e f g j =
    let (u, v) = j.regions in
    record {
      size = e;
      sizes = f;
      first = used_small w h t ws a e f u;
      second = used_small w h t ws b e f v;
      sided = rw (← g.same) (drawing_sided w h g.labels e);
      plain = rw (← g.same) (drawing_plain w h g.labels e);
      curves = rw (← g.same) (drawing_curves w h g.labels e);
      bare = rw (← g.same) (drawing_bare w h g.labels e);
      still = rw (← g.same) (still_joined w h g.labels (within_fits w h e) a b (rw g.same j));
      sums = rw (← g.same) (drawing_sums w h g.labels e a b (rw g.same j));
    }

-- Two work tables, the first of four.
module _ (w h : ℕ) (t : Tables) (a b c d : List ℕ) where
  pub stated_pair : stated w h t (works a b c d) ≡ true → stated w h t (pair a b) ≡ true
  unfolding stated sized
  stated_pair e =
      let names : Bool = sized (w * h + 1) (t.parent ∷ t.cells ∷ t.borders ∷ []) in
      let z = stated_slots w h t (works a b c d) e in
      let work = z.1.1.1.1 in
      and_true {a = names}
      (and_left names (sized (slots w h) (t.next1 ∷ t.side1 ∷ t.next3 ∷ t.other3 ∷ works a b c d)) e)
      (and_true (eq-eqb _ _ z.0)
      (and_true (eq-eqb _ _ z.1.0)
      (and_true (eq-eqb _ _ z.1.1.0)
      (and_true (eq-eqb _ _ z.1.1.1.0)
      (and_true (eq-eqb _ _ work.0) (and_true (eq-eqb _ _ work.1.0) refl))))))

  pub ready_pair : (i j : ℕ) → Ready w h t (works a b c d) i j → Ready w h t (pair a b) i j
  ready_pair i j r =
      record {
        size = r.size;
        sizes = stated_pair r.sizes;
        first = r.first;
        second = r.second;
        sided = r.sided;
        plain = r.plain;
        curves = r.curves;
        bare = r.bare;
        still = r.still;
        sums = r.sums;
      }

-- where four are cleared, so are the first two; and all four, where these are cleared once more
module _ (a b c d : List ℕ) (e : works a b c d ≡ cleared (works a b c d)) where
  pub front_cleared : pair a b ≡ cleared (pair a b)
  unfolding cleared
  front_cleared = cc

  pub rest_cleared : (x y : List ℕ) → pair x y ≡ cleared (pair a b) → works x y c d ≡ cleared (works a b c d)
  unfolding cleared
  rest_cleared x y f = cc

-- The parents are not read, so they may be those that the sides tell.
pub ready_found : (w h : ℕ) (x s y o p u v : List ℕ) (ws : List (List ℕ)) (i j : ℕ) → Ready w h (tables x s y o p u v) ws i j
    → Ready w h (found w h x s y o u v) ws i j
unfolding stated sized parents rest1 rest3
ready_found w h x s y o p u v ws i j r =
    let z = stated_names w h (tables x s y o p u v) ws r.sizes in
    let e = length_table (w * h + 1) (parent w (on s) (at s) (tops w h (on s))) in
    record {
      size = r.size;
      sizes = rw e (rw z.0 at r.sizes);
      first = r.first;
      second = r.second;
      sided = r.sided;
      plain = r.plain;
      curves = r.curves;
      bare = r.bare;
      still = record { smoothing = r.still.smoothing; closing = r.still.closing };
      sums = r.sums;
    }
