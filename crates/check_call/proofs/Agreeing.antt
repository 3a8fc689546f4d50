-- The test of refusal 5, part by part.
--   is_drawing w h t    == the seven tables t are the drawing of the labels that their sides of level 1 tell
--   lines_agree ..   == next and side of level 1 are those drawn again from these labels
--   totals_agree ..  == the totals are those counted again
--   curves_agree ..  == level 3 and the parents are those that next and side of level 1 tell
use mathlib.Core.Path.{◌≡◌, refl, sym, ap, ◌∙◌}
use mathlib.Core.Bool.{Bool, true, false, not, ◌&&◌}
use mathlib.Core.List.{List}
use Prim.Native.Nat.{ℕ, ◌+◌, ◌*◌, ◌≤◌}
use native.Mathlib.Omega.{arith}
use lib.ListN.{take}
use borrow.Author.Tests.{not-true, not-false}
use Rattle.laws.specs.Equal.{equal}
use Rattle.laws.specs.Table.{table}
use Rattle.laws.proofs.Equal.{equal_iff}
use Rattle.laws.proofs.Test.{and_left, and_right}
use Rattle.sheet_size.specs.Size.{within}
use Rattle.point_darts.specs.Dart.{points, slots}
use Rattle.paper.specs.Name.{names}
use Rattle.paper.specs.Level.{side, tops}
use Rattle.paper.specs.Enclosure.{parent}
use Rattle.paper.specs.Drawing.{Tables, drawn, drawing, recovered, same, is_drawing}
use Rattle.paper.specs.Joining.{at, on}
use Rattle.paper_laws.proofs.Marks.{within_fits, cells_slots, names_side_small}
use Rattle.region_names.specs.Frame.{framed}
use Rattle.level_masks.specs.Mask.{masked}
use Rattle.level_lines.specs.Line.{nexts}
use Rattle.level_lines.specs.Side.{sides}
use Rattle.level_kept.specs.Keep.{keeps}
use Rattle.level_curves.specs.Link.{TwoWay, along_next, along_other}
use Rattle.region_totals.specs.Total.{Totalled}
use Rattle.drawing.specs.Parts.{Lined, Kept, Curved, round_of, masks_of, lines_agree, totals_agree, curves_agree}
use Rattle.region_names.specs.Frame.{surround}
use Rattle.drawing.proofs.Whole.{line_next, line_side, curve_runs, curve_next, curve_other, parents_whole}

-- the last two of a row of tests
last_two_no : (a b c : Bool) → (b && c) ≡ false → (a && b && c) ≡ false
last_two_no true b c e = e
last_two_no false b c e = refl

last_two_yes : (a b c : Bool) → (b && c) ≡ true → (a && b && c) ≡ a
last_two_yes true b c e = e
last_two_yes false b c e = refl

pub names_part : (w h : ℕ) → w * h + 1 ≤ slots w h
names_part w h = omega (arith, cells_slots w h)

-- The names, from the labels that the sides tell.
pub names_recovered : (w h : ℕ) (s t e r : List ℕ) → t ≡ e → e ≡ recovered w h s → take (surround w h) r ≡ framed w h (names w h t)
    → take (surround w h) r ≡ round_of w h s
unfolding round_of
names_recovered w h s t e r p q f = f ∙ ap (λ v. framed w h (names w h v)) (p ∙ q)

-- Level 1, drawn again from the names with the outside round them.
pub lines_is_drawing : (w h : ℕ) (x s r m y u : List ℕ) (b : Bool) → take (surround w h) r ≡ round_of w h s
    → Lined w h (take (surround w h) r) m y u → b ≡ (equal x y && equal s u)
    → (b ≡ lines_agree w h x s) × (take (points w h) m ≡ masks_of w h s)
unfolding lines_agree masks_of
lines_is_drawing w h x s r m y u b k l g =
    let c : y ≡ nexts w h (masked w h (round_of w h s)) = l.next ∙ ap (λ v. nexts w h (masked w h v)) k in
    let d : u ≡ sides w h (round_of w h s) (masked w h (round_of w h s)) = l.side ∙ ap (λ v. sides w h v (masked w h v)) k in
    (g ∙ rw (c, d), l.masks ∙ ap (masked w h) k)

-- The totals, counted again from them.
pub totals_is_drawing : (w h : ℕ) (f x y u v e g : List ℕ) (b : Bool) → Totalled w h f e g → u ≡ e → v ≡ g
    → b ≡ (equal x u && equal y v) → (s : List ℕ) → f ≡ round_of w h s → b ≡ totals_agree w h s x y
unfolding totals_agree round_of
totals_is_drawing w h f x y u v e g b t p q i s k =
    let c = p ∙ t.cells (recovered w h s) k in
    let d = q ∙ t.borders (recovered w h s) k in
    i ∙ rw (c, d)

-- Level 3 and the parents, from level 1.
module _ (w h : ℕ) (x s y o p m a c v u : List ℕ) (g : Kept w h s m a c) (k : Curved w h x (take (points w h) c) v u) where
  abbrev top : List ℕ
  top = tops w h (on s)

  kept_points_lem : take (points w h) c ≡ keeps w h m top
  kept_points_lem = g.points ∙ ap (keeps w h m) g.tops

  pub curves_no : (t : Bool) → t ≡ (equal y v && equal o u) → not t ≡ true → false ≡ curves_agree w h x s y o p m
  unfolding curves_agree
  curves_no t e n =
      let q : t ≡ (equal y (along_next w h x (keeps w h m top)) && equal o (along_other w h x (keeps w h m top))) =
      e ∙ rw (k.next, k.other, kept_points_lem) in
      rw (← q, not-true t n)

  pub curves_yes : (t : Bool) → t ≡ (equal y v && equal o u) → not t ≡ false → (r : Bool) (e l : List ℕ) → e ≡ l
      → l ≡ table (w * h + 1) (parent w (on s) (at s) (take (points w h) a)) → r ≡ equal p e
      → r ≡ curves_agree w h x s y o p m
  unfolding curves_agree
  curves_yes t e n r f l i j z =
      let q : t ≡ (equal y (along_next w h x (keeps w h m top)) && equal o (along_other w h x (keeps w h m top))) =
      e ∙ rw (k.next, k.other, kept_points_lem) in
      rw (← q, not-false t n) (z ∙ rw (i, j, g.tops))

-- Level 1 agrees with what is drawn from the labels that the sides tell.
module _ (w h : ℕ) (x s : List ℕ) where
  abbrev n : List ℕ
  n = names w h (recovered w h s)

  lines_drawn : lines_agree w h x s ≡ (equal x (drawn w h n).next1 && equal s (drawn w h n).side1)
  unfolding lines_agree masks_of round_of
  lines_drawn = rw (line_next w h n, line_side w h n)

  pub agreeing : (b : Bool) → b ≡ lines_agree w h x s → not b ≡ false → lines_agree w h x s ≡ true
  agreeing b f g = sym f ∙ not-false b g

  module _ (f : lines_agree w h x s ≡ true) where
    agreed : (equal x (drawn w h n).next1 && equal s (drawn w h n).side1) ≡ true
    agreed = sym lines_drawn ∙ f

    next_is : x ≡ (drawn w h n).next1
    next_is = (equal_iff x (drawn w h n).next1).0 (and_left _ (equal s (drawn w h n).side1) agreed)

    side_is : s ≡ (drawn w h n).side1
    side_is = (equal_iff s (drawn w h n).side1).0 (and_right (equal x (drawn w h n).next1) _ agreed)

    -- so a run is the same run back
    pub runs_agreed : (m a c : List ℕ) → within w h ≡ true → m ≡ masks_of w h s → Kept w h s m a c
        → TwoWay w (slots w h) x (take (points w h) c)
    unfolding masks_of round_of
    runs_agreed m a c e p g =
        let room = within_fits w h e in
        let z : take (points w h) c ≡ keeps w h (masked w h (framed w h n)) (tops w h (on (drawn w h n).side1)) =
        g.points ∙ rw (p, g.tops, ← side_is) in
        rw next_is (curve_runs w h n room (names_side_small w h (recovered w h s) room) (take (points w h) c) z)

-- All parts together.
module _ (w h : ℕ) (t : Tables) (e : within w h ≡ true) where
  abbrev named : List ℕ
  named = names w h (recovered w h t.side1)

  links : Bool
  links =
      equal t.next1 (drawn w h named).next1 && equal t.side1 (drawn w h named).side1
      && equal t.next3 (drawn w h named).next3
      && equal t.other3 (drawn w h named).other3
      && equal t.parent (drawn w h named).parent

  pub totals_no : (c : Bool) → c ≡ totals_agree w h t.side1 t.cells t.borders → not c ≡ true → false ≡ is_drawing w h t
  unfolding is_drawing same drawing totals_agree links
  totals_no c i j =
      sym
      (last_two_no links (equal t.cells (drawn w h named).cells) (equal t.borders (drawn w h named).borders)
      (sym i ∙ not-true c j))

  pub is_drawing_no : (b : Bool) → b ≡ lines_agree w h t.next1 t.side1 → not b ≡ true → false ≡ is_drawing w h t
  unfolding is_drawing same drawing
  is_drawing_no b f g = let z = sym (lines_drawn w h t.next1 t.side1) ∙ sym f ∙ not-true b g in rw z

  module _ (b : Bool) (f : b ≡ lines_agree w h t.next1 t.side1) (g : not b ≡ false) where
    lines : lines_agree w h t.next1 t.side1 ≡ true
    lines = agreeing w h t.next1 t.side1 b f g

    side_drawn : t.side1 ≡ (drawn w h named).side1
    side_drawn = side_is w h t.next1 t.side1 lines

    curves_drawn : curves_agree w h t.next1 t.side1 t.next3 t.other3 t.parent (masks_of w h t.side1)
        ≡ (equal t.next3 (drawn w h named).next3 && equal t.other3 (drawn w h named).other3
        && equal t.parent (drawn w h named).parent)
    unfolding curves_agree masks_of round_of
    curves_drawn =
        let room = within_fits w h e in
        let small = names_side_small w h (recovered w h t.side1) room in
        let next_Drawn = next_is w h t.next1 t.side1 lines in
        let k : List ℕ = keeps w h (masked w h (framed w h named)) (tops w h (on t.side1)) in
        let z : k ≡ keeps w h (masked w h (framed w h named)) (tops w h (on (drawn w h named).side1)) =
        ap (λ v. keeps w h (masked w h (framed w h named)) (tops w h (on v))) side_drawn in
        let i : along_next w h t.next1 k ≡ (drawn w h named).next3 =
        ap (λ v. along_next w h v k) next_Drawn ∙ curve_next w h named room small k z in
        let j : along_other w h t.next1 k ≡ (drawn w h named).other3 =
        ap (λ v. along_other w h v k) next_Drawn ∙ curve_other w h named room small k z in
        let q : table (w * h + 1) (parent w (on t.side1) (at t.side1) (tops w h (on t.side1)))
        ≡ (drawn w h named).parent =
        ap (λ v. table (w * h + 1) (parent w (on v) (at v) (tops w h (on v)))) side_drawn ∙ parents_whole w h named room small in
        λ l. equal t.next3 (i l) && equal t.other3 (j l) && equal t.parent (q l)

    links_are : links
        ≡ (equal t.next3 (drawn w h named).next3 && equal t.other3 (drawn w h named).other3
        && equal t.parent (drawn w h named).parent)
    unfolding links
    links_are = rw (agreed w h t.next1 t.side1 lines)

    pub is_drawing_yes : (c : Bool) → c ≡ totals_agree w h t.side1 t.cells t.borders → not c ≡ false → (r : Bool) (m : List ℕ)
        → m ≡ masks_of w h t.side1 → r ≡ curves_agree w h t.next1 t.side1 t.next3 t.other3 t.parent m
        → r ≡ is_drawing w h t
    unfolding is_drawing same drawing totals_agree links
    is_drawing_yes c i j r m p q =
        q
        ∙ ap (curves_agree w h t.next1 t.side1 t.next3 t.other3 t.parent) p
        ∙ curves_drawn
        ∙ sym links_are
        ∙ sym
        (last_two_yes links (equal t.cells (drawn w h named).cells) (equal t.borders (drawn w h named).borders)
        (sym i ∙ not-false c j))
