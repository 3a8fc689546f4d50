-- In a drawing the turns up to the next of level 3 are those of the paper, inside the run to the next kept point; and so are, with
-- the hands exchanged, those from the other end of the run.
--   turns_to n x e is d == how many turns that pass the test is are taken from dart d on, before x leads to the dart e
--   turns w h on keep is d == how many the run from d to the next point that passes keep takes inside
--   Ahead z         == dart z is on, and the run from d goes through it
--   Told w h t      == the turns counted from the tables t are those of the curves of their sides
use mathlib.Core.Path.{◌≡◌, refl, sym, ap, ◌∙◌, fun_ext}
use mathlib.Core.Bool.{Bool, true, false, cond}
use mathlib.Core.List.{List}
use Prim.Native.Nat.{ℕ, ◌≤◌, ◌<◌}
use native.Mathlib.Omega.{arith}
use lib.Dec.{eqb}
use borrow.Author.Tests.{eq-eqb, ne_eqb}
use Rattle.laws.proofs.Test.{clash}
use Rattle.laws.proofs.Walk.{Run, run_tail, run_ended}
use Rattle.laws.proofs.Steps.{run_steps, steps_agree, count_is}
use Rattle.sheet_size.specs.Size.{within}
use Rattle.point_darts.specs.Dart.{mark, slots, point, far}
use Rattle.point_rules.specs.declared.turn.Turn.{Turn}
use Rattle.point_rules.specs.Turn.{is_right, is_left}
use Rattle.paper.specs.Name.{names}
use Rattle.paper.specs.Level.{Level, border, next, last, plain, along, kept3, among, level, marked}
use Rattle.paper.specs.Turns.{taken, turns, curve_turns}
use Rattle.paper.specs.Drawing.{Tables, drawn, drawing, is_drawing}
use Rattle.paper.specs.Joining.{at, on}
use Rattle.paper_laws.proofs.Next.{Lines, point_next}
use Rattle.paper_laws.proofs.Sheet.{border_lines}
use Rattle.paper_laws.proofs.Marks.{within_fits, at_held, on_marked, marked_agree, next_stays, along_on}
use Rattle.paper_laws.proofs.Marks.{lines_inside, next_small, along_next_small}
use Rattle.paper_laws.proofs.Along.{Kept, kept3_kept, run_on, run_ends, run_led, along_chart, other_stays}
use Rattle.paper_laws.proofs.Drawn.{sides_on}
use Rattle.paper_laws.proofs.Turns.{turns_other}
use Rattle.paper_laws.proofs.IsDrawing.{is_drawing_drawn}
use Rattle.count_turns.specs.Turns.{taken_by, turns_to, walked, met, turns_at, turn_table}

module _ (w h : ℕ) (n : List ℕ) (room : slots w h ≤ mark) where
  b : ℕ → Bool
  b = border w h n

  lines : Lines w h b
  unfolding b
  lines = border_lines w h n

  x : List ℕ
  x = marked w h b (next w b)

  on_x : on x ≡ b
  unfolding x
  on_x = fun_ext (on_marked w h b (next w b) (lines_inside w h b lines) (next_small w h b lines room))

  at_x : (d : ℕ) → b d ≡ true → at x d ≡ next w b d
  unfolding x
  at_x = at_held w h b (next w b) (lines_inside w h b lines)

  leads_to : (d : ℕ) → b d ≡ true → point (next w b d) ≡ far w d
  leads_to d o = point_next w b d (lines.back d o)

  taken_by_lem : (d : ℕ) → b d ≡ true → taken_by x d ≡ taken w b d
  unfolding taken_by taken
  taken_by_lem d o = rw (on_x, at_x d o, leads_to d o)

  -- The run of a dart to the next point that passes keep.
  module _ (keep : ℕ → Bool) (g : Kept w h n keep) (is : Turn → Bool) (d : ℕ) (o : b d ≡ true) where
    stop : ℕ → Bool
    stop e = keep (far w e)

    end : ℕ
    end = last w h b keep d

    end_on : b end ≡ true
    unfolding b end
    end_on = run_on w h n keep g d o

    end_kept : keep (far w end) ≡ true
    unfolding b end
    end_kept = run_ends w h n keep g d o

    led : (j : ℕ) × (j < slots w h) × Run (next w b) stop j d end
    unfolding b end stop
    led = run_led w h n keep g d o

    Ahead : ℕ → Type 0
    Ahead z = (b z ≡ true) × (k : ℕ) × Run (next w b) stop k z end

    stays : (z : ℕ) → Ahead z → stop z ≡ false → Ahead (next w b z)
    unfolding Ahead
    stays z (p, k, r) s = let (j, q) = run_tail r s in (next_stays w h b lines z p, j, q)

    -- it is the next of level 3 that x leads to exactly where the run ends
    halts : (z : ℕ) → Ahead z → eqb (at x z) (next w b end) ≡ stop z
    unfolding Ahead stop
    halts z (p, k, r) = go (stop z) refl
      where
        apart : keep (far w z) ≡ false → at x z ≡ next w b end → ⊥
        apart s e =
            clash end_kept
            (ap keep (sym (leads_to end end_on) ∙ ap point (sym e ∙ at_x z p) ∙ leads_to z p) ∙ s)

        go : (t : Bool) → keep (far w z) ≡ t → eqb (at x z) (next w b end) ≡ t
        go true s = eq-eqb (at x z) (next w b end) (at_x z p ∙ ap (next w b) (run_ended r s))
        go false s = ne_eqb (at x z) (next w b end) (apart s)

    turns_drawn : turns_to (slots w h) x (next w b end) is d ≡ turns w h b keep is d
    unfolding turns_to turns Ahead stop
    turns_drawn =
        let (k, l, r) = led in
        let (c, q) = run_steps (λ z. is (taken w b z)) r in
        let p =
        steps_agree Ahead stays (λ z. is (taken w b z)) (at x) (λ z. eqb (at x z) (next w b end)) (λ z. is (taken_by x z)) halts
        (λ z a _. at_x z a.0) (λ z a _. ap is (taken_by_lem z a.0)) q (o, k, r) in
        count_is p (omega arith) ∙ sym (count_is q (omega arith))

  -- The darts of level 3.
  keep : ℕ → Bool
  keep = among (kept3 w h b)

  curves : Level
  curves = along w h b keep

  kept : Kept w h n keep
  unfolding keep b
  kept = kept3_kept w h n

  curve_line : (d : ℕ) → curves.on d ≡ true → b d ≡ true
  unfolding curves
  curve_line = along_on w h b lines keep

  curve_below : (d : ℕ) → curves.on d ≡ true → d < slots w h
  curve_below d e = lines_inside w h b lines d (curve_line d e)

  y : List ℕ
  y = marked w h curves.on curves.next

  o : List ℕ
  o = marked w h curves.on curves.other

  on_y : (d : ℕ) → on y d ≡ curves.on d
  unfolding y curves
  on_y = on_marked w h curves.on curves.next curve_below (along_next_small w h b lines room keep)

  at_y : (d : ℕ) → curves.on d ≡ true → at y d ≡ curves.next d
  unfolding y
  at_y = at_held w h curves.on curves.next curve_below

  at_o : (d : ℕ) → curves.on d ≡ true → at o d ≡ curves.other d
  unfolding o
  at_o = at_held w h curves.on curves.other curve_below

  other_on : (d : ℕ) → curves.on d ≡ true → curves.on (curves.other d) ≡ true
  unfolding curves b
  other_on = other_stays w h n curves (along_chart w h n keep kept)

  walked_drawn : (is : Turn → Bool) (d : ℕ) → curves.on d ≡ true → walked (slots w h) x y is d ≡ turns w h b keep is d
  unfolding walked curves along end
  walked_drawn is d e = rw (on_y d ∙ e, at_y d e) (turns_drawn keep kept is d (curve_line d e))

  -- turns that pass one test are those that pass another on the way back
  module _ (is was : Turn → Bool)
      (back : (d : ℕ) → curves.on d ≡ true → turns w h b keep was (curves.other d) ≡ turns w h b keep is d) where
    by_end : (d : ℕ) → curves.on d ≡ true → (m : Bool)
        → cond m (walked (slots w h) x y was (at o d)) (walked (slots w h) x y is d) ≡ turns w h b keep is d
    by_end d e true =
        ap (walked (slots w h) x y was) (at_o d e) ∙ walked_drawn was (curves.other d) (other_on d e) ∙ back d e
    by_end d e false = walked_drawn is d e

    table_drawn : turn_table w h x y o is was ≡ curve_turns w h b is
    unfolding turn_table turns_at curve_turns keep curves marked
    table_drawn =
        marked_agree w h (on y) curves.on
        (λ d. cond (met o d) (walked (slots w h) x y was (at o d)) (walked (slots w h) x y is d)) (turns w h b keep is) on_y
        (λ d e. by_end d (sym (on_y d) ∙ e) (met o d))

-- Tables that are a drawing.
abbrev pub Told : ℕ → ℕ → Tables → Type 0
Told w h t =
    (turn_table w h t.next1 t.next3 t.other3 is_right is_left ≡ curve_turns w h (on t.side1) is_right)
    × (turn_table w h t.next1 t.next3 t.other3 is_left is_right ≡ curve_turns w h (on t.side1) is_left)

drawing_turns : (w h : ℕ) (s : List ℕ) → slots w h ≤ mark → Told w h (drawing w h s)
unfolding drawing drawn level plain b x y o keep curves
drawing_turns w h s room =
    let n = names w h s in
    rw (sides_on w h s room) (
      table_drawn w h n room is_right is_left (λ d e. (turns_other w h n d e).0),
      table_drawn w h n room is_left is_right (λ d e. (turns_other w h n d e).1),
    )

pub is_drawing_turns : (w h : ℕ) (t : Tables) → within w h ≡ true → is_drawing w h t ≡ true → Told w h t
is_drawing_turns w h t e j =
    let d = is_drawing_drawn w h t j in
    rw (← d.same) (drawing_turns w h d.labels (within_fits w h e))
