-- The three tables of a level are those of the paper.
use mathlib.Core.Path.{◌≡◌, refl, sym, ap, ◌∙◌, subst, fun_ext}
use mathlib.Core.Bool.{Bool, true, false}
use mathlib.Core.List.{List, [], ◌∷◌}
use Prim.Native.Nat.{ℕ, zero, suc, ◌<◌, ◌≤◌}
use lib.Dec.{eqb}
use Rattle.sheet_size.specs.Size.{within}
use Rattle.point_darts.specs.Dart.{mark, slots, line}
use Rattle.point_darts.proofs.Darts.{line_reversal}
use Rattle.paper.specs.Name.{names}
use Rattle.paper.specs.Level.{Level, side, border, along, plain, tops, kept2, kept3, among, level, marked}
use Rattle.paper.specs.Joining.{on}
use Rattle.paper.specs.Refusal.{level_tables}
use Rattle.paper_laws.proofs.Next.{Lines}
use Rattle.paper_laws.proofs.Sheet.{border_lines}
use Rattle.paper_laws.proofs.Marks.{on_marked, names_side_small, lines_inside, within_fits}
use Rattle.paper_laws.proofs.Along.{Kept, kept2_kept, kept3_kept}
use Rattle.region_names.specs.Frame.{framed}
use Rattle.level_masks.specs.Mask.{masked, ruled}
use Rattle.level_lines.specs.Line.{nexts}
use Rattle.level_lines.specs.Side.{sides}
use Rattle.level_kept.specs.Keep.{bends, keeps}
use Rattle.level_curves.specs.Link.{kept_at, TwoWay}
use Rattle.level_lines.proofs.Paper.{drafted, nexts_paper, others_paper, masked_paper, sides_paper}
use Rattle.level_curves.proofs.Paper.{bends_paper, keeps_paper, along_next_paper, along_other_paper, trimmed_paper, two_way}
use Rattle.level_call.specs.Tables.{plain_tables, along_tables, kept_points, tables_of, Surrounded}

three : {a b c x y z : List ℕ} → a ≡ x → b ≡ y → c ≡ z
    → ◌≡◌ {A = List (List ℕ)} (a ∷ b ∷ c ∷ []) (x ∷ y ∷ z ∷ [])
three p q r = λ i. p i ∷ q i ∷ r i ∷ []

abbrev three_of : ℕ → ℕ → List ℕ → Level → List (List ℕ)
three_of w h n l = marked w h l.on l.next ∷ marked w h l.on l.other ∷ marked w h l.on (side w h n) ∷ []

line_lines : (w h : ℕ) → Lines w h (line w h)
line_lines w h = record { lined = λ d e. e; back = line_reversal w h }

module _ (w h : ℕ) (n : List ℕ) (room : slots w h ≤ mark) where
  plain_paper : (o : ℕ → Bool) → Lines w h o → plain_tables w h (framed w h n) (drafted w h o) ≡ three_of w h n (plain w o)
  unfolding plain_tables plain
  plain_paper o l = three (nexts_paper w h o l) (others_paper w h o l) (sides_paper w h n o)

  along_paper : (o : ℕ → Bool) → Lines w h o → (k : List ℕ) (keep : ℕ → Bool) → kept_at k ≡ keep
      → along_tables w h (nexts w h (drafted w h o)) k (sides w h (framed w h n) (drafted w h o)) ≡ three_of w h n (along w h o keep)
  unfolding along_tables
  along_paper o l k keep e =
      rw (nexts_paper w h o l, sides_paper w h n o, ← e)
      (three (along_next_paper w h o l room k) (along_other_paper w h o l room k) (trimmed_paper w h o l room k (side w h n)))

  module _ (small : (d : ℕ) → side w h n d < mark) where
    sides_on : on (sides w h (framed w h n) (drafted w h (border w h n))) ≡ border w h n
    sides_on =
        rw (sides_paper w h n (border w h n))
        (fun_ext (on_marked w h (border w h n) (side w h n) (lines_inside w h (border w h n) (border_lines w h n)) (λ d _. small d)))

    pub tables_paper : (l : ℕ) → tables_of w h l (framed w h n) ≡ three_of w h n (level w h n l)
    unfolding tables_of level ruled
    tables_paper zero = plain_paper (line w h) (line_lines w h)
    tables_paper (suc zero) = rw (masked_paper w h n) (plain_paper (border w h n) (border_lines w h n))
    tables_paper (suc (suc zero)) =
        let o = border w h n in
        rw (masked_paper w h n)
        (along_paper o (border_lines w h n) (bends w h (drafted w h o)) (among (kept2 w h o)) (bends_paper w h o))
    tables_paper (suc (suc (suc l))) =
        let o = border w h n in
        rw (masked_paper w h n, sides_on)
        (along_paper o (border_lines w h n) (keeps w h (drafted w h o) (tops w h o)) (among (kept3 w h o)) (keeps_paper w h o))

    -- the runs of levels 2 and 3
    kept_points_lem : (l : ℕ) (b : Bool) → eqb l 2 ≡ b → (k : List ℕ)
        → k ≡ kept_points w h l (drafted w h (border w h n)) (sides w h (framed w h n) (drafted w h (border w h n)))
        → Kept w h n (kept_at k)
    unfolding kept_points
    kept_points_lem l true e k f =
        subst (Kept w h n) (sym (ap kept_at (f ∙ rw e) ∙ bends_paper w h (border w h n))) (kept2_kept w h n)
    kept_points_lem l false e k f =
        subst (Kept w h n) (sym (ap kept_at (f ∙ rw (e, sides_on)) ∙ keeps_paper w h (border w h n))) (kept3_kept w h n)

    pub runs_paper : (l : ℕ) (m x s k : List ℕ) → m ≡ masked w h (framed w h n) → x ≡ nexts w h m
        → s ≡ sides w h (framed w h n) m → k ≡ kept_points w h l m s → TwoWay w (slots w h) x k
    runs_paper l m x s k p q r t =
        let d : m ≡ drafted w h (border w h n) = p ∙ masked_paper w h n in
        rw (q, d, nexts_paper w h (border w h n) (border_lines w h n))
        (two_way w h n room k (kept_points_lem l (eqb l 2) refl k (t ∙ rw (r, d))))

pub runs_level : (w h l : ℕ) (f m x s k : List ℕ) → within w h ≡ true → Surrounded w h f → m ≡ masked w h f
    → x ≡ nexts w h m → s ≡ sides w h f m → k ≡ kept_points w h l m s → TwoWay w (slots w h) x k
runs_level w h l f m x s k e g p q r t =
    let room = within_fits w h e in
    runs_paper w h (names w h g.sheet) room (names_side_small w h g.sheet room) l m x s k
    (p ∙ ap (masked w h) g.names) q (r ∙ ap (λ u. sides w h u m) g.names) t

pub level_tables_paper : (w h l : ℕ) (s : List ℕ) → slots w h ≤ mark
    → tables_of w h l (framed w h (names w h s)) ≡ level_tables w h l s
unfolding level_tables
level_tables_paper w h l s room = tables_paper w h (names w h s) room (names_side_small w h s room) l
