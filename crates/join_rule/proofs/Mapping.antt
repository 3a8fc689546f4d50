-- The tables of a drawing, at level 1 and at level 3, are those of a map.
--   Mapped s n o    == the links n, o with the sides s are those of a map
--   Reads w h x l s == the tables l and s have next, other and side of the map x
use mathlib.Core.Path.{◌≡◌, sym, ◌∙◌, ap}
use mathlib.Core.Bool.{true}
use mathlib.Core.List.{List}
use Prim.Native.Nat.{ℕ, ◌≤◌}
use native.Mathlib.Omega.{arith}
use Rattle.laws.specs.Table.{table}
use Rattle.laws.proofs.Chart.{Map, Chart}
use Rattle.laws.proofs.Level.{level_chart}
use Rattle.laws.proofs.Loop.{loops_passes}
use Rattle.laws.proofs.Over.{links}
use Rattle.point_darts.specs.Dart.{mark, slots, reversal}
use Rattle.paper.specs.Drawing.{drawn}
use Rattle.paper.specs.Joining.{Links, at, on}
use Rattle.paper_laws.proofs.Sheet.{sheet, lines_map, sheet_chart, sheet_few}
use Rattle.paper_laws.proofs.Kept.{sheet_loops}
use Rattle.paper_laws.proofs.Removed.{Reads, on_links}
use Rattle.paper_laws.proofs.Drawn.{drawn_reads, drawn_held, level_reads}
use Rattle.join_shared.specs.Mapped.{Mapped, Bare}

module _ {w h : ℕ} {x : Map} {l : Links} {s : List ℕ} (c : Chart x) (r : Reads w h x l s) (room : slots w h ≤ mark) where
  open x use {nx, rev}

  next_at : (d : ℕ) → x.on d ≡ true → at l.next d ≡ nx d
  unfolding links
  next_at d e = r.nexts d ∙ rw e

  on_next : (d : ℕ) → on l.next d ≡ x.on d
  on_next =
      on_links l.next r.nexts
      (λ d e q. let b = rw r.size at (c.turns.below (nx d) (c.turns.stays d e)) in omega arith)

  reads_mapped : Mapped s l.next l.other
  reads_mapped =
      record {
        stays = λ d e.
            let o = sym (on_next d) ∙ e in
            ap (on l.next) (next_at d o) ∙ on_next (nx d) ∙ c.turns.stays d o;
        across = λ d e.
            let o = sym (on_next d) ∙ e in
            ap (on l.next) (r.others d o) ∙ on_next (rev d) ∙ c.rev_on d o;
        pairs = λ d e.
            let o = sym (on_next d) ∙ e in
            ap (at l.other) (r.others d o) ∙ r.others (rev d) (c.rev_on d o) ∙ c.rev_rev d o;
        keeps = λ d e.
            let o = sym (on_next d) ∙ e in
            ap (at s) (next_at d o) ∙ r.sides (nx d) (c.turns.stays d o) ∙ c.keeps d o ∙ sym (r.sides d o);
      }

module _ (w h : ℕ) (n : List ℕ) (room : slots w h ≤ mark) where
  pub plain_mapped : Mapped (drawn w h n).side1 (drawn w h n).next1 (table (slots w h) (reversal w))
  unfolding sheet lines_map
  plain_mapped = reads_mapped (sheet_chart w h n) (drawn_reads w h n) room

  pub curves_mapped : Mapped (drawn w h n).side1 (drawn w h n).next3 (drawn w h n).other3
  curves_mapped =
      let c = sheet_chart w h n in
      let o = sheet_loops w h n in
      reads_mapped (level_chart c o.covers (loops_passes c (sheet_few w h n) o)) (level_reads w h n) room

  -- and a dart that has no next at level 3 has no other there
  pub curves_bare : Bare (drawn w h n).next3 (drawn w h n).other3
  unfolding links
  curves_bare =
      let c = sheet_chart w h n in
      let o = sheet_loops w h n in
      let l = level_chart c o.covers (loops_passes c (sheet_few w h n) o) in
      record {
        none = λ d e. (drawn_held w h n).over.others d ∙ rw (sym (on_next l (level_reads w h n) room d) ∙ e);
      }
