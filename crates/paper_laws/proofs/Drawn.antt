-- What the tables of a drawing hold, for any table n of names.
--   links mark on f == f at the darts that are on, the mark elsewhere
--   anchors w h n   == the points that level 3 keeps
use mathlib.Core.Path.{◌≡◌, refl, ◌∙◌, ap, fun_ext}
use mathlib.Core.Bool.{Bool, true, cond, ◌&&◌}
use mathlib.Core.List.{List}
use Prim.Native.Nat.{ℕ, ◌≤◌, ◌<◌}
use lib.ListN.{length}
use Rattle.laws.specs.Table.{table}
use Rattle.laws.proofs.Test.{and_left}
use Rattle.laws.proofs.Table.{get_or_table}
use Rattle.laws.proofs.Chart.{Chart}
use Rattle.laws.proofs.Chart as Chart
use Rattle.laws.proofs.Over.{links}
use Rattle.point_darts.specs.Dart.{mark, slots, point, reversal}
use Rattle.paper.specs.Name.{names}
use Rattle.paper.specs.Level.{side, border, next, last, along, plain, level, kept3, among, marked}
use Rattle.paper.specs.Drawing.{drawn}
use Rattle.paper.specs.Joining.{Links, at, on}
use Rattle.paper_laws.proofs.Sheet.{lines_map, sheet, sheet_chart, sheet_few, border_alone, border_below}
use Rattle.paper_laws.proofs.Along.{last_last}
use Rattle.paper_laws.proofs.Marks.{length_marked, at_marked, at_held, on_marked, names_side_small}
use Rattle.paper_laws.proofs.Removed.{Reads}
use Rattle.paper_laws.proofs.Held.{Plane, Held}

-- the sides of level 1 tell the darts that are on
pub sides_on : (w h : ℕ) (s : List ℕ) → slots w h ≤ mark
    → let n = names w h s in on (marked w h (border w h n) (side w h n)) ≡ border w h n
sides_on w h s small =
    let n = names w h s in
    fun_ext (on_marked w h (border w h n) (side w h n) (border_below w h n) (λ d _. names_side_small w h s small d))

module _ (w h : ℕ) (n : List ℕ) where
  abbrev pub anchors : ℕ → Bool
  anchors = among (kept3 w h (border w h n))

  pub sheet_plane : Plane w h (sheet w h n)
  unfolding sheet lines_map
  sheet_plane =
      record {
        size = refl;
        leaves = λ d. refl;
        chart = sheet_chart w h n;
        few = sheet_few w h n;
        alone = border_alone w h n;
      }

  on3 : ℕ → Bool
  on3 d = border w h n d && anchors (point d)

  on3_below : (d : ℕ) → on3 d ≡ true → d < slots w h
  unfolding on3
  on3_below d e = border_below w h n d (and_left (border w h n d) (anchors (point d)) e)

  -- the tables of level 1
  pub drawn_next1 : (d : ℕ) → at (drawn w h n).next1 d ≡ links mark (border w h n) (next w (border w h n)) d
  unfolding drawn level plain links
  drawn_next1 d = at_marked w h (border w h n) (next w (border w h n)) (border_below w h n) d

  pub drawn_side1 : (d : ℕ) → border w h n d ≡ true → at (drawn w h n).side1 d ≡ side w h n d
  unfolding drawn level plain
  drawn_side1 d e = at_held w h (border w h n) (side w h n) (border_below w h n) d e

  -- the tables of level 3
  abbrev pub drawn_links : Links
  drawn_links = record { next = (drawn w h n).next3; other = (drawn w h n).other3 }

  pub drawn_held : Held w h (sheet w h n) anchors drawn_links
  unfolding drawn level along links on3 Chart.level sheet lines_map
  drawn_held =
      let o = border w h n in
      record {
        over = record {
          nexts = λ d.
              at_marked w h on3 (λ e. next w o (last w h o anchors e)) on3_below d
              ∙ ap (λ e. cond (on3 d) (next w o e) mark) (last_last w h n anchors d);
          others = λ d.
              at_marked w h on3 (λ e. reversal w (last w h o anchors e)) on3_below d
              ∙ ap (λ e. cond (on3 d) (reversal w e) mark) (last_last w h n anchors d);
        };
        nexts = length_marked w h on3 (λ e. next w o (last w h o anchors e));
        others = length_marked w h on3 (λ e. reversal w (last w h o anchors e));
      }

  -- the tables of reversals, next and side, read as those of the map
  pub drawn_reads :
      Reads w h (sheet w h n)
      (record { next = (drawn w h n).next1; other = table (slots w h) (reversal w) })
      (drawn w h n).side1
  unfolding sheet lines_map at
  drawn_reads =
      record {
        size = refl;
        nexts = drawn_next1;
        others = λ d e. get_or_table (slots w h) (reversal w) d mark (border_below w h n d e);
        sides = drawn_side1;
      }

  pub level_reads : Reads w h (Chart.level (sheet w h n) anchors) drawn_links (drawn w h n).side1
  unfolding links Chart.level sheet lines_map
  level_reads =
      record {
        size = refl;
        nexts = drawn_held.over.nexts;
        others = λ d e. drawn_held.over.others d ∙ rw e;
        sides = λ d e. drawn_side1 d (and_left (border w h n d) (anchors (point d)) e);
      }

  pub length_next1 : length (drawn w h n).next1 ≡ slots w h
  unfolding drawn level plain
  length_next1 = length_marked w h (border w h n) (next w (border w h n))
