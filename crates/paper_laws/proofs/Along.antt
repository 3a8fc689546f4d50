-- The levels of the sheet: every level's next and other.
--   level_map w h n l == the level l of the sheet with the names n, as a map
--   along w h on keep == the level of the lines with the points that pass the test keep kept
--   last w h on keep d == the last dart of the run from d to the next kept point
--   Kept w h n keep  == from every dart some kept point is ahead, and the others are passed straight
--   level w h n l    == level l of the sheet: 1 the lines between regions, 2 and 3 along the points of kept2 and kept3
use mathlib.Core.Path.{◌≡◌, sym, ap, subst, fun_ext}
use mathlib.Core.Bool.{Bool, true, ◌&&◌}
use mathlib.Core.List.{List}
use mathlib.Core.Logic.{◌≢◌}
use Prim.Native.Nat.{ℕ, zero, suc, ◌<◌}
use Rattle.laws.specs.Run.{run}
use Rattle.laws.proofs.Chart.{Map, Chart, Covers, Passes, last as last', level as level'}
use Rattle.laws.proofs.Level.{leads, last_run, last_on, last_kept, last_side, level_chart}
use Rattle.laws.proofs.Loop.{loops_passes}
use Rattle.laws.proofs.Walk.{Run}
use Rattle.point_darts.specs.Dart.{slots, point, far, reversal}
use Rattle.point_darts.proofs.Darts.{point_reversal}
use Rattle.paper.specs.Level.{Level, side, border, next, plain, last, along, kept2, kept3, among, level}
use Rattle.paper_laws.proofs.Sheet.{sheet, sheet_chart, sheet_few}
use Rattle.paper_laws.proofs.Kept.{sheet_loops}
use Rattle.paper_laws.proofs.Straight.{kept2_covers, kept2_passes}

unfoldable pub level_map : ℕ → ℕ → List ℕ → Level → Map
level_map w h n l =
    record { n = slots w h; on = l.on; rev = l.other; nx = l.next; pt = point; side = side w h n }

pub record Kept (w h : ℕ) (n : List ℕ) (keep : ℕ → Bool) : Type 0 where
  pub covers : Covers (sheet w h n) keep
  pub passes : Passes (sheet w h n) keep

-- What is said of a level that is a chart.
module _ (w h : ℕ) (n : List ℕ) (l : Level) (c : Chart (level_map w h n l)) where
  -- other is a dart of the level, another one, and other of it leads back
  pub other_stays : (d : ℕ) → l.on d ≡ true → l.on (l.other d) ≡ true
  unfolding level_map
  other_stays = c.rev_on

  pub other_other : (d : ℕ) → l.on d ≡ true → l.other (l.other d) ≡ d
  unfolding level_map
  other_other = c.rev_rev

  pub other_side : (d : ℕ) → l.on d ≡ true → side w h n (l.other d) ≢ side w h n d
  unfolding level_map
  other_side = c.parts

  pub other_apart : (d : ℕ) → l.on d ≡ true → l.other d ≢ d
  other_apart d e q = other_side d e (ap (side w h n) q)

  -- next is one-to-one among the darts of the level, starts where other does, and keeps the side
  pub next_stays : (d : ℕ) → l.on d ≡ true → l.on (l.next d) ≡ true
  unfolding level_map
  next_stays = c.turns.stays

  pub next_once : (d e : ℕ) → l.on d ≡ true → l.on e ≡ true → l.next d ≡ l.next e → d ≡ e
  unfolding level_map
  next_once = c.turns.once

  pub next_point : (d : ℕ) → l.on d ≡ true → point (l.next d) ≡ point (l.other d)
  unfolding level_map
  next_point = c.leaves

  pub next_side : (d : ℕ) → l.on d ≡ true → side w h n (l.next d) ≡ side w h n d
  unfolding level_map
  next_side = c.keeps

  pub level_below : (d : ℕ) → l.on d ≡ true → d < slots w h
  unfolding level_map
  level_below = c.turns.below

-- The level along the points that pass keep is the chart's.
module _ (w h : ℕ) (n : List ℕ) (keep : ℕ → Bool) where
  pub stop_leads : (λ e. keep (far w e)) ≡ leads (sheet w h n) keep
  unfolding sheet
  stop_leads = fun_ext (λ e. ap keep (sym (point_reversal w e)))

  pub last_last : (d : ℕ) → last w h (border w h n) keep d ≡ last' (sheet w h n) keep d
  unfolding last last' sheet
  last_last d = ap (λ s. run (next w (border w h n)) s (slots w h) d) stop_leads

  pub along_map : level_map w h n (along w h (border w h n) keep) ≡ level' (sheet w h n) keep
  unfolding level_map along level' sheet
  along_map =
      λ i. record {
        n = slots w h;
        on = λ d. border w h n d && keep (point d);
        rev = λ d. reversal w (last_last d i);
        nx = λ d. next w (border w h n) (last_last d i);
        pt = point;
        side = side w h n;
      }

  module _ (g : Kept w h n keep) where
    pub along_chart : Chart (level_map w h n (along w h (border w h n) keep))
    along_chart = subst Chart (sym along_map) (level_chart (sheet_chart w h n) g.covers g.passes)

    -- every run ends at a kept point, and keeps the side
    module _ (d : ℕ) (e : border w h n d ≡ true) where
      pub run_on : border w h n (last w h (border w h n) keep d) ≡ true
      unfolding sheet
      run_on = rw (last_last d) (last_on (sheet_chart w h n) g.covers d e)

      pub run_ends : keep (far w (last w h (border w h n) keep d)) ≡ true
      unfolding sheet
      run_ends = rw (last_last d, ← point_reversal w _) (last_kept (sheet_chart w h n) g.covers d e)

      pub run_led : (j : ℕ) × (j < slots w h)
          × Run (next w (border w h n)) (λ e. keep (far w e)) j d (last w h (border w h n) keep d)
      unfolding sheet
      run_led = rw (last_last d, stop_leads) (last_run (sheet_chart w h n) g.covers d e)

      pub run_side : side w h n (last w h (border w h n) keep d) ≡ side w h n d
      unfolding sheet
      run_side = rw (last_last d) (last_side (sheet_chart w h n) g.covers d e)

-- The levels of the sheet.
module _ (w h : ℕ) (n : List ℕ) where
  pub kept2_kept : Kept w h n (among (kept2 w h (border w h n)))
  kept2_kept = record { covers = kept2_covers w h n; passes = kept2_passes w h n }

  pub kept3_kept : Kept w h n (among (kept3 w h (border w h n)))
  kept3_kept =
      let g = sheet_loops w h n in
      record { covers = g.covers; passes = loops_passes (sheet_chart w h n) (sheet_few w h n) g }

  plain_chart : Chart (level_map w h n (plain w (border w h n)))
  unfolding level_map plain sheet
  plain_chart = sheet_chart w h n

  pub levels_chart : (l : ℕ) → Chart (level_map w h n (level w h n (suc l)))
  unfolding level
  levels_chart zero = plain_chart
  levels_chart (suc zero) = along_chart w h n (among (kept2 w h (border w h n))) kept2_kept
  levels_chart (suc (suc l)) = along_chart w h n (among (kept3 w h (border w h n))) kept3_kept
