use mathlib.Core.Path.{sym, ap, ◌∙◌}
use Prim.Native.Nat.{◌+◌}
use lib.ListN.{take}
use lib.Seq.{length-take-le, length_front}
use native.Mathlib.Omega.{arith}
use Rattle.table_entries.proofs.Cleared.{cleared_same}
use Rattle.region_names.proofs.Room.{points_part, surround_part}
use Rattle.level_call.proofs.Tables.{filled_tables}
use Rattle.level_call.proofs.fill.fill.Goals as goal

pub slice_bounds-numbered-end : goal.slice_bounds-numbered-end
slice_bounds-numbered-end c =
    let m = c.name_cells.auto.round in
    omega (arith, c.requires.6, m, surround_part _ _ _ c.points-points.ensures)

pub slice_bounds-numbered-end-2 : goal.slice_bounds-numbered-end-2
slice_bounds-numbered-end-2 c =
    let m = c.name_cells.auto.round in
    sym (length-take-le _ _ (omega (arith, c.requires.6, m, surround_part _ _ _ c.points-points.ensures)))

pub slice_bounds-numbered-end-3 : goal.slice_bounds-numbered-end-3
slice_bounds-numbered-end-3 c =
    omega (arith, c.requires.7, points_part _ _ _ c.points-points.ensures)

pub slice_bounds-numbered-end-4 : goal.slice_bounds-numbered-end-4
slice_bounds-numbered-end-4 c =
    sym (length-take-le _ _ (omega (arith, c.requires.7, points_part _ _ _ c.points-points.ensures)))

pub slice_bounds-numbered-end-5 : goal.slice_bounds-numbered-end-5
slice_bounds-numbered-end-5 c =
    omega (arith, c.requires.8, points_part _ _ _ c.points-points.ensures)

pub slice_bounds-numbered-end-6 : goal.slice_bounds-numbered-end-6
slice_bounds-numbered-end-6 c =
    sym (length-take-le _ _ (omega (arith, c.requires.8, points_part _ _ _ c.points-points.ensures)))

pub numbered-requires : goal.numbered-requires
numbered-requires c =
    let q = c.requires in
    let a = c.args in
    let k = c.name_cells.auto in
    let e = c.points-points.ensures in (
      q.0,
      length-take-le _ _ (omega (arith, q.6, k.round, surround_part _ _ _ e)) ∙ ap (λ m. m + c.args.size.width + 2) e,
      k.first ∙ q.5,
      length-take-le _ _ (omega (arith, q.7, points_part _ _ _ e)) ∙ e,
      length-take-le _ _ (omega (arith, q.8, points_part _ _ _ e)) ∙ e,
      q.2,
      q.3,
      q.4,
      record {
        sheet = a.sheet.now;
        names = ap (λ i. take (i + a.size.width + 2) c.name_cells.new.round) e ∙ c.name_cells.ensures;
      },
    )

pub returns : goal.returns
returns c =
    let a = c.args in
    let k = c.numbered.auto in
    let l = c.numbered.new in
    let m = c.name_cells.auto in (
      filled_tables a.size.width a.size.height a.level a.sheet.now _ _ c.args.size.limited
          (ap (λ i. take (i + a.size.width + 2) c.name_cells.new.round) c.points-points.ensures ∙ c.name_cells.ensures)
          c.numbered.ensures,
      c.clear_four.ensures
          ∙ cleared_same _ _ _ _ a.a.now a.b.now a.c.now a.d.now (k.next1 ∙ m.first) m.round
          (length_front a.c.now l.masks c.points-points.result k.masks)
          (length_front a.d.now l.kept c.points-points.result k.kept),
    )
