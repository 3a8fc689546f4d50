use mathlib.Core.Path.{sym}
use native.Mathlib.Omega.{arith}
use Rattle.point_darts.proofs.Fit.{cells_fit}
use Rattle.table_entries.proofs.Front.{front_in, front_long, front_back, back_in, back_long}
use Rattle.region_names.proofs.Room.{cells_part}
use Rattle.check_call.proofs.Agreeing.{names_recovered}
use Rattle.check_call.proofs.agree.recover_names.Goals as goal

pub overflow_mul-cells : goal.overflow_mul-cells
overflow_mul-cells c = omega (arith, cells_fit _ _ c.args.size.limited)

pub slice_bounds-recover-end : goal.slice_bounds-recover-end
slice_bounds-recover-end c =
    front_in _ _ c.args.c.now c.requires.3 (cells_part _ _)

pub slice_bounds-recover-end-2 : goal.slice_bounds-recover-end-2
slice_bounds-recover-end-2 c =
    sym (front_long _ _ c.args.c.now c.requires.3 (cells_part _ _))

pub recover-requires : goal.recover-requires
recover-requires c =
    (c.requires.0, front_long _ _ c.args.c.now c.requires.3 (cells_part _ _))

pub slice_bounds-name_cells-end : goal.slice_bounds-name_cells-end
slice_bounds-name_cells-end c =
    back_in _ _ c.args.c.now c.requires.3 (cells_part _ _) c.recover.new.labels c.recover.auto.labels

pub slice_bounds-name_cells-end-2 : goal.slice_bounds-name_cells-end-2
slice_bounds-name_cells-end-2 c =
    sym (back_long _ _ c.args.c.now c.requires.3 (cells_part _ _) c.recover.new.labels c.recover.auto.labels)

pub name_cells-requires : goal.name_cells-requires
name_cells-requires c = (
  back_long _ _ c.args.c.now c.requires.3 (cells_part _ _) c.recover.new.labels c.recover.auto.labels,
  c.requires.2,
  c.requires.1,
)

pub returns : goal.returns
returns c =
    names_recovered _ _ _ _ _ _ (front_back _ _ c.args.c.now c.requires.3 (cells_part _ _) c.recover.new.labels
    c.recover.auto.labels) c.recover.ensures c.name_cells.ensures
