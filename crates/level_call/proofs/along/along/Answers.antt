use mathlib.Core.Path.{◌∙◌}
use Rattle.level_call.proofs.Paper.{runs_level}
use Rattle.level_call.proofs.Tables.{along_tables_lem}
use Rattle.level_call.proofs.along.along.Goals as goal

pub links-requires : goal.links-requires
links-requires c =
    let s = c.requires in (
      c.keep_points.auto.scratch ∙ s.6,
      s.7,
      c.nexts.auto.next ∙ s.3,
      c.keep_points.auto.kept ∙ s.5,
      runs_level _ _ _ _ _ _ _ _ c.args.size.limited s.9 c.masks.ensures c.nexts.ensures c.sides.ensures
          c.keep_points.ensures,
    )

pub returns : goal.returns
returns c =
    along_tables_lem _ _ _ _ _ _ c.nexts.ensures c.sides.ensures _ _ _ _ _ c.requires.0 c.requires.1 c.masks.ensures
    c.keep_points.ensures c.links.ensures.0 c.links.ensures.1 c.trim.ensures
