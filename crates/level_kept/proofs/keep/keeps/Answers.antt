use mathlib.Core.Path.{sym, ap, ◌∙◌}
use Rattle.level_kept.proofs.Flags.{flags, settled_keeps}
use Rattle.level_kept.proofs.keep.keeps.Goals as goal

pub returns : goal.returns
returns c =
    let a = c.args in
    let m = a.masks.now in
    let t = a.tops.now in
    let e = c.points.ensures in
    settled_keeps a.size.width a.size.height m t _ _ _ e
    (c.flag.ensures ∙ ap (λ j. flags j m t j) (c.requires.2 ∙ sym e)) c.settle.ensures
