use Rattle.std.specs.Prelude.{◌≡◌, length}
use Rattle.cases_editor.proofs.mixture.set_regions.Given as goal

abbrev pub invariant-loop-name : goal.invariant-loop-name
invariant-loop-name l = length l.regions ≡ length l.initial.regions
