use Rattle.std.specs.Prelude.{◌≡◌, ◌≤◌, length}
use Rattle.case_files.proofs.file.read_all.Given as goal

abbrev pub invariant-loop-name : goal.invariant-loop-name
invariant-loop-name g l = (l.end ≤ length l.bytes) × (length l.bytes ≡ length l.initial.bytes)
