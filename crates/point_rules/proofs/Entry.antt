-- An entry of the point table, read at the place of two masks.
use mathlib.Core.Path.{◌≡◌}
use mathlib.Core.List.{List}
use Prim.Native.Nat.{ℕ, ◌+◌, ◌*◌, ◌<◌, ◌/◌, ◌%◌}
use native.Mathlib.Omega.{arith}
use borrow.Author.Tests.{lt-ltb}
use lib.ListN.{get_or}
use Rattle.laws.proofs.Table.{get_or_table}
use Rattle.point_rules.specs.Turn.{becomes_at, becomes_of, point_table}

pub becomes_entry : (xs : List ℕ) (m t : ℕ) → xs ≡ point_table → m < 16 → t < 16 → get_or xs (16 * m + t) 0 ≡ becomes_of m t
unfolding point_table becomes_at becomes_of
becomes_entry xs m t e a b =
    let p : (16 * m + t) / 16 ≡ m = omega arith in
    let q : (16 * m + t) % 16 ≡ t = omega arith in
    rw (e, get_or_table 256 becomes_at (16 * m + t) 0 (omega arith), p, q) (simp (lt-ltb m 16, lt-ltb t 16))
