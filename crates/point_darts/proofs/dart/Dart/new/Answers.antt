use Prim.Native.Nat.{suc-le-suc}
use native.Mathlib.Omega.{arith}
use borrow.Author.Tests.{lt-ltb, le-ltb, le-leb, lt-leb}
use Rattle.point_darts.specs.Dart.{mark, dart, made}
use Rattle.point_darts.proofs.dart.Dart.new.Goals as goal

pub returns-then-direction-gt3 : goal.returns-then-direction-gt3
unfolding mark dart made
returns-then-direction-gt3 c = simp (le-ltb _ 4 c.if-direction-gt3.true)

pub returns-then-point : goal.returns-then-point
unfolding mark dart made
returns-then-point c = simp (lt-ltb _ 4 (suc-le-suc c.if-direction-gt3.false), lt-leb _ 16383 c.if-point.true)

pub leaving-requires : goal.leaving-requires
unfolding mark dart
leaving-requires c = omega arith

pub returns : goal.returns
unfolding mark made
returns c =
    rw c.leaving.ensures
    (simp (lt-ltb _ 4 (suc-le-suc c.if-direction-gt3.false), le-leb _ 16383 c.if-point.false))
