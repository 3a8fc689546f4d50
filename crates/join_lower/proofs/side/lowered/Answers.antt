use native.Mathlib.Omega.{arith}
use Rattle.join_lower.proofs.Lowering.{lower_by}
use Rattle.join_lower.proofs.side.lowered.Goals as goal

pub returns-then-name-b : goal.returns-then-name-b
returns-then-name-b c = lower_by _ _ _ _ (λ p. omega arith) (λ p. omega arith)

pub returns-then-a-b : goal.returns-then-a-b
returns-then-a-b c = lower_by _ _ _ _ (λ p. omega arith) (λ p. omega arith)

pub returns-then-name-a : goal.returns-then-name-a
returns-then-name-a c = lower_by _ _ _ _ (λ p. omega arith) (λ p. omega arith)

pub returns : goal.returns
returns c = lower_by _ _ _ _ (λ p. omega arith) (λ p. omega arith)
