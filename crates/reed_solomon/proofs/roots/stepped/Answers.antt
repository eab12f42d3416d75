-- The three ends: a term that is 0, a table that goes on, and one that begins again.
use Rattle.std.proofs.Common.{arith}
use Rattle.reed_solomon.proofs.Searching.{step_zero, step_up, step_round}
use Rattle.reed_solomon.proofs.roots.stepped.Goals as goal

pub returns-then-e-lt32 : goal.returns-then-e-lt32
returns-then-e-lt32 c = λ t. step_zero _ _ t (omega arith)

pub returns-then-s-lt287 : goal.returns-then-s-lt287
returns-then-s-lt287 c = λ t. step_up _ _ t (omega arith) (omega arith)

pub returns : goal.returns
returns c = λ t. step_round _ _ t (omega arith) (omega arith) (omega arith) (omega arith)
