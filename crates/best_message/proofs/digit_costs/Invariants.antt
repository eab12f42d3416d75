-- The costs of the places below are there.
use Rattle.lists.proofs.Fill.{Fill}
use Rattle.best_message.specs.Steps.{digit_cost}
use Rattle.best_message.proofs.digit_costs.Given as goal

abbrev pub invariant-loop-place : goal.invariant-loop-place
invariant-loop-place l = Fill 96 (digit_cost l.taps) l.place l.costs
