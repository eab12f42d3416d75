-- The bytes before j are there, and the state is the register after their steps.
use Rattle.std.proofs.Common.{◌≡◌, ◌*◌}
use Rattle.lists.proofs.Fill.{Fill}
use Rattle.rules.specs.Dispersal.{byte_from}
use Rattle.dispersal.specs.Register.{stages_of, register_from}
use Rattle.dispersal.proofs.first_fifteen.Given as goal

abbrev pub invariant-loop-j : goal.invariant-loop-j
invariant-loop-j l =
    (l.state ≡ register_from (stages_of l.register) (8 * l.j))
    × Fill 204 (byte_from (stages_of l.register)) l.j l.result
