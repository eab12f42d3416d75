use Rattle.std.proofs.Common.{arith}
use Rattle.lists.proofs.Fill.{fill_all}
use Rattle.rules.specs.Dispersal.{byte_from}
use Rattle.dispersal.specs.Register.{stages_of, sequence_from}
use Rattle.dispersal.proofs.Registers.{stages_digits, byte_rule, byte_rule_60}
use Rattle.dispersal.proofs.Filling.{gone_fill, begun_fill}
use Rattle.dispersal.proofs.sequence.Goals as goal

pub returns : goal.returns
unfolding sequence_from
returns c =
    let register = c.args.register in
    let stages = stages_of register in
    let fifteen = begun_fill 15 register c.first_fifteen-result.result c.first_fifteen-result.ensures in
    let sixty =
    gone_fill 15 1 _ (byte_from stages) 60 _ (byte_rule stages (stages_digits register)) (omega arith) fifteen
    c.go_on.ensures in
    fill_all 204 _
    (gone_fill 60 4 _ (byte_from stages) 204 _ (byte_rule_60 stages (stages_digits register)) (omega arith) sixty
    c.go_on-2.ensures) (omega arith)
