-- The first j carriers are put.
use Rattle.std.proofs.Common.{not, nat_eq}
use Rattle.bit_interleaver.specs.Symbols.{made}
use Rattle.bit_interleaver.proofs.Writing.{Writing}
use Rattle.bit_interleaver.proofs.put.Given as goal

abbrev pub invariant-loop-j : goal.invariant-loop-j
invariant-loop-j g l =
    Writing (made (not (nat_eq g.row.ADD 0))) l.v l.symbols l.first l.count l.initial.carriers l.j l.carriers
