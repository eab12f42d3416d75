-- `bit_interleaver::history_bit` meets its contract.
use mathlib.Core.Path.{refl}
use borrow.Author.Tests.{lt-ltb, le-ltb}
use borrow.Author.Rules.{rules}
use Rattle.bit_interleaver.specs.Symbols.{entry_before}
use Rattle.bit_interleaver.proofs.history_bit.Statement.{statement}
use Rattle.bit_interleaver.proofs.history_bit.Tie as tie

pub history_bit_spec : {M : Type 1} → statement M
history_bit_spec =
    tie.close (tie.spec (λ c. search rules) (λ c. unfold entry_before in rw (lt-ltb _ _ c.if-i-size-lt120.true) refl)
    (λ c. search rules) (λ c. search rules) (λ c. search rules) (λ c. search rules)
    (λ c. unfold entry_before in rw (le-ltb _ _ c.if-i-size-lt120.false) refl))
