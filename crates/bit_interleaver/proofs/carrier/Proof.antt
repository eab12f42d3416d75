-- `bit_interleaver::carrier` meets its contract.
use mathlib.Core.Path.{sym, ap, ◌∙◌}
use Prim.Native.Nat.{ℕ}
use borrow.Author.Rules.{rules}
use Rattle.bit_interleaver.specs.Symbols.{carrier_from}
use Rattle.bit_interleaver.proofs.WidthsMade.{legal_last}
use Rattle.bit_interleaver.proofs.carrier.Statement.{statement}
use Rattle.bit_interleaver.proofs.carrier.Tie as tie

pub carrier_spec : {M : Type 1} → statement M
carrier_spec =
    tie.close (tie.spec (λ c κs. search rules)
    (λ c. c.carrier6.ensures ∙ ap (λ (w : ℕ). carrier_from w c.args.symbols.now c.args.j)
    (sym c.if-v-eq6.true))
    (λ c κs. search rules)
    (λ c. c.carrier4.ensures ∙ ap (λ (w : ℕ). carrier_from w c.args.symbols.now c.args.j)
    (sym c.if-v-eq4.true))
    (λ c κs. search rules)
    (λ c. c.carrier2.ensures ∙ ap (λ (w : ℕ). carrier_from w c.args.symbols.now c.args.j)
    (sym (legal_last c.args.v c.requires.1 c.if-v-eq6.false c.if-v-eq4.false))))
