-- `word_coder::symbol` meets its contract.
use native.Mathlib.Omega.{arith}
use borrow.Author.Rules.{rules}
use Rattle.word_coder.proofs.Numbers.{symbol_fits, symbol_divisor, symbol_byte, symbol_is}
use Rattle.word_coder.proofs.symbol.Statement.{statement}
use Rattle.word_coder.proofs.symbol.Tie as tie

fits : tie.Need-overflow_sub-result-2
fits c = omega (arith, symbol_fits c.requires.0 _ c.requires.1)

few : tie.Need-overflow_shl-result
few c = omega (arith, symbol_fits c.requires.0 _ c.requires.1)

pub symbol_spec : {M : Type 1} → statement M
symbol_spec =
    tie.close (tie.spec (λ c. omega (arith, symbol_fits c.requires.0 _ c.requires.1))
    (λ c. omega (arith, fits c)) fits (λ c. search rules) (λ c. search rules) (λ c. omega (arith, few c)) few
    (λ c. symbol_divisor c.requires.0) (λ c. record { fits = symbol_byte c.requires.0 _ })
    (λ c. symbol_is _ _ _ (symbol_fits c.requires.0 _ c.requires.1).few))
