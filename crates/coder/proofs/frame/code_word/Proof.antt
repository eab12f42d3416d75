-- `coder::frame::code_word` meets its contract.
use native.Mathlib.Omega.{arith}
use borrow.Author.Rules.{rules}
use Rattle.coder.proofs.Words.{coded_few, word_done}
use Rattle.coder.proofs.frame.code_word.Statement.{statement}
use Rattle.coder.proofs.frame.code_word.Tie as tie

pub code_word_spec : {M : Type 1} → statement M
code_word_spec =
    tie.close (tie.spec (λ c κs. search rules) (λ c κs. search rules)
    (λ c. omega (arith, coded_few c.requires.0 c.requires.1 _ _ _ _ c.step-coded.ensures))
    (λ c. search rules)
    (λ c. word_done _ _ _ _ _ _ _ _ c.step-coded.ensures c.place.ensures))
