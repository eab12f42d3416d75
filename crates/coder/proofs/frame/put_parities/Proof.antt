-- `coder::frame::put_parities` meets its contract.
use borrow.Author.Rules.{rules}
use Rattle.coder.proofs.Words.{parities_put, front_long}
use Rattle.coder.proofs.frame.put_parities.Statement.{statement}
use Rattle.coder.proofs.frame.put_parities.Tie as tie

pub put_parities_spec : {M : Type 1} → statement M
put_parities_spec =
    tie.close (tie.spec (λ c. search rules) (λ c. search rules) (λ c. search rules) (λ c. search rules)
    (λ c κs. search rules) (λ c. search rules)
    (λ c. let put = c.parities in
    parities_put _ _ _ _ c.requires.0 (front_long _ _ c.requires.1) put.ensures.1))
