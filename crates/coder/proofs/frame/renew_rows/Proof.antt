-- `coder::frame::renew_rows` meets its contract.
use borrow.Author.Rules.{rules}
use Rattle.numbers.proofs.Smaller.{least_is}
use Rattle.coder.proofs.Words.{rows_fresh}
use Rattle.coder.proofs.frame.renew_rows.Statement.{statement}
use Rattle.coder.proofs.frame.renew_rows.Tie as tie

pub renew_rows_spec : {M : Type 1} → statement M
renew_rows_spec =
    tie.close (tie.spec (λ c. search rules) (λ c κs. search rules) (λ c. search rules) (λ c. search rules)
    (λ c. search rules) (λ c. search rules) (λ c. search rules) (λ c. search rules) (λ c κs. search rules)
    (λ c. search rules)
    (λ c. (
      rows_fresh _ c.args.p c.min-count.result _ c.if-p-eq0.true (least_is c.min-count.ensures).0
          (least_is c.min-count.ensures).2 c.requires.0 c.put_parities.ensures,
      search rules,
    ))
    (λ c. (c.requires.2 c.if-p-eq0.false, c.requires.1)))
