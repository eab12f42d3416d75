-- `settings_lines::answer_line` meets its contract.
use borrow.Author.Rules.{rules}
use Rattle.settings_lines.proofs.Sizes.{told, told_not}
use Rattle.settings_lines.proofs.answer_line.Statement.{statement}
use Rattle.settings_lines.proofs.answer_line.Tie as tie

pub answer_line_spec : {M : Type 1} → statement M
answer_line_spec =
    tie.close (tie.spec (λ c κs. search rules) (λ c. search rules) (λ c. search rules) (λ c. search rules)
    (λ c. search rules) (λ c. search rules) (λ c. search rules) (λ c. search rules) (λ c κs. search rules)
    (λ c. search rules)
    (λ c. told_not _ _ _ _ _ _ _ c.numbers_for-numbers.ensures c.put_answer.ensures.0 c.put_answer.ensures.1
    c.if-put_answer-eq0.true)
    (λ c. search rules)
    (λ c. told _ _ _ _ _ _ _ c.numbers_for-numbers.ensures c.put_answer.ensures.0 c.put_answer.ensures.1
    c.if-put_answer-eq0.false))
