-- `text_lines::read_frame` meets its contract: each return by the tests before it.
use mathlib.Core.Path.{sym, ◌∙◌}
use borrow.Author.Rules.{rules}
use Rattle.text_lines.proofs.Areas.{read_larger, read_short, read_part}
use Rattle.text_lines.proofs.read_frame.Statement.{statement}
use Rattle.text_lines.proofs.read_frame.Tie as tie

pub read_frame_spec : {M : Type 1} → statement M
read_frame_spec =
    tie.close (tie.spec (λ c κs. search rules)
    (λ c. let a = c.args in
    read_larger _ a.count a.line.now _ (sym c.is_small.ensures ∙ c.if-not-is_small.true))
    (λ c. read_short _ _ _ _ c.if-area-count.true) (λ c. search rules) (λ c. search rules) (λ c. search rules)
    (λ c κs. search rules) (λ c. search rules)
    (λ c. let fine = sym c.is_small.ensures ∙ c.if-not-is_small.false in
    read_part _ _ _ _ fine c.if-area-count.false _ _ c.read.ensures.0 c.read.ensures.1))
