use Rattle.std.proofs.Common.{sym, ◌∙◌}
use Rattle.codeword.proofs.Message.{parities_done, parities_refused}
use Rattle.codeword.proofs.parities.Goals as goal

pub returns-then-parities : goal.returns-then-parities
returns-then-parities c =
    let made = c.parities.ensures in
    (parities_done _ _ (sym c.if-parities.true ∙ made.0), made.1)

pub returns : goal.returns
returns c =
    let made = c.parities.ensures in
    (parities_refused _ _ (sym c.if-parities.false ∙ made.0), made.1)
