use Rattle.std.proofs.Common.{ℕ, ap, ◌∙◌}
use Rattle.std.specs.Prelude.{not, eqb}
use Rattle.settings.proofs.Answers.{ok_is}
use Rattle.receiving_state.proofs.Good.{tests_are}
use Rattle.receiving_state.proofs.not_good.Goals as goal

pub returns : goal.returns
returns c =
    let ok = c.is_ok-legal.ensures.value ∙ ok_is c.legal.result ∙ ap (λ (n : ℕ). eqb n 0) c.legal.ensures in
    let lines = c.bits_then_zeros-lines_fine.ensures in
    let held = c.bits_then_zeros-held_fine.ensures in
    rw (ok, lines, held, c.nothing_yet.ensures, c.held_count.ensures)
    (ap not (tests_are c.args.state.now))
