-- `line_programs::turns`: no turn is refused.
use Rattle.std.proofs.Common.{sym, ◌∙◌}
use mathlib.Core.Bool.{true≢false}
use Rattle.line_programs.proofs.Areas.{turn_made}
use Rattle.line_programs.proofs.turns.Goals as goal

pub prove-unreachable-requires : goal.prove-unreachable-requires
prove-unreachable-requires g c =
    let line = c.requires.0 ∙ sym c.loop.invariant.0 in
    let out = c.requires.1 ∙ sym c.loop.invariant.1 in
    let made = turn_made _ _ _ _ line out c.turn-turned.ensures in
    true≢false (sym made ∙ sym c.is_ok-made.ensures.value ∙ c.if-prove.true)
