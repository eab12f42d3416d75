use Rattle.std.proofs.Common.{sym, ◌∙◌}
use Rattle.settings_lines.proofs.Sizes.{formed, other}
use Rattle.settings_lines.proofs.numbers_for.Goals as goal

pub returns-in-Some : goal.returns-in-Some
returns-in-Some c =
    let read = c.in-Some.ensures in
    formed _ (sym read.formed) _ _ _ _ read.written (c.number.ensures ∙ c.legal.ensures)
    c.packets.ensures c.carriers.ensures

pub returns-in-None : goal.returns-in-None
returns-in-None c = other _ (sym c.in-None.ensures.formed)
