use Rattle.std.proofs.Common.{sym, refl, ap, ◌∙◌}
use Rattle.settings.specs.Areas.{settings_of}
use Rattle.text_lines.specs.First.{well_formed, settings_begun}
use Rattle.text_lines.proofs.Begins.{settings_read}
use Rattle.text_lines.proofs.read_settings.Goals as goal

pub returns-then-not-read : goal.returns-then-not-read
unfolding well_formed settings_begun
returns-then-not-read c =
    let other = sym c.if-not-read.ensures.value in
    record { formed = sym other; written = rw other refl }

pub returns : goal.returns
unfolding well_formed
returns c =
    record {
      formed = c.if-not-read.ensures.value;
      written = ap settings_of c.read.ensures.out_after ∙ settings_read _;
    }
