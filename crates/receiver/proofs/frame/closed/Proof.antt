-- `receiver::frame::closed` meets its contract.
use mathlib.Core.Path.{refl, ◌∙◌}
use native.Mathlib.Omega.{arith}
use borrow.Author.Rules.{rules}
use Rattle.settings.proofs.Frame.{frame_of_is}
use Rattle.settings.proofs.LegalSettings.{legal_settings}
use Rattle.bit_interleaver.proofs.WidthsMade.{waiting_is}
use Rattle.received_bits.proofs.HeldCounts.{after_legal}
use Rattle.receiver.specs.Steps.{receiving_closed}
use Rattle.receiver.proofs.frame.closed.Statement.{statement}
use Rattle.receiver.proofs.frame.closed.Tie as tie

pub closed_spec : {M : Type 1} → statement M
closed_spec =
    tie.close (tie.spec
    (λ c κs. let least = (frame_of_is _ c.requires.0).carriers_least in
    let long = c.requires.1 in
    omega (arith, least, long))
    (λ c κs. search rules) (λ c κs. search rules)
    (λ c. unfold receiving_closed in
    let held = after_legal _ c.requires.0 _ c.requires.1 _ c.held_after-held.ensures in
    let entries = c.waits-lines.ensures ∙ waiting_is (legal_settings _ c.requires.0).bits _ in
    rw (entries, c.last_carriers-last.ensures, held) refl))
