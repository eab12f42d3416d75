-- `receiver::frame::call_pairs` meets its contract.
use mathlib.Core.Path.{ap, ◌∙◌}
use Prim.Native.Nat.{ℕ, ◌*◌, ◌/◌, ◌%◌}
use native.Mathlib.Omega.{arith}
use borrow.Author.Rules.{rules}
use Rattle.settings.specs.Patterns.{kept_below}
use Rattle.settings.proofs.LegalSettings.{legal_settings}
use Rattle.received_bits.proofs.HeldCounts.{count_legal}
use Rattle.receiver.proofs.Gathering.{Numbered, numbered, frame_are, held_are}
use Rattle.receiver.proofs.frame.call_pairs.Statement.{statement}
use Rattle.receiver.proofs.frame.call_pairs.Tie as tie

few : (c : tie.After-block_length-size) → Numbered c.args.number c.block_length-size.result
few c = numbered _ c.requires.0 _ _ c.requires.1 c.block_length-size.ensures

held : tie.Need-returns-then-last
held c =
    held_are _ c.requires.0 c.args.number _ _ _ _ (c.requires.2 c.if-last.true) _ _ _
    c.if-last.true (c.kept_below-lead.ensures
    ∙ ap (λ (n : ℕ). kept_below c.args.settings.rate (1632 * c.args.number % n))
    c.block_length-size.ensures)
    (count_legal _ c.requires.0 _ c.held_count.ensures).0 c.held_pairs.ensures

pub call_pairs_spec : {M : Type 1} → statement M
call_pairs_spec =
    tie.close (tie.spec (λ c κs. search rules) (λ c. let all = (few c.before).bits in omega (arith, all))
    (λ c. (few c.before).some) (λ c. let all = (few c.before).left in omega (arith, all))
    (λ c κs. search rules) (λ c κs. search rules) (λ c κs. search rules) held
    (λ c. let all = (few c.before).bits in omega (arith, all)) (λ c. (few c.before).some)
    (λ c κs. let legal = legal_settings _ c.requires.0 in
    (legal.bits, legal.rate, (few c.before).block))
    (λ c. frame_are _ c.requires.0 c.args.number _ _ _ _ _ _ c.if-last.false
    (ap (λ (n : ℕ). 1632 * c.args.number / n) c.block_length-size.ensures) c.frame_pairs.ensures))
