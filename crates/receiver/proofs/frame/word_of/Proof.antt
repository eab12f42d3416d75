-- `receiver::frame::word_of` meets its contract.
use mathlib.Core.Path.{ap, ◌∙◌}
use Prim.Native.Nat.{ℕ, ◌*◌, ◌%◌}
use native.Mathlib.Omega.{arith}
use borrow.Author.Rules.{rules}
use Rattle.receiver.specs.Steps.{finished_by}
use Rattle.receiver.proofs.Gathering.{numbered, word_is}
use Rattle.receiver.proofs.frame.word_of.Statement.{statement}
use Rattle.receiver.proofs.frame.word_of.Tie as tie

returns : tie.Need-returns
returns c = (
  c.finish.ensures.0
      ∙ ap (finished_by c.args.run)
      (word_is _ c.requires.0 c.args.number _ _ _ _ c.args.last _
      (ap (λ (n : ℕ). 1632 * c.args.number % n) c.block_length-size.ensures)
      c.call_pairs-pairs.ensures),
  c.finish.ensures.1,
)

pub word_of_spec : {M : Type 1} → statement M
word_of_spec =
    tie.close (tie.spec (λ c κs. search rules) (λ c κs. search rules)
    (λ c. let all = (numbered _ c.requires.0 _ _ c.requires.1 c.block_length-size.ensures).bits in omega (arith, all))
    (λ c. (numbered _ c.requires.0 _ _ c.requires.1 c.block_length-size.ensures).some)
    (λ c κs. let left = (numbered _ c.requires.0 _ _ c.requires.1 c.block_length-size.ensures).left in
    (omega (arith, left), c.requires.3, c.call_pairs-pairs.ensures.few))
    returns)
