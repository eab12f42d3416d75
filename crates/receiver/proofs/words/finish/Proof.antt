-- `receiver::words::finish` meets its contract.
use borrow.Author.Rules.{rules}
use Rattle.receiver.proofs.Finishing.{finish_is}
use Rattle.receiver.proofs.words.finish.Statement.{statement}
use Rattle.receiver.proofs.words.finish.Tie as tie

returns : tie.Need-returns
returns c = (
  finish_is _ _ _ _ _ _ _ c.message_of-message.ensures c.bytes_of-bytes.ensures
      c.register_of-register.ensures.0 c.memory_back-memory.ensures c.out_back-word.ensures,
  c.register_of-register.ensures.1,
)

pub finish_spec : {M : Type 1} → statement M
finish_spec =
    tie.close (tie.spec (λ c κs. search rules) (λ c κs. search rules) (λ c κs. search rules)
    (λ c κs. search rules) (λ c κs. search rules) returns)
