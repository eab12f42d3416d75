-- `receiver::words::message_of` meets its contract.
use Prim.Native.Nat.{ℕ}
use borrow.Author.Rules.{rules}
use lib.ListN.{length-replicate}
use Rattle.receiver.proofs.Finishing.{message_is}
use Rattle.receiver.proofs.words.message_of.Statement.{statement}
use Rattle.receiver.proofs.words.message_of.Tie as tie

pub message_of_spec : {M : Type 1} → statement M
message_of_spec =
    tie.close (tie.spec (λ c. search rules) (λ c. search rules) (λ c. search rules) (λ c. search rules)
    (λ c. search rules) (λ c κs. search rules)
    (λ c. message_is _ c.args.lead c.requires.3 c.requires.0 c.requires.2 _ _ _ _ _ _ c.requires.1
    (search rules) (length-replicate {A = ℕ} 1632 0) c.best_message.ensures))
