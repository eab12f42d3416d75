-- `best_message::picked` meets its contract.
use Rattle.best_message.proofs.Walking.{picked_bit}
use Rattle.best_message.proofs.picked.Statement.{statement}
use Rattle.best_message.proofs.picked.Tie as tie

pub picked_spec : {M : Type 1} → statement M
picked_spec =
    tie.close (tie.spec
    (λ c. picked_bit c.args.which c.args.zero c.args.one c.requires.0 c.requires.1 c.requires.2))
