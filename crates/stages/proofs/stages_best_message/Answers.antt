use Rattle.std.proofs.Common.{sym, ◌∙◌, length}
use Rattle.stages.proofs.BestMessages.{answering_done, answering_refused}
use Rattle.stages.proofs.stages_best_message.Goals as goal

pub returns-then-best_message : goal.returns-then-best_message
returns-then-best_message c =
    let args = c.args in
    let answered = c.best_message.ensures in
    record {
      number = answering_done args.pairs.now args.register (length args.table.now) (length args.message.now)
          (sym answered.told ∙ c.if-best_message.true);
      table_left = answered.table_left;
      message_left = answered.message_left;
    }

pub returns : goal.returns
returns c =
    let args = c.args in
    let answered = c.best_message.ensures in
    record {
      number = c.number.ensures ∙ c.best_message_refusal-refusal.ensures
          ∙ answering_refused args.pairs.now args.register (length args.table.now) (length args.message.now)
          (sym answered.told ∙ c.if-best_message.false);
      table_left = answered.table_left;
      message_left = answered.message_left;
    }
