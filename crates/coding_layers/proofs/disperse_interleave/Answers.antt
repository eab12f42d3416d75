use Rattle.std.proofs.Common.{rules}
use Rattle.layer_records.proofs.Lent.{not_lent, lent, three_with}
use Rattle.coding_answers.specs.Layers.{coding_kind}
use Rattle.coding_layers.proofs.disperse_interleave.Goals as goal

pub returns-in_err-layer_mut : goal.returns-in_err-layer_mut
returns-in_err-layer_mut c =
    not_lent coding_kind _ _ _ c.args.before.now c.in_err-layer_mut.field-0.0 c.in_err-layer_mut.ensures.answer_value _
    (search rules)

pub returns : goal.returns
returns c =
    let does = c.disperse_interleave.ensures in
    lent coding_kind _ _ _ _ _ _ _ _ _ does.0 does.1 does.2 (search rules) (search rules) (search (rules, three_with))
