use Rattle.std.proofs.Common.{◌≡◌, refl, rules, Err}
use Rattle.layer_records.proofs.Lent.{not_lent, lent, three_with}
use Rattle.receiving_answers.specs.Layers.{receiving_kind}
use Rattle.receiving_answers.proofs.Layers.{back_does}
use Rattle.receiving_layers.proofs.back.Goals as goal

pub returns-in_err-layer_mut : goal.returns-in_err-layer_mut
returns-in_err-layer_mut c =
    let refusal = c.in_err-layer_mut.field-0.0 in
    let answer : c.from_residual.result ≡ Err refusal = search rules in
    rw answer
    (not_lent receiving_kind _ _ _ c.args.before.now refusal c.in_err-layer_mut.ensures.answer_value _ refl)

pub returns : goal.returns
returns c =
    let does = back_does _ _ _ _ _ _ c.back.ensures in
    lent receiving_kind _ _ _ _ _ _ _ _ _ does.0 does.1 does.2 (search rules) (search rules)
    (search (rules, three_with))
