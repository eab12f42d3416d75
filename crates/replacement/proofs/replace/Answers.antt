use Rattle.std.proofs.Common.{sym, refl, ◌∙◌, rules}
use borrow.Author.Tests.{eq-eqb}
use Rattle.settings.proofs.Answers.{not_done}
use Rattle.coding_state.proofs.Good.{packets_are, carriers_are}
use Rattle.coding_answers.specs.Replacement.{replaced_into, state_replaced}
use Rattle.coding_answers.proofs.Replacements.{accepted_of}
use Rattle.replacement.proofs.replace.Goals as goal

-- a refused call leaves all as it was
pub returns-in_err-accept : goal.returns-in_err-accept
returns-in_err-accept c =
    unfold state_replaced replaced_into in
    let test = not_done _ c.in_err-accept.ensures in
    (search rules, rw test refl, rw test refl)

pub add_difference-requires : goal.add_difference-requires
add_difference-requires c =
    let all = accepted_of _ _ _ _ _ (sym c.in_ok-accept.ensures) in (
      all.good,
      all.room ∙ carriers_are _ all.good,
      all.old_long,
      all.new_long,
      rw (packets_are _ all.good) at all.below,
    )

-- any other replaces
pub returns : goal.returns
returns c =
    unfold state_replaced replaced_into in
    let test = eq-eqb _ 0 (sym c.in_ok-accept.ensures) in
    (c.in_ok-accept.ensures, rw test c.add_difference.ensures.0, rw test c.add_difference.ensures.1)
