use Rattle.std.proofs.Common.{ℕ, ◌*◌, sym, refl, ap, ◌∙◌, rules}
use borrow.Author.Tests.{eq-eqb}
use Rattle.settings.proofs.Answers.{not_done}
use Rattle.coding_state.proofs.Good.{packets_are, carriers_are}
use Rattle.coding_answers.specs.Coding.{coded_into, state_coded}
use Rattle.coding_answers.proofs.Codings.{accepted_of}
use Rattle.coder.proofs.code.Goals as goal

-- a refused call leaves all as it was
pub returns-in_err-accept : goal.returns-in_err-accept
returns-in_err-accept c =
    unfold state_coded coded_into in
    let test = not_done _ (c.in_err-accept.ensures) in
    (search rules, rw test refl, rw test refl)

pub code_frame-requires : goal.code_frame-requires
code_frame-requires c =
    let all = accepted_of _ _ _ (sym (c.in_ok-accept.ensures)) in (
      all.good,
      all.long ∙ ap (λ (n : ℕ). 188 * n) (packets_are _ all.good),
      all.room ∙ carriers_are _ all.good,
    )

-- any other codes the frame
pub returns : goal.returns
returns c =
    unfold state_coded coded_into in
    let answers = c.in_ok-accept.ensures in
    let test = eq-eqb _ 0 (sym answers) in
    (answers, rw test c.code_frame.ensures.0, rw test c.code_frame.ensures.1)
