use Rattle.std.proofs.Common.{◌≡◌, ℕ, ◌*◌, Err, sym, refl, ap, ◌∙◌, rules, arith}
use borrow.Author.Tests.{eq-eqb}
use Rattle.settings.proofs.Answers.{not_done, none_given}
use Rattle.receiving_state.proofs.Good.{good_of}
use Rattle.receiving_answers.specs.Receiving.{state_received, count_received}
use Rattle.receiving_answers.proofs.Answers.{packets_are, carriers_are, packets_least, given_is_given}
use Rattle.receiving_answers.proofs.After.{accepted}
use Rattle.receiver.proofs.back.Goals as goal

-- a refused call leaves all as it was
pub returns-in_err-accept : goal.returns-in_err-accept
returns-in_err-accept c =
    unfold state_received count_received in
    let answers = c.in_err-accept.ensures in
    let test = not_done _ answers in
    let is : c.from_residual.result ≡ Err c.in_err-accept.field-0.0 = search rules in
    rw is
    record {
      answer_is = answers;
      given_is = rw test refl;
      state_is = rw test refl;
      slots_are = λ none. absurd (none_given _ (answers ∙ none));
      slots_stay = λ ne. refl;
    }

pub given-count-requires : goal.given-count-requires
given-count-requires c =
    let good = (accepted _ _ _ (sym c.in_ok-accept.ensures)).good in
    (omega (arith, c.packets-packets.ensures, packets_are _ good, packets_least _ good), (good_of _ good).taken_few)

pub take_frame-requires : goal.take_frame-requires
take_frame-requires c =
    let all = accepted _ _ _ (sym c.in_ok-accept.ensures) in
    let packets = packets_are _ all.good in (
      all.good,
      c.packets-packets.ensures ∙ packets,
      all.room ∙ carriers_are _ all.good,
      all.long ∙ ap (λ (n : ℕ). 189 * n) packets,
    )

-- any other takes the frame
pub returns : goal.returns
returns c =
    unfold state_received count_received in
    let zero = sym c.in_ok-accept.ensures in
    let good = (accepted _ _ _ zero).good in
    let packets = c.packets-packets.ensures ∙ packets_are _ good in
    let test = eq-eqb _ 0 zero in
    record {
      answer_is = c.in_ok-accept.ensures;
      given_is = rw test (c.given-count.ensures ∙ given_is_given _ good _ packets);
      state_is = rw test c.take_frame.ensures.0;
      slots_are = λ none. c.take_frame.ensures.1;
      slots_stay = λ ne. absurd (ne zero);
    }
