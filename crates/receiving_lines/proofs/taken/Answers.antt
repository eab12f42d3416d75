use Rattle.std.proofs.Common.{refl, sym, ap, ap₂, ◌∙◌, arith, ℕ}
use lib.ListN.{length, length-replicate}
use Rattle.receiving_answers.specs.Entry.{received}
use Rattle.receiving_answers.proofs.Answers.{number_in}
use Rattle.text_lines.specs.Answer.{answer_text}
use Rattle.text_lines.proofs.Small.{small_sizes}
use Rattle.text_lines.proofs.Answers.{told_put}
use Rattle.receiving_lines.specs.Lines.{receiving_frames}
use Rattle.receiving_lines.proofs.Slots.{back_blank, given_few, shown_few, shown_is, shown_fits}
use Rattle.receiving_lines.proofs.taken.Goals as goal

pub overflow_mul-count : goal.overflow_mul-count
overflow_mul-count c = omega (arith, c.packets-count.ensures, (small_sizes _ c.requires).0)

pub slice_bounds-slots-end : goal.slice_bounds-slots-end
slice_bounds-slots-end c =
    let long = ap length c.slot_area-slots.ensures ∙ length-replicate {A = ℕ} 23814 0 in
    omega (arith, long, c.packets-count.ensures, (small_sizes _ c.requires).0)

pub overflow_mul-shown : goal.overflow_mul-shown
overflow_mul-shown c =
    let few =
    given_few c.args.run.now.state c.args.carriers.now c.requires _ c.slot_area-slots.ensures _
    c.packets-count.ensures _ _ c.back-received.ensures in
    omega (arith, few, c.unwrap_or-shown.ensures)

pub slice_bounds-put_answer-end : goal.slice_bounds-put_answer-end
slice_bounds-put_answer-end c =
    shown_few c.args.run.now.state c.args.carriers.now c.requires _ c.slot_area-slots.ensures _
    c.packets-count.ensures _ _ c.back-received.ensures _ _ c.unwrap_or-shown.ensures

pub returns : goal.returns
returns c = λ room.
    unfold receiving_frames in
    let a = c.args in
    let zeros = c.slot_area-slots.ensures in
    let size = c.packets-count.ensures in
    let back = c.back-received.ensures in
    let count = c.unwrap_or-shown.ensures in
    let fits =
    shown_fits a.run.now.state a.carriers.now c.requires _ zeros _ size _ _ back _ _ count _ room in
    record {
      text = _;
      next = _;
      told = told_put _ a.out.now _ _ _ _ fits c.put_answer.ensures.value c.put_answer.ensures.out_after;
      says = record {
        received = received c.back-received.result c.back-received.new.state;
        slots = _;
        back_is = back_blank a.run.now.state a.carriers.now c.requires _ zeros _ size _ _ back;
        text_is =
            ap₂ answer_text (c.number-number.ensures ∙ sym (number_in c.back-received.result))
            (shown_is a.run.now.state a.carriers.now c.requires _ zeros _ size _ _ back _ _ count);
        next_is = refl;
      };
    }
