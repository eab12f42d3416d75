-- `coding_lines::coded`: the carriers that are shown.
use Rattle.std.proofs.Common.{ap, ap₂, ◌∙◌, arith, ℕ, List}
use lib.ListN.{length, length-replicate}
use Rattle.coding_answers.specs.Coding.{coding, state_coded}
use Rattle.text_lines.specs.Answer.{answer_text}
use Rattle.text_lines.proofs.Small.{small_sizes}
use Rattle.text_lines.proofs.Answers.{told_put, told_as}
use Rattle.coding_lines.specs.Lines.{coding_frames, coded_text, after_coded}
use Rattle.coding_lines.proofs.Shown.{lent, shown_few, shown_is, shown_fits}
use Rattle.coding_lines.proofs.coded.Goals as goal

pub slice_bounds-carriers-end : goal.slice_bounds-carriers-end
slice_bounds-carriers-end c =
    let long = ap length c.carrier_area-carriers.ensures ∙ length-replicate {A = ℕ} 39168 0 in
    omega (arith, long, c.carriers-count.ensures, (small_sizes _ c.requires).1)

pub slice_bounds-put_answer-end : goal.slice_bounds-put_answer-end
slice_bounds-put_answer-end c =
    shown_few c.args.run.now.state c.args.packets.now c.carrier_area-carriers.result c.requires
    c.carrier_area-carriers.ensures
    c.carriers-count.result c.number-number.result _ _ _ c.carriers-count.ensures
    (c.number-number.ensures ∙ c.code-answer.ensures.0) c.code-answer.ensures.2 c.shown_of-shown.ensures

pub returns : goal.returns
returns c = λ room.
    unfold coded_text after_coded coding_frames in
    let state = c.args.run.now.state in
    let packets : List ℕ = c.args.packets.now in
    let zeros = lent state packets c.carrier_area-carriers.result c.requires
    c.carrier_area-carriers.ensures _ c.carriers-count.ensures in
    let number = c.number-number.ensures ∙ c.code-answer.ensures.0 in
    let shown =
    shown_is state packets c.carrier_area-carriers.result c.requires c.carrier_area-carriers.ensures
    _ _ _ _ _ c.carriers-count.ensures number c.code-answer.ensures.2 c.shown_of-shown.ensures in
    let fits =
    shown_fits state packets c.carrier_area-carriers.result c.requires c.carrier_area-carriers.ensures
    _ _ _ _ _ c.carriers-count.ensures number c.code-answer.ensures.2 c.shown_of-shown.ensures _ room in
    told_as (ap₂ answer_text (number ∙ ap (λ (l : List ℕ). coding state packets l) zeros) shown)
    (ap coding_frames (c.code-answer.ensures.1 ∙ ap (λ (l : List ℕ). state_coded state packets l) zeros))
    (told_put _ c.args.out.now _ _ _ _ fits c.put_answer.ensures.value c.put_answer.ensures.out_after)
