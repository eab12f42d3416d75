use Rattle.std.proofs.Common.{sym, refl, ap, ap₂, ◌∙◌, rules, replicate}
use Rattle.settings.proofs.Answers.{not_done}
use Rattle.dispersal.specs.Register.{sequence_from, added}
use Rattle.dispersal.proofs.Words.{dispersed_at}
use Rattle.coding_answers.specs.SingleWords.{dispersed_interleaved_into, state_dispersed_interleaved}
use Rattle.single_words.proofs.Outcomes.{words_long, length_part, state_left, out_left}
use Rattle.single_words.proofs.disperse_interleave.Goals as goal

-- a refused call leaves all as it was
pub returns-in_err-accept : goal.returns-in_err-accept
returns-in_err-accept c =
    unfold state_dispersed_interleaved dispersed_interleaved_into in
    let test = not_done _ c.in_err-accept.ensures in
    (search rules, rw test refl, rw test refl)

pub copy_from_slice-requires : goal.copy_from_slice-requires
copy_from_slice-requires c = sym (words_long _ _ _ _ (sym c.in_ok-accept.ensures)).0

pub copy_from_slice-requires-2 : goal.copy_from_slice-requires-2
copy_from_slice-requires-2 c =
    let long = (words_long _ _ _ _ (sym c.in_ok-accept.ensures)).1 in
    long ∙ sym (length_part _ c.walk.array_long2)

-- the word with the sequence of its place added is rule 2's
pub returns : goal.returns
returns c =
    let zero = sym c.in_ok-accept.ensures in
    let bytes =
    ap₂ added c.copy_from_slice.ensures.after
    (c.sequence-sequence.ensures ∙ ap sequence_from c.register_at.ensures)
    ∙ dispersed_at c.args.place c.args.word.now in (
      c.in_ok-accept.ensures,
      state_left _ _ _ _ zero _ bytes _ c.walk.ensures.memory_after,
      c.copy_from_slice-2.ensures.after
          ∙ out_left _ _ _ _ zero _ bytes (replicate 212 0) _ c.walk.array_long2 c.walk.ensures.stream_after,
    )
