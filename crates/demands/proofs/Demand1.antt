-- Demand 1, clause by clause.
--     demand_1
use mathlib.Core.Path.{◌≡◌, refl, ◌∙◌}
use borrow.Author.Tests.{ne_eqb}
use Rattle.settings.specs.declared.Settings.{Settings}
use Rattle.settings.specs.Legal.{starting}
use Rattle.settings.proofs.Reasons.{start_answers}
use Rattle.coding_state.specs.State.{started_coding_state, zero_coding_state}
use Rattle.coding_state.proofs.Good.{zero_not_good as coding-zero}
use Rattle.coding_answers.specs.Entries.{coding_call, coding_lent, coding_reasons}
use Rattle.coding_answers.proofs.Refusals.{code_answers, replace_answers, disperse_interleave_answers}
use Rattle.coding_answers.proofs.Refusals.{code_leaves, disperse_interleave_leaves}
use Rattle.coding_answers.proofs.Replacements.{refused_stays}
use Rattle.coding_answers.proofs.Layers.{coding_lawful, entries_lawful, entries_answer}
use Rattle.receiving_state.specs.State.{started_receiving_state, zero_receiving_state}
use Rattle.receiving_answers.specs.Entries.{receiving_call, receiving_lent, receiving_reasons}
use Rattle.receiving_answers.proofs.After.{zero_not_good as receiving-zero}
use Rattle.receiving_answers.proofs.Refusals.{back_answers}
use Rattle.receiving_answers.proofs.Unique.{refused_leaves}
use Rattle.receiving_answers.proofs.Layers.{receiving_lawful}
use Rattle.receiving_answers.proofs.Layers.{entries_lawful as back_lawful, entries_answer as back-answer}
use Rattle.demands.specs.Records.{Refused}
use Rattle.demands.specs.Demand1.{Demand1}
use Rattle.demands.proofs.Records.{calls_answer, doors_answer, other_length, starts_answer}

no_states : (settings : Settings) → Refused (starting settings)
    → (started_coding_state settings ≡ zero_coding_state) × (started_receiving_state settings ≡ zero_receiving_state)
unfolding started_coding_state started_receiving_state
no_states settings refused = rw (ne_eqb (starting settings) 0 refused) (refl, refl)

pub demand_1 : Demand1
demand_1 =
    record {
      start_answers = start_answers;
      code_answers = code_answers;
      disperse_interleave_answers = disperse_interleave_answers;
      replace_answers = replace_answers;
      back_answers = back_answers;
      code_leaves = code_leaves;
      disperse_interleave_leaves = disperse_interleave_leaves;
      replace_leaves = λ state carriers number old new refused. refused_stays state carriers number old new refused;
      back_leaves = λ state carriers slots r slots' back refused.
          refused_leaves state carriers slots r slots' back (λ done. refused (back.answer_is ∙ done));
      start_refused = no_states;
      zero_not_good = (coding-zero, receiving-zero);
      coding_records = calls_answer coding_call coding_lent entries_lawful coding_reasons entries_answer;
      coding_doors = doors_answer coding_call coding_lent entries_lawful coding_reasons entries_answer;
      receiving_records = calls_answer receiving_call receiving_lent back_lawful receiving_reasons back-answer;
      receiving_doors = doors_answer receiving_call receiving_lent back_lawful receiving_reasons back-answer;
      other_coding_area = other_length coding_call coding_lent entries_lawful;
      other_receiving_area = other_length receiving_call receiving_lent back_lawful;
      coding_starts = starts_answer coding_lawful;
      receiving_starts = starts_answer receiving_lawful;
    }
