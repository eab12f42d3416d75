-- When a receiving state is all zero.
--     zero_fields     where each of its fields is
use Rattle.std.proofs.Common.{◌≡◌, refl, ◌∙◌, ◌&&◌, [], ◌∷◌}
use mathlib.Core.Bool.{and-true}
use Rattle.lists.specs.Tests.{none_set}
use Rattle.settings.specs.Areas.{settings_bytes}
use Rattle.layers.specs.Record.{unused}
use Rattle.layers.specs.States.{kind_of}
use Rattle.layers.proofs.Steps.{none_laid}
use Rattle.receiving_state.specs.declared.State.{State}
use Rattle.receiving_state.specs.Bytes.{receiving_bytes}
use Rattle.receiving_state.specs.Layer.{receiving_meaning}

pub zero_fields : (state : State) → unused (kind_of receiving_meaning) state
    ≡ (none_set (settings_bytes state.settings)
    && (none_set (state.taken ∷ [])
    && (none_set state.memory
    && (none_set state.lines && (none_set (state.register ∷ []) && none_set state.held)))))
zero_fields state =
    unfold unused receiving_bytes in
    none_laid
    (settings_bytes state.settings
    ∷ (state.taken ∷ [])
    ∷ state.memory
    ∷ state.lines
    ∷ (state.register ∷ [])
    ∷ state.held
    ∷ [])
    ∙ rw (and-true (none_set state.held)) refl
