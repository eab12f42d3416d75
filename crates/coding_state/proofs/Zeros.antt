-- When a coding state is all zero.
--     zero_fields     where each of its fields is
use Rattle.std.proofs.Common.{◌≡◌, refl, ◌∙◌, ◌&&◌, [], ◌∷◌}
use mathlib.Core.Bool.{and-true}
use Rattle.lists.specs.Tests.{none_set}
use Rattle.settings.specs.Areas.{settings_bytes}
use Rattle.layers.specs.Record.{unused}
use Rattle.layers.specs.States.{kind_of}
use Rattle.layers.proofs.Steps.{none_laid}
use Rattle.coding_state.specs.declared.State.{State}
use Rattle.coding_state.specs.Bytes.{coding_bytes}
use Rattle.coding_state.specs.Layer.{coding_meaning}

pub zero_fields : (state : State) → unused (kind_of coding_meaning) state
    ≡ (none_set (settings_bytes state.settings)
    && (none_set state.memory && (none_set (state.register ∷ []) && none_set state.lines)))
zero_fields state =
    unfold unused coding_bytes in
    none_laid (settings_bytes state.settings ∷ state.memory ∷ (state.register ∷ []) ∷ state.lines ∷ [])
    ∙ rw (and-true (none_set state.lines)) refl
