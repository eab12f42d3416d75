-- A law of coding states that a record asks of its layers' states.
--     coding_unused     a layer that isn't used is all zero
use Rattle.std.specs.Prelude.{◌≡◌, true, [], ◌∷◌}
use Rattle.lists.proofs.Fields.{laid_zeros}
use Rattle.lists.proofs.BitEntries.{zeros_fine}
use Rattle.rules.specs.Bytes.{memory_at_start}
use Rattle.rules.specs.Bits.{lines_at_start}
use Rattle.layers.specs.Record.{unused, unused_layer}
use Rattle.layers.specs.States.{kind_of}
use Rattle.coding_state.specs.State.{fresh_coding_state}
use Rattle.coding_state.specs.Bytes.{coding_bytes}
use Rattle.coding_state.specs.Layer.{coding_meaning}

pub coding_unused : unused (kind_of coding_meaning) (unused_layer (kind_of coding_meaning)) ≡ true
unfolding unused unused_layer coding_bytes fresh_coding_state memory_at_start lines_at_start
coding_unused = rw (laid_zeros (4 ∷ 1122 ∷ 1 ∷ 360 ∷ [])) (zeros_fine _ 1487)
