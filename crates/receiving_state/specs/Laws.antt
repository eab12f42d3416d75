-- A law of receiving states that a record asks of its layers' states.
--     receiving_unused     a layer that isn't used is all zero
use Rattle.std.specs.Prelude.{◌≡◌, true, [], ◌∷◌}
use Rattle.lists.proofs.Fields.{laid_zeros}
use Rattle.lists.proofs.BitEntries.{zeros_fine}
use Rattle.layers.specs.Record.{unused, unused_layer}
use Rattle.layers.specs.States.{kind_of}
use Rattle.receiving_state.specs.State.{fresh_receiving_state}
use Rattle.receiving_state.specs.Bytes.{receiving_bytes}
use Rattle.receiving_state.specs.Layer.{receiving_meaning}

pub receiving_unused : unused (kind_of receiving_meaning) (unused_layer (kind_of receiving_meaning)) ≡ true
unfolding unused unused_layer receiving_bytes fresh_receiving_state
receiving_unused = rw (laid_zeros (4 ∷ 1 ∷ 1122 ∷ 360 ∷ 1 ∷ 3072 ∷ [])) (zeros_fine _ 4560)
