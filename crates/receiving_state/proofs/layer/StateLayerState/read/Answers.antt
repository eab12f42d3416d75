use Rattle.receiving_state.proofs.States.{state_at_is}
use Rattle.receiving_state.proofs.layer.StateLayerState.read.Goals as goal

pub returns : goal.returns
returns c =
    state_at_is c.args.area.now c.args.place _ _ _ _ _ _ c.copy_out.ensures c.copy_out-2.ensures c.copy_out-3.ensures
    c.copy_out-4.ensures c.copy_out-5.ensures c.copy_out-6.ensures
