use Rattle.std.proofs.Common.{rules}
use Rattle.coding_state.proofs.States.{put_at, length_bytes}
use Rattle.coding_state.proofs.layer.StateLayerState.put.Goals as goal

pub returns-clause-placed : goal.returns-clause-placed
returns-clause-placed c =
    put_at c.args.self.now (search rules) (search rules) c.args.area.now c.args.place _ _ _ _ c.put_in.ensures
    c.put_in-2.ensures c.put_in-3.ensures c.put_in-4.ensures

pub returns-clause-long : goal.returns-clause-long
returns-clause-long c = length_bytes c.args.self.now (search rules) (search rules)
