use Rattle.std.proofs.Common.{arith}
use Rattle.settings.proofs.Frame.{packets_few}
use Rattle.receiver.proofs.accept.Goals as goal

pub overflow_mul-packets : goal.overflow_mul-packets
overflow_mul-packets c = omega (arith, c.packets.ensures, packets_few c.args.state.now.settings)
