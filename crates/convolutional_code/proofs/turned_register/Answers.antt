use Rattle.std.proofs.Common.{◌∙◌, ap, ◌/◌, ℕ, refl}
use Rattle.convolutional_code.proofs.Turning.{turned_reverse}
use Rattle.convolutional_code.proofs.turned_register.Goals as goal

pub returns : goal.returns
returns c = ap (λ (n : ℕ). n / 4) c.reverse_bits.ensures ∙ turned_reverse 2 6 c.args.register refl
