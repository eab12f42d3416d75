use Rattle.std.proofs.Common.{refl}
use Rattle.field.specs.Field.{◌⊕◌}
use Rattle.field.proofs.plus.Goals as goal

pub returns : goal.returns
unfolding ◌⊕◌
returns c = refl
