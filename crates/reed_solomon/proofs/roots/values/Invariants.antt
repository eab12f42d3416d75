-- Four values are stored for each turn, and e has the terms at the next place.
use Rattle.std.proofs.Common.{◌*◌}
use Rattle.field.specs.Field.{power}
use Rattle.field.specs.Roots.{poly}
use Rattle.lists.proofs.Fill.{Fill}
use Rattle.reed_solomon.specs.Search.{Terms}
use Rattle.reed_solomon.proofs.roots.values.Given as goal

abbrev pub invariant-loop-turn : goal.invariant-loop-turn
invariant-loop-turn l = Fill 204 (λ i. poly l.l (power 2 i)) (4 * l.turn) l.v × Terms l.l (4 * l.turn) l.e
