use Rattle.std.proofs.Common.{arith}
use Rattle.settings.proofs.Patterns.{pattern_length_bounds}
use Rattle.puncturing.proofs.Tables.{legal_of, base_is, rate_small}
use Rattle.puncturing.proofs.Rate.base_of.Goals as goal

pub bounds-from : goal.bounds-from
bounds-from c = let few = rate_small (legal_of _ c.args.self.legal) in omega (arith, c.from.ensures)

pub overflow_add-result : goal.overflow_add-result
overflow_add-result c =
    let few = (pattern_length_bounds (legal_of _ c.args.self.legal)).1 in
    omega (arith, c.pattern_length-length.ensures)

pub returns : goal.returns
returns c = base_is (legal_of _ c.args.self.legal) _ _ _ c.pattern_length-length.ensures c.from.ensures
