use Rattle.std.proofs.Common.{◌+◌, ◌-◌, ◌*◌, ◌/◌, ◌%◌, ◌<◌, arith}
use Rattle.settings.specs.Sizes.{packets_by_rate}
use Rattle.settings.proofs.Patterns.{pattern_length_bounds}
use Rattle.puncturing.proofs.Tables.{legal_of, source_small, shift_is}
use Rattle.puncturing.proofs.Rate.shift_of.Goals as goal

pub overflow_add-source : goal.overflow_add-source
overflow_add-source c =
    let few = (pattern_length_bounds (legal_of _ c.args.self.legal)).1 in
    omega (arith, c.pattern_length-length.ensures)

pub overflow_add-length : goal.overflow_add-length
overflow_add-length c =
    let few = (pattern_length_bounds (legal_of _ c.args.self.legal)).1 in
    omega (arith, c.pattern_length-length.ensures)

inside : (c : goal.After-block_length)
    → c.args.i / (c.pattern_length-length.result + 1) * c.pattern_length-length.result
    + (c.args.i % (c.pattern_length-length.result + 1) - 1) < packets_by_rate c.args.self.number
inside c =
    source_small (legal_of _ c.args.self.legal) c.args.i c.pattern_length-length.result c.requires
    c.pattern_length-length.ensures

pub overflow_sub-result : goal.overflow_sub-result
overflow_sub-result c = omega (arith, inside c, c.block_length.ensures)

pub overflow_sub-result-2 : goal.overflow_sub-result-2
overflow_sub-result-2 c = omega (arith, inside c, c.block_length.ensures, c.saturating_sub.ensures)

pub returns : goal.returns
returns c =
    shift_is _ _ _ _ _ c.pattern_length-length.ensures c.block_length.ensures c.saturating_sub.ensures
